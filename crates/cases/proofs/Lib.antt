pub mod Computed
pub mod Distances
pub mod Starred
pub mod Constant
