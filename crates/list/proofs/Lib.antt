pub mod Sort
pub mod Order
pub mod Phase
pub mod Paths
pub mod Best
