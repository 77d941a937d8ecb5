pub mod Sort
pub mod Paths
pub mod Best
pub mod Ahead
