pub mod Kernels
pub mod Rows
pub mod Jobs
pub mod Distances
