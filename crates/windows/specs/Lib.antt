pub mod Windows
pub mod Tables
pub mod Paths
