pub mod Counts
pub mod Places
