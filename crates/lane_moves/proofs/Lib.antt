pub mod Places
pub mod Planes
pub mod Twins
