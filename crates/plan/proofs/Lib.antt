pub mod Layered
pub mod Unused
