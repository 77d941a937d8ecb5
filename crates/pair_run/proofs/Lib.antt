pub mod Prefixes
pub mod Layered
pub mod Premises
pub mod Rows
