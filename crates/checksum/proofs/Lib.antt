pub mod Register
pub mod Published
pub mod Stored
