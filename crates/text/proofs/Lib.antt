pub mod Stored
pub mod Text
pub mod Reading
