pub mod Follow
pub mod Rows
