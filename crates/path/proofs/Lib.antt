pub mod Growing
pub mod Copies
pub mod Records
