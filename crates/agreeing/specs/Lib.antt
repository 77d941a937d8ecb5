pub mod Agreeing
pub mod Found
