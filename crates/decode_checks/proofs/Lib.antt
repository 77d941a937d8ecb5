pub mod Outside
pub mod Taken
pub mod Refused
