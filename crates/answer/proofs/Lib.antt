pub mod Number
pub mod Settle
pub mod Written
