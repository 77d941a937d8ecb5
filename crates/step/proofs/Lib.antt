pub mod Known
pub mod Own
pub mod Quarters
