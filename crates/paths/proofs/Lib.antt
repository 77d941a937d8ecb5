pub mod Digits
pub mod Signs
pub mod Known
pub mod Slots
pub mod Best
pub mod Halves
pub mod Steps
