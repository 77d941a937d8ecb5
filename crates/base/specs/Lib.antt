pub mod Bit
pub mod Place
