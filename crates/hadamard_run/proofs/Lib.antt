pub mod Packing
pub mod Whole
