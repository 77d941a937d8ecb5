pub mod Integers
pub mod Numbers
pub mod Greater
pub mod Best
pub mod Folding
pub mod Arikan
pub mod Whole
