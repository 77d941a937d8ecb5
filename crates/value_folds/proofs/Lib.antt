pub mod Sizes
pub mod Filling
pub mod Read
pub mod Carried
