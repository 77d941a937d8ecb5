pub mod Sums
pub mod Fours
