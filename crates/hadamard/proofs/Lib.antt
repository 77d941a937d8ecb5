pub mod Sums
pub mod Butterfly
pub mod Holding
