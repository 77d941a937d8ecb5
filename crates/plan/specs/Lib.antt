pub mod Plan
pub mod Pairs
