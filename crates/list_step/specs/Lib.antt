pub mod Step
pub mod Marked
pub mod Two
