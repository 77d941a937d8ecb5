pub mod Candidates
pub mod Rows
pub mod Stepping
pub mod Two
pub mod Twofold
