pub mod Loading
pub mod Stepping
pub mod Fronts
pub mod Rows
