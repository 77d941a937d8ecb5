pub mod Rounding
pub mod Bound
pub mod Fixed
