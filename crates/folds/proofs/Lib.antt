pub mod Fill
pub mod Shortfall
pub mod Pairs
pub mod Range
pub mod Limit
pub mod Rows
pub mod Signs
