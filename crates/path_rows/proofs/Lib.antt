pub mod Totals
pub mod Paid
pub mod Transformed
