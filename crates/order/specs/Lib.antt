pub mod Order
pub mod Jobs
