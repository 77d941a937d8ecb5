pub mod Jobs
pub mod Exact
