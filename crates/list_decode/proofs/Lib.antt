pub mod Two
pub mod Answers
pub mod Accepted
pub mod Exact
pub mod Found
