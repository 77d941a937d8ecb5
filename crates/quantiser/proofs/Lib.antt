pub mod Lowest
pub mod Request
pub mod Accepted
