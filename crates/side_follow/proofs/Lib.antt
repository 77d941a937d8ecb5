pub mod Phases
pub mod Values
pub mod Requests
