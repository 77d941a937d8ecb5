pub mod Rounded
pub mod Nearest
pub mod Products
pub mod Bound
pub mod Fixed
pub mod Patterns
