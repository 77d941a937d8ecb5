pub mod Near
pub mod Fixed
