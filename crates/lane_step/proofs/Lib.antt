pub mod Before
pub mod Fresh
pub mod Stepping
