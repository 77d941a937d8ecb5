pub mod Runs
pub mod Penalties
