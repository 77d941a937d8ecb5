pub mod Turning
pub mod Pasted
