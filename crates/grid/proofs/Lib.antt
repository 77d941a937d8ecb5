pub mod Grid
pub mod Stages
pub mod Bytes
