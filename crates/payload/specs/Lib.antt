pub mod Payload
pub mod Tables
