pub mod Payload
pub mod Tables
pub mod Bytes
pub mod Marked
