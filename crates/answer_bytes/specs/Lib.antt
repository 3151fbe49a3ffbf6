pub mod Bytes
pub mod Sent
