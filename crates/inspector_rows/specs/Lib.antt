pub mod Rows
pub mod Must
pub mod Memory
