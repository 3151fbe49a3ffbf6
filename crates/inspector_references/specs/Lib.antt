pub mod Sets
pub mod Trusted
pub mod Refs
pub mod Live
pub mod Referring
