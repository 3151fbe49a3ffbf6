pub mod Commit
pub mod Paths
