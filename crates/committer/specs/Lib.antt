pub mod Replies
pub mod Writes
