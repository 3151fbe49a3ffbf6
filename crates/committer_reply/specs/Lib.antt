pub mod Reply
pub mod Args
