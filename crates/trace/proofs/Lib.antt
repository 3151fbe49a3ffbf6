pub mod ReadBack
pub mod WriteBack
pub mod Unread
pub mod Put
pub mod CodeAt
