pub mod Steps
pub mod Fed
