pub mod Told
pub mod Passing
pub mod Author
pub mod Refines
