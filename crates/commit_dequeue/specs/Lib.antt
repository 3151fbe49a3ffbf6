pub mod Model
pub mod Refines
pub mod All
