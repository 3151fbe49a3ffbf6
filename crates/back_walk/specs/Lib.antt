pub mod Model
pub mod Refines
