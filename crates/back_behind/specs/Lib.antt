pub mod Model
pub mod Best
pub mod Refines
