pub mod Faults
pub mod Refines
pub mod Sizes
