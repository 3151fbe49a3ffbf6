pub mod Model
pub mod Refines
pub mod Drop
pub mod Remove
