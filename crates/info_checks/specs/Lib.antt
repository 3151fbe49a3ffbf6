pub mod Form
pub mod Dangling
pub mod Refines
