pub mod View
pub mod Model
pub mod Cells
pub mod Refines
