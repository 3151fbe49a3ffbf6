pub mod Down
pub mod Model
pub mod Supposing
pub mod Marks
pub mod RefinesNeeded
pub mod Picked
pub mod Refines
