pub mod Model
pub mod Held
pub mod Flags
pub mod RefinesLinks
pub mod Ranged
pub mod Refines
