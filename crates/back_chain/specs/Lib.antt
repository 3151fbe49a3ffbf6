pub mod Chain
pub mod RefinesWalk
pub mod Model
pub mod Refines
pub mod Walked
