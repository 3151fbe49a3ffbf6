pub mod ModelPoints
pub mod Model
pub mod RefinesPoints
pub mod Refines
