pub mod Puts
pub mod Fields
pub mod Ids
pub mod Rounds
pub mod Points
pub mod Resolve
