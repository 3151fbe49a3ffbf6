pub mod Merge
pub mod Rounds
pub mod Emit
