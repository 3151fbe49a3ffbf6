pub mod Each
pub mod Linked
pub mod Picks
pub mod Counts
pub mod Drawn
pub mod Refines
pub mod RefinesPicks
