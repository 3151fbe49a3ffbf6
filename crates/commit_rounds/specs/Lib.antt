pub mod Gap
pub mod Round
pub mod Drain
pub mod Drop
