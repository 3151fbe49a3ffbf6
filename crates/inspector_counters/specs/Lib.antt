pub mod Places
pub mod Tests
pub mod Count
pub mod Counts
pub mod Counters
