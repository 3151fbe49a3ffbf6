pub mod Counters
pub mod PeerStats
pub mod Ranges
