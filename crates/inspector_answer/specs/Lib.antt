pub mod AllFaults
pub mod Answer
pub mod Answered
pub mod Peers
