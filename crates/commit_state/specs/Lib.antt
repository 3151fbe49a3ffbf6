pub mod State
pub mod View
pub mod Back
pub mod Reads
pub mod Numbers
pub mod Memory
