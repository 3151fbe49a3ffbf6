pub mod Sized
pub mod Plays
pub mod Runs
