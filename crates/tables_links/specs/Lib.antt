pub mod Links
pub mod Named
pub mod Bare
pub mod Words
pub mod Ruled
