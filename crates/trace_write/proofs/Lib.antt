pub mod Puts
pub mod ResolveSaid
