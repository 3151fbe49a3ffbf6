pub mod Blank
pub mod Start
