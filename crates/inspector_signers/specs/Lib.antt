pub mod Signers
pub mod Refines
