pub mod Later
pub mod Excluded
pub mod Signers
