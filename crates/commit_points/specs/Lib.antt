pub mod Name
pub mod Certify
pub mod Resolve
