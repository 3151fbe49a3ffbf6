pub mod Fill
pub mod Zero
pub mod Key
pub mod Sorted
pub mod Digest
pub mod Id
pub mod Look
