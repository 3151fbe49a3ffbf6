pub mod Chain
pub mod InRow
pub mod Examples
