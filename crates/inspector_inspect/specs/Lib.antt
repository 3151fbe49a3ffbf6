pub mod Filled
pub mod After
pub mod Owed
pub mod Report
pub mod Inspected
