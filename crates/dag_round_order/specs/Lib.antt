pub mod Shift
pub mod Free
pub mod Store
pub mod Marks
pub mod Span
