pub mod Model
pub mod Used
pub mod Codes
pub mod Words
pub mod Tests
pub mod Refines
pub mod Point
pub mod RefinesPoint
