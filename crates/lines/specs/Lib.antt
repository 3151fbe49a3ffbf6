pub mod Decimal
pub mod Held
pub mod Lines
pub mod Put
pub mod Said
