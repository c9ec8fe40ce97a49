pub mod Types
pub mod Values
pub mod Rows
pub mod Binary
pub mod Fine
pub mod Unary
pub mod Conversions
