pub mod Fields
pub mod Lines
pub mod Listings
pub mod Names
pub mod Operands
