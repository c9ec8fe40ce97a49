pub mod Entities
pub mod Functions
