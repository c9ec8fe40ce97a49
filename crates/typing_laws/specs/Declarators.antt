pub mod Extending
pub mod Given
