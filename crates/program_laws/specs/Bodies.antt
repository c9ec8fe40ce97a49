pub mod Defined
pub mod Given
pub mod Parameters
pub mod Parts
pub mod Standing
pub mod Typed
pub mod Types
pub mod Whole
