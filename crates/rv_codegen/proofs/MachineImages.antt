pub mod Sizes
pub mod Loaded
