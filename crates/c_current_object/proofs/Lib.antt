pub mod Starts
pub mod Levels
