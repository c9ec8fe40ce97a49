pub mod Levels
pub mod Taking
pub mod Reading
pub mod Writing
pub mod Clearing
pub mod Zeros
pub mod Starting
