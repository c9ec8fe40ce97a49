pub mod Gains
pub mod Held
pub mod Parts
pub mod Readings
pub mod Takings
