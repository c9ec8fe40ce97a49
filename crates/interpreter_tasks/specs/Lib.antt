pub mod Registers
pub mod Actions
pub mod Tasks
pub mod Parts
pub mod Steps
