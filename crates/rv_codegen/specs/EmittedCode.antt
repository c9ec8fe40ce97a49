pub mod Kept
pub mod Saving
