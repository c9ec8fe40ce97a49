pub mod Changing
pub mod Lives
pub mod Moves
pub mod Shared
pub mod Starts
