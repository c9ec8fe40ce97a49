pub mod Built
pub mod LeveledReads
pub mod Steps
pub mod Deeper
pub mod Functions
