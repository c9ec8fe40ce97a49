pub mod FileState
pub mod Limits
pub mod Outlines
pub mod ProgramRefused
pub mod Rooms
pub mod Slots
pub mod Statics
pub mod Words
