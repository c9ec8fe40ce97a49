pub mod Memory
pub mod Spaces
pub mod State
pub mod Calls
pub mod Meaning
pub mod Words
pub mod Routines
