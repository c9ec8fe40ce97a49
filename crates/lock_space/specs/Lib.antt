pub mod Locks
pub mod Routines
