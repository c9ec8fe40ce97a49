pub mod Content
pub mod Failures
pub mod Faults
pub mod HeldFile
pub mod MemoryFiles
pub mod MemorySink
pub mod MemorySource
pub mod Rest
