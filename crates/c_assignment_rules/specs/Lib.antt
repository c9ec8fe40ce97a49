pub mod Assignable
pub mod Writing
pub mod Assignments
