pub mod Bounded
pub mod Calls
pub mod Operators
pub mod Recursion
pub mod Steps
pub mod Words
