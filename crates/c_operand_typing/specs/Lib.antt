pub mod Primaries
pub mod Operators
pub mod Calls
