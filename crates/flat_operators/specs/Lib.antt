pub mod Operators
pub mod Results
pub mod Pointers
