pub mod Samples
pub mod Hexadecimal
pub mod LibrarySamples
mod Blocks
mod Calls
mod Evaluation
mod Heap
mod Initializers
mod Library
mod Operators
mod Pointers
mod Programs
mod Statements
mod Structures
mod Valid
