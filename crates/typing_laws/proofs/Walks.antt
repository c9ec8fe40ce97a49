pub mod Declarations
pub mod Initializers
pub mod Recursion
pub mod Specifiers
pub mod States
pub mod Statements
pub mod Steps
