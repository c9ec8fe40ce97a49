pub mod Declarations
pub mod Files
pub mod Initializers
pub mod Numbers
pub mod Programs
pub mod Statements
