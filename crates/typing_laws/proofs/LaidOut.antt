pub mod Chained
pub mod Declarations
pub mod Files
pub mod Statements
