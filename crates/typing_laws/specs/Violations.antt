pub mod Judgements
pub mod Agreeing
pub mod Expressions
pub mod Initializers
pub mod Declarations
pub mod Statements
pub mod Files
pub mod Order
