pub mod Flow
mod Arguments
mod Expressions
mod Calls
mod Initializers
mod Blocks
mod Statements
mod Loops
mod Steps
mod Later
