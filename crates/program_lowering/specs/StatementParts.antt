pub mod Items
pub mod Counting
pub mod Leaving
pub mod Objects
pub mod Weights
pub mod Code
pub mod Loops
