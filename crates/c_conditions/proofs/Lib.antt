pub mod Trees
pub mod Widest
