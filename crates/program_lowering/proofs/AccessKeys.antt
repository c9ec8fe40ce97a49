pub mod Either
pub mod Moves
