mod Moves
mod LittleBytes
pub mod Initializers
