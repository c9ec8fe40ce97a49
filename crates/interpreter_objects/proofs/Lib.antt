mod Insides
mod LittleBytes
mod Placed
mod Tags
pub mod Keeping
mod Contents
pub mod Ranges
pub mod Weights
pub mod Gaps
