pub mod Labels
pub mod Placed
