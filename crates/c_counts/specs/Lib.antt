pub mod Counts
pub mod Excess
