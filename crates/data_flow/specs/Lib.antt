pub mod Relations
pub mod NodeSets
pub mod Reached
pub mod Runs
pub mod Stretches
