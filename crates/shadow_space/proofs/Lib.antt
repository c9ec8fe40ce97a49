pub mod Entries
pub mod Clearing
pub mod Starting
pub mod DirectStart
pub mod TwoLevel
pub mod Shapes
