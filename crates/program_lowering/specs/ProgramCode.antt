pub mod Weights
pub mod Checks
pub mod Code
pub mod Bodies
pub mod Whole
pub mod Structures
