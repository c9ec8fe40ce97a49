pub mod Sizes
pub mod Weights
pub mod Bodies
pub mod Switches
pub mod Code
