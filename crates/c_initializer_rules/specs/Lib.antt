pub mod Placed
pub mod Order
pub mod Parts
pub mod Literals
pub mod Initializing
