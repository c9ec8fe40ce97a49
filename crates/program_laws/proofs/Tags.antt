pub mod Declaring
pub mod Files
pub mod Keeping
pub mod Members
pub mod Walked
