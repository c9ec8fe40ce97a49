pub mod Moments
pub mod Following
pub mod Running
