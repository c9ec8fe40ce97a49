pub mod Behaviour
pub mod Shown
pub mod Steps
