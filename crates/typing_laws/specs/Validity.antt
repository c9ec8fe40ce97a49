pub mod More
pub mod Names
pub mod Regular
pub mod Sound
pub mod Steps
pub mod Typed
