pub mod Lines
pub mod Constructs
pub mod Typed
