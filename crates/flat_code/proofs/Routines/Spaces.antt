pub mod Quiet
pub mod Rules
pub mod Few
