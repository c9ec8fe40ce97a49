pub mod Targets
pub mod Operands
pub mod Places
