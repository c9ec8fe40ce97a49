pub mod Sizes
pub mod FineOperands
