pub mod Plain
pub mod Computing
