pub mod Holding
pub mod Accessing
