pub mod Conditions
pub mod Controlling
