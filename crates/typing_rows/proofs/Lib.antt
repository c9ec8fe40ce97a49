mod Expressions
pub mod Units
mod Violations
