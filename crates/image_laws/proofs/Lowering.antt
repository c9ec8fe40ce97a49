pub mod Safe
pub mod Values
pub mod Statements
pub mod Programs
