pub mod Tested
pub mod Course
pub mod Premises
