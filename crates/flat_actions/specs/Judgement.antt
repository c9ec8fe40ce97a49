pub mod Judging
pub mod Testing
pub mod Code
