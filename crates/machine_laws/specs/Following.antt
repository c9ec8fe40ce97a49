pub mod Code
pub mod Matching
pub mod Start
