pub mod Tables
pub mod Code
pub mod Start
