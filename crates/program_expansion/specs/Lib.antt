pub mod Limits
pub mod Expansions
pub mod Tables
