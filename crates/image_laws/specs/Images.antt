pub mod Images
pub mod Expansions
