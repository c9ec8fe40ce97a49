pub mod Numbers
pub mod Plain
pub mod Matches
pub mod Whole
mod Congruence
