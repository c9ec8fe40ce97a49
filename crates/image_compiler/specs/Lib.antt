pub mod Built
pub mod Expanded
