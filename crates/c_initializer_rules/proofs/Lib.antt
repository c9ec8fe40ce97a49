pub mod Filtered
pub mod Ordered
