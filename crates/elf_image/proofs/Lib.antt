pub mod Loads
pub mod Ordered
pub mod Overlap
pub mod Pages
pub mod Ranges
pub mod Written
