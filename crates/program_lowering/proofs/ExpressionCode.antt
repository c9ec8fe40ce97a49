pub mod Leading
pub mod Growing
pub mod Lengths
pub mod Conversions
pub mod Counts
pub mod Steps
pub mod Parts
pub mod Views
