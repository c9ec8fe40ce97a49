pub mod Looks
pub mod Wraps
pub mod Seeks
pub mod Sought
pub mod Pairs
pub mod Compared
pub mod Ranges
pub mod RangesCompared
