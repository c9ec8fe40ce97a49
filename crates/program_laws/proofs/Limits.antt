pub mod Counted
pub mod Files
pub mod Kept
pub mod Shapes
pub mod Walked
