pub mod Copying
pub mod Moving
pub mod Filling
pub mod Tagged
pub mod Library
pub mod Structures
