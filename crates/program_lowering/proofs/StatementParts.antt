pub mod Opened
pub mod BlockParts
pub mod InitializerParts
pub mod Closing
pub mod LoopParts
