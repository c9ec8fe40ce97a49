pub mod View
pub mod Blocks
pub mod Calls
pub mod Following
pub mod CodeLayout
pub mod Segments
