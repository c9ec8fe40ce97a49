pub mod AtMost
pub mod Nodes
pub mod WordCounts
