pub mod Following
mod KeyFits
pub mod Nodes
pub mod Bodies
pub mod SameButChecks
pub mod Areas
