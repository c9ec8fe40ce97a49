pub mod Images
pub mod Compiled
pub mod Expanded
pub mod ExpandedPrograms
