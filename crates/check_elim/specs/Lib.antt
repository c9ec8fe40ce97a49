pub mod Paths
pub mod Facts
pub mod Available
pub mod Dropped
pub mod Worklists
pub mod Seeking
pub mod Searches
