pub mod Encoding
pub mod Planning
