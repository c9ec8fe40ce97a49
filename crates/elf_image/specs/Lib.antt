pub mod Content
pub mod Layout
pub mod Tests
pub mod Writing
