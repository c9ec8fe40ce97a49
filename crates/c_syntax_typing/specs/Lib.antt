pub mod Nested
pub mod Specifiers
