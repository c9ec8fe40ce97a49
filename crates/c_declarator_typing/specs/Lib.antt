pub mod Specifications
pub mod Sizes
pub mod Declarators
pub mod Members
