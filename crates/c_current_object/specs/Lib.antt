pub mod Members
pub mod Types
pub mod Subobjects
pub mod CurrentObject
