pub mod Sets
pub mod Values
pub mod Operators
pub mod Division
mod PointerCode
pub mod Shapes
