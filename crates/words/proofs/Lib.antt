pub mod Bits
pub mod Division
pub mod Extended
pub mod Narrowing
pub mod Order
pub mod Powers
pub mod Shifts
pub mod Signs
