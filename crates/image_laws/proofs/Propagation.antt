pub mod Fits
pub mod Registers
pub mod Plannable
pub mod Encodable
pub mod Programs
