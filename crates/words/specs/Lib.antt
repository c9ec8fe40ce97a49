pub mod TwosComplement
pub mod Operations
pub mod Division
