pub mod Calls
pub mod Effects
pub mod Table
