pub mod Bytes
pub mod Functions
pub mod Units
