pub mod Small
pub mod Prepared
pub mod Functions
