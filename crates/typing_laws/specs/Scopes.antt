pub mod Defined
pub mod Leaving
pub mod Regular
pub mod Variables
