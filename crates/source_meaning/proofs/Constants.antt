pub mod Steps
pub mod Integers
pub mod Addresses
pub mod Changes
pub mod Overwriting
pub mod Storing
pub mod Naming
pub mod Statics
