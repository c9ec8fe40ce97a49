pub mod Integers
pub mod Addresses
pub mod Contents
pub mod Initializers
pub mod View
pub mod Outcomes
