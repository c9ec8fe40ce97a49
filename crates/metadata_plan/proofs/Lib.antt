pub mod Numbers
pub mod Flat
pub mod Constants
pub mod Holding
pub mod SetUp
pub mod Standing
pub mod Simple
pub mod Updating
pub mod Library
pub mod Calling
pub mod Entering
pub mod Stepping
pub mod Following
pub mod Laying
pub mod Entries
mod Example
pub mod OperatorLists
