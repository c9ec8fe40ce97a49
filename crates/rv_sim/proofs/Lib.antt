pub mod Behaves
pub mod Calls
pub mod Runs
mod Sample
pub mod Steps
pub mod Stores
pub mod Words
