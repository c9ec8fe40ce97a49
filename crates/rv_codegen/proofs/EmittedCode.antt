pub mod Lists
pub mod Saving
pub mod Table
pub mod Lookups
