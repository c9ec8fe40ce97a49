pub mod Lists
pub mod Visits
pub mod Solving
pub mod Starts
pub mod Joining
