pub mod Around
pub mod Branches
pub mod Entering
pub mod Initialized
pub mod Limited
pub mod Refused
