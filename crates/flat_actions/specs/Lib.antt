pub mod Actions
pub mod Ranges
pub mod Scanning
pub mod Start
pub mod Lists
pub mod Narrowing
pub mod Judgement
