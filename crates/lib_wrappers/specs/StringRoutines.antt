pub mod Scanning
pub mod Putting
pub mod Copying
