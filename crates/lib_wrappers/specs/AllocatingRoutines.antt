pub mod Zeroing
pub mod Premises
pub mod Births
pub mod Allocating
pub mod Freeing
pub mod Reallocating
pub mod Entering
