pub mod Added
pub mod Defining
pub mod Initialized
pub mod Linked
pub mod Program
