pub mod Parts
pub mod Forms
pub mod Checks
pub mod Calls
pub mod Blocks
pub mod Laying
pub mod Runtime
pub mod Programs
