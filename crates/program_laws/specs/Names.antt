pub mod Known
pub mod Linked
