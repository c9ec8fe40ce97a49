pub mod Facts
pub mod Known
pub mod Propagated
pub mod Tables
