pub mod Holding
pub mod Meaning
pub mod Tables
pub mod Bodies
