pub mod Numbers
pub mod Places
pub mod Straight
pub mod Leaving
