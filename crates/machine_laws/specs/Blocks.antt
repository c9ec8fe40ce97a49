pub mod Blocks
pub mod Effects
pub mod Immediates
pub mod Places
pub mod Tails
