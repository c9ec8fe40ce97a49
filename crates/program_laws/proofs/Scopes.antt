pub mod Kept
pub mod Agreeing
