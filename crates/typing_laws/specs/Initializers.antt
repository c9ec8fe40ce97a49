pub mod Cursor
pub mod Giving
pub mod Initialized
pub mod Placing
