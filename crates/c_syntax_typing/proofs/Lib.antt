pub mod Lower
pub mod Composing
pub mod Loops
pub mod Views
