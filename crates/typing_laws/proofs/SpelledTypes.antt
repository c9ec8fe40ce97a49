pub mod Composites
pub mod Words
