pub mod Alignments
pub mod Layouts
pub mod Arrays
pub mod Formats
