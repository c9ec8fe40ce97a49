pub mod Functions
pub mod Numbers
