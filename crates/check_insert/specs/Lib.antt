pub mod Inserted
pub mod Counting
pub mod Building
pub mod SameButChecks
