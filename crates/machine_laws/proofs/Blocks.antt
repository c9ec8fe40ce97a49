pub mod Immediates
pub mod Lengths
pub mod Local
pub mod Pieces
pub mod Reports
