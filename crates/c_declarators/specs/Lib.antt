pub mod Faults
pub mod Derivations
pub mod Adjusted
