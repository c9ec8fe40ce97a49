pub mod Along
pub mod Scopes
pub mod Values
pub mod Statements
pub mod Checked
pub mod Functions
pub mod Plans
pub mod OwnHomes
