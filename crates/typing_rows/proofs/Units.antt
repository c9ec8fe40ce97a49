pub mod Sources
mod InitializerFaults
mod Initializers
mod Declarations
mod DeclarationFaults
mod Statements
mod Orders
