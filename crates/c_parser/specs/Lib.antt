pub mod InitializerSteps
pub mod Parsed
pub mod StatementParts
pub mod StatementSteps
pub mod Unsupported
