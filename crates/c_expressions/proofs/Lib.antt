mod MemberSteps
mod SuffixSteps
mod SpecifierSteps
mod VoidParameters
mod OperandSteps
mod OperationSteps
pub mod Given
mod EnumerationSteps
