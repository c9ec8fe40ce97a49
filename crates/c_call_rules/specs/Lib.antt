pub mod FunctionTypes
pub mod Calls
pub mod FineCalls
pub mod Printing
pub mod Scanning
