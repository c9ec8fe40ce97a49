pub mod Comes
pub mod KeyValues
pub mod KeyStays
pub mod Conversions
pub mod Counting
pub mod NextInt
pub mod KeyNames
pub mod Opening
pub mod Credits
pub mod Accesses
pub mod Temporaries
pub mod Values
pub mod Flow
pub mod Statements
pub mod Programs
pub mod Homes
pub mod Liveness
mod Fitting
mod Returning
