pub mod Stubs
mod Zeros
pub mod Calls
pub mod Actions
pub mod LibraryCalls
pub mod Entering
pub mod CopyCalls
pub mod ZeroCalls
pub mod PrintCalls
pub mod AreaCalls
mod Listed
pub mod Sizes
