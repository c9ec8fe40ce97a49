pub mod Bodies
pub mod Declarations
pub mod Definitions
pub mod Files
pub mod Found
pub mod Steps
pub mod Storage
pub mod Types
