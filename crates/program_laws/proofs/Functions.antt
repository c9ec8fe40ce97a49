pub mod Continuing
pub mod Declarations
pub mod Defined
pub mod Entities
pub mod Files
pub mod Main
pub mod Places
pub mod Words
