pub mod Spaces
pub mod Lists
pub mod Local
pub mod NewKeys
pub mod FreedLocks
pub mod Shapes
