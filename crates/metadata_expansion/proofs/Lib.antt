pub mod Lists
pub mod Laid
pub mod Small
pub mod Counting
pub mod TemporaryWords
pub mod ClosedSets
pub mod EntryTables
pub mod GreatestStructures
