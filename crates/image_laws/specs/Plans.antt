pub mod Assignment
pub mod Instructions
pub mod EntryLists
