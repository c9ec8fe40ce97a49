pub mod PlainChanges
