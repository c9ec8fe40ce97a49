pub mod Tests
pub mod Judges
