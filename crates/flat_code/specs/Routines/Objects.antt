pub mod StandsFor
pub mod Changes
pub mod Start
