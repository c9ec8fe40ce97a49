pub mod Bound
pub mod Completed
pub mod Facts
pub mod Formed
pub mod Judged
pub mod Named
pub mod Variables
