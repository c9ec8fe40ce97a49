pub mod ClosedBodies
pub mod Bodies
pub mod Ready
pub mod InTurn
pub mod Checks
mod StructureWeights
pub mod Areas
