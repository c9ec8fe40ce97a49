pub mod Exact
pub mod Flows
pub mod GivingOut
pub mod Order
pub mod Plans
pub mod Ranges
pub mod Represents
pub mod Saves
mod Spreading
