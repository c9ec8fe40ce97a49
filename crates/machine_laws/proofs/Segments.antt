pub mod Labels
pub mod Small
pub mod Parts
pub mod Standing
pub mod Assembled
pub mod Missing
pub mod Placed
pub mod Running
