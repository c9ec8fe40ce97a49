pub mod Sizes
pub mod Weights
pub mod Enclosed
pub mod Emitted
pub mod Nodes
pub mod Last
pub mod Shapes
