pub mod Images
pub mod Propagation
pub mod Plans
pub mod Sizes
pub mod CodeSizes
pub mod Encoding
