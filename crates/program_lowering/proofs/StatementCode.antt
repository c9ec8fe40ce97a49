pub mod Heights
pub mod Elements
pub mod SingleStatements
pub mod LabelTests
pub mod Compound
pub mod Assigned
pub mod Loops
pub mod Switches
