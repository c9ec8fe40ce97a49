pub mod Contents
pub mod Demands
pub mod Items
pub mod LabelSets
pub mod Numbers
pub mod Rooms
