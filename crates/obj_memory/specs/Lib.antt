pub mod Integers
pub mod Operators
pub mod Objects
pub mod Judgement
pub mod Access
pub mod Heap
pub mod Sound
