pub mod Decoding
pub mod Table
pub mod Word
pub mod Registers
pub mod Results
