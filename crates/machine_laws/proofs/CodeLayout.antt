pub mod Table
pub mod Placed
pub mod Laid
pub mod Bytes
