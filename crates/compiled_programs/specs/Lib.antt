pub mod Programs
pub mod Items
