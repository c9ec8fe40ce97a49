pub mod Forms
pub mod Items
pub mod Tables
pub mod Words
