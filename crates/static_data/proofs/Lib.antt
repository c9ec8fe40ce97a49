pub mod Placing
pub mod Laying
mod Constancy
