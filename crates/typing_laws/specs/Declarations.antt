pub mod Binding
