mod Below
mod Counted
pub mod EmittedCode
pub mod MachineImages
