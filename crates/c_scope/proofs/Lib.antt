mod Scoping
mod Changing
mod Compositing
mod Numbering
mod Copying
