mod Choices
mod Emitted
mod Layouts
mod Meeting
mod Standing
