mod Files
mod Filling
mod Limiting
mod Making
mod ParameterKinds
mod Placing
