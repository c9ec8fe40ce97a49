mod Fitting
mod Gathered
mod Composed
mod Tables
mod Walked
