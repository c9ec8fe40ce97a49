mod Sources
mod Rows
