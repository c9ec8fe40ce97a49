pub mod Budgets
pub mod Endings
