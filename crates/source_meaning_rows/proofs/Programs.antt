mod First
mod Sort
