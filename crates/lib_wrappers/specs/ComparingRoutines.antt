pub mod Answering
pub mod Seeking
pub mod Comparing
