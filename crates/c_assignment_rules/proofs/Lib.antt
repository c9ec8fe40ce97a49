pub mod FineWriting
