pub mod FineConditions
