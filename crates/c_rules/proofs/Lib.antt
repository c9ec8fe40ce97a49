pub mod TypeKinds
pub mod SameTypes
pub mod FineBinary
pub mod FineUnary
pub mod FineConversions
