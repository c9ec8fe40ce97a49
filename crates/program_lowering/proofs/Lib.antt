pub mod AccessKeys
pub mod ExpressionCode
pub mod StatementParts
pub mod StatementCode
pub mod ProgramCode
