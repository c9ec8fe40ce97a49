pub mod PlainVariables
