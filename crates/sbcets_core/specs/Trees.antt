-- What a source's judgement says of its tree.
use Rattle.std.specs.Prelude.{◌≡◌, ℕ, List, Ok, Err}
use Rattle.c_lexer.specs.Spelled.{TokenList}
use Rattle.c_syntax.specs.Statements as statements
use Rattle.c_parser.specs.Parsed.{IsTreeOf, HasNoTree}
use Rattle.sbcets_core.specs.declared.refusal.SourceRefusal.TheVariants.{Syntax, Nesting}
use Rattle.sbcets_core.specs.Programs.{Judged}
use Rattle.sbcets_core.specs.Accepted.{supported_tokens}

-- the source has expanded tokens, none of them unsupported, and no well-formed file is written with them
pub record HasTokensAlone (source : List ℕ) : Type 0 where
  pub list : TokenList
  pub expands : supported_tokens source ≡ Ok list
  pub no_tree : HasNoTree list.tokens

-- just one well-formed file is
pub record HasOneTree (source : List ℕ) : Type 0 where
  pub list : TokenList
  pub expands : supported_tokens source ≡ Ok list
  pub tree : statements.Unit
  pub written : IsTreeOf list.tokens tree
  pub only : (other : statements.Unit) → IsTreeOf list.tokens other → other ≡ tree

-- a refusal of the parser
abbrev pub IsUnparsed : Judged → Type 0
IsUnparsed (Err (Syntax at line)) = Unit {0}
IsUnparsed (Err (Nesting at line)) = Unit {0}
IsUnparsed judged = ⊥
