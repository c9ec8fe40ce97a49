-- Reading initializers (C99 6.7.8).
use Rattle.std.specs.Prelude.{ℕ, zero, suc, nat_le, Bool, ◌&&◌, ◌||◌, if◌then◌else◌, List, [], ◌∷◌, Ok, Err, Option}
use Rattle.std.specs.Prelude.{Some, None, length}
use Rattle.c_lexer.specs.declared.punctuator.Punctuator.TheVariants as p
use Rattle.c_lexer.specs.declared.token.TokenKind.{TokenKind}
use Rattle.c_syntax.specs.Tree.{Initializer, InitializerItem, Designator, Designation}
use Rattle.c_syntax.specs.Tree as t
use Rattle.c_syntax.specs.StatementsView.{more_items_of}
use Rattle.c_syntax.specs.Words.{Words}
use Rattle.c_grammar.specs.Reader.{Outcome, Reader, ◌>>=◌, is_punctuator, next_is, next_is_punctuator, expect}
use Rattle.c_grammar.specs.Reader.{identifier_from, behind_commas_to_brace}
use Rattle.c_grammar.specs.Readers.{Readers}
use Rattle.c_grammar.specs.Nested.{readers}
use Rattle.c_grammar.specs.LeastPrecedence as least

-- `[` or `.`
abbrev pub begins_designator : TokenKind → Bool
begins_designator w = is_punctuator p.LeftBracket w || is_punctuator p.Dot w

module _ (deeper : Readers) where
  -- `[ expression ]`
  unfoldable pub element_from : Words → Outcome Designator
  element_from i = expect p.LeftBracket i >>= λ l i. deeper.expression None least.conditional i
      >>= λ e i. expect p.RightBracket i >>= λ r i. Ok (t.element l e r, i)

  -- `.` and the name of a member
  unfoldable pub member_named_from : Words → Outcome Designator
  member_named_from i = expect p.Dot i >>= λ at i. identifier_from i >>= λ x i. Ok (t.member_named at x, i)

  -- a designator (C99 6.7.8)
  abbrev pub designator_from : Words → Outcome Designator
  designator_from i = if next_is_punctuator p.LeftBracket i then element_from i else member_named_from i

  -- designators; the number bounds how many
  unfoldable pub designators_from : ℕ → Words → Outcome (List Designator)
  designators_from zero i = Ok ([], i)
  designators_from (suc n) i =
      if next_is begins_designator i
      then (designator_from i >>= λ x i. designators_from n i >>= λ z i. Ok (x ∷ z, i))
      else Ok ([], i)

  -- designators and `=`, or nothing
  unfoldable pub designation_from : Words → Outcome (Option Designation)
  designation_from i =
      if next_is begins_designator i
      then (designators_from (length i) i >>= λ z i. expect p.Assign i
      >>= λ at i. Ok (Some (record { designators = z; equals = at }), i))
      else Ok (None, i)

-- an item, of whose parts each has fewer levels than a number
unfoldable pub item_from : Readers → Reader Initializer → Words → Outcome InitializerItem
item_from deeper initializer i = designation_from deeper i >>= λ x i. initializer i >>= λ v i. Ok (t.item x v, i)

-- `{ items }`
unfoldable pub braced_from : Reader InitializerItem → Words → Outcome Initializer
braced_from item i =
    expect p.LeftBrace i >>= λ l i. item i >>= λ x i. behind_commas_to_brace item (length i) i >>= λ m i.
    expect p.RightBrace i >>= λ r i. Ok (t.braced l x (more_items_of m.0) m.1 r, i)

-- an expression as an initializer
unfoldable pub value_from : Readers → Words → Outcome Initializer
value_from same i = same.expression None least.assignment i >>= λ e i. Ok (t.value e, i)

-- an initializer with at most this number of levels, from the reader of those with fewer
unfoldable pub initializer_at : List (List ℕ) → Reader Initializer → ℕ → Words → Outcome Initializer
initializer_at names deeper levels i =
    if next_is_punctuator p.LeftBrace i && nat_le 1 levels
    then braced_from (item_from (readers names levels) deeper) i
    else value_from (readers names (suc levels)) i

-- an initializer with fewer levels than a number
unfoldable pub initializers : List (List ℕ) → ℕ → Words → Outcome Initializer
initializers names zero i = Err i
initializers names (suc levels) i = initializer_at names (initializers names levels) levels i
