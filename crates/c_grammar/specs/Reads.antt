-- What a function that reads ensures: what the reader gives, or that memory failed. Behind a refusal the refused word
-- is next.
use Rattle.std.specs.Prelude.{◌≡◌, ◌<◌, false, Result, Ok, Err, [], ◌∷◌, length, Option, Some, None, ⊤}
use Rattle.c_lexer.specs.declared.punctuator.Punctuator.{Punctuator}
use Rattle.c_syntax.specs.Words.{Words, punctuator}
use Rattle.c_grammar.specs.declared.cursor.Fault.{Fault}
use Rattle.c_grammar.specs.declared.cursor.Fault.TheVariants.{Memory, Refused}
use Rattle.c_grammar.specs.Reader.{Outcome, ◌>>=◌, next_is_punctuator, consts_from}
use Rattle.c_syntax.specs.declared.position.Position.{Position}

abbrev pub Fails : {A : Type 0} → Outcome A → Fault → Words → Type 0
Fails o Memory new = ⊤
Fails o Refused new = o ≡ Err new

-- a value that the view of the code's value is
abbrev pub Reads : {A B : Type 0} → (A → B) → Outcome B → Result A Fault → Words → Type 0
Reads view o (Ok a) new = o ≡ Ok (view a, new)
Reads view o (Err e) new = Fails o e new

-- this punctuator was taken, or another word is next
abbrev pub Takes : Punctuator → Words → Option Position → Words → Type 0
Takes a old (Some at) new = old ≡ punctuator a at ∷ new
Takes a old None new = (next_is_punctuator a old ≡ false) × (new ≡ old)

-- the word `const` was taken, or another word is next
abbrev pub TakesConst : Words → Option Position → Words → Type 0
TakesConst old (Some at) new = (consts_from old ≡ (consts_from new >>= λ z i. Ok (at ∷ z, i)))
    × (length new < length old)
TakesConst old None new = (consts_from old ≡ Ok ([], old)) × (new ≡ old)
