-- What a text gives in reading order, up to its end or its first fault.
use Rattle.std.specs.Prelude.{ℕ, [], ◌∷◌, ◌++◌, length, drop, Result, Ok, Err, if◌then◌else◌, nat_le}
use Rattle.c_lexer.specs.declared.token.Token.{Token}
use Rattle.c_pre.specs.declared.fault.PreFaultKind.{PreFaultKind}
use Rattle.c_pre.specs.declared.fault.PreFaultKind.TheVariants.{TooMany}
use Rattle.c_pre.specs.declared.fault.PreFault.{PreFault}
use Rattle.c_pre.specs.Limits.{max_expanded_tokens}
use Rattle.c_pre.specs.Lines.{Tokens}

-- the tokens given, and what stands at the end, or the fault there
pub record Trace (A : Type 0) : Type 0 where
  pub given : Tokens
  pub end : Result A PreFault

abbrev pub fault_at : ℕ → PreFaultKind → PreFault
fault_at line kind = record { kind = kind; line = line }

-- nothing is given
abbrev pub quiet : {A : Type 0} → A → Trace A
quiet x = record { given = []; end = Ok x }

abbrev pub gives : Token → Trace Unit
gives token = record { given = token ∷ []; end = Ok tt }

abbrev pub fails : {A : Type 0} → ℕ → PreFaultKind → Trace A
fails line kind = record { given = []; end = Err (fault_at line kind) }

-- a trace behind tokens that were given before
abbrev pub after : {A : Type 0} → Tokens → Trace A → Trace A
after front t = record { given = front ++ t.given; end = t.end }

abbrev pub goes_on : {A B : Type 0} → Tokens → Result A PreFault → (A → Trace B) → Trace B
goes_on given (Ok x) go = after given (go x)
goes_on given (Err fault) go = record { given = given; end = Err fault }

-- one part of the text, and then the rest of it unless a fault came
infixl 10 ◌>>=◌
abbrev pub ◌>>=◌ : {A B : Type 0} → Trace A → (A → Trace B) → Trace B
t >>= go = goes_on t.given t.end go

-- the line of the first of these tokens
abbrev pub line_of : Tokens → ℕ
line_of [] = 1
line_of (token ∷ more) = token.line

abbrev pub ended : {A : Type 0} → Tokens → Result A PreFault → Result Tokens PreFault
ended given (Ok x) = Ok given
ended given (Err fault) = Err fault

-- the answer for the whole text: a token too many comes before the fault that ends the trace
unfoldable pub answer : {A : Type 0} → Trace A → Result Tokens PreFault
answer t =
    if nat_le (length t.given) max_expanded_tokens then ended t.given t.end
    else Err (fault_at (line_of (drop max_expanded_tokens t.given)) TooMany)
