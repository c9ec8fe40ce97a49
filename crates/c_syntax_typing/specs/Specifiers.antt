-- What specifiers say with a typedef name (C99 6.7.7).
use Rattle.std.specs.Prelude.{ℕ, Ok}
use Rattle.c_faults.specs.Answer.{Answer, ◌>>=◌}
use Rattle.c_scope.specs.Names.{Name}
use Rattle.c_declarator_typing.specs.Specifications.{Gathered, typedef_type, with_named}
use Rattle.c_typing_state.specs.State.{State}

abbrev pub with_typedef_name : Name → (line : ℕ) → Gathered → State → Answer Gathered
with_typedef_name name line g s = typedef_type name line s >>= λ type. Ok (with_named type g)
