-- Enumerators (C99 6.7.2.2).
use Rattle.std.specs.Prelude.{ℕ, if◌then◌else◌, Option, Some, None, is_some, Ok}
use Rattle.c_faults.specs.declared.fault.Rule.TheVariants.{NoConstant, Redeclared}
use Rattle.c_faults.specs.Answer.{Answer, violates}
use Rattle.c_scope.specs.declared.meaning.Meaning.TheVariants.{Constant}
use Rattle.c_scope.specs.Environment.{Environment, with_name}
use Rattle.c_scope.specs.Names.{Name, declared}

abbrev pub with_value : Name → (line : ℕ) → Option ℕ → Environment → Answer Environment
with_value name line None env = violates NoConstant line
with_value name line (Some word) env = Ok (with_name name (Constant word) env)

-- An enumerator: its name has no other meaning in its scope, and its value is a constant that is an int (paragraph 2).
abbrev pub enumerated : Name → (line : ℕ) → (value : Option ℕ) → Environment → Answer Environment
enumerated name line value env =
    if is_some (declared name env.names.current) then violates Redeclared line else with_value name line value env
