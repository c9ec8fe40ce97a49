-- What the rows look at.
use Rattle.std.proofs.Common.{ℕ, List, map}
use Rattle.c_syntax.specs.Statements.{External}
use Rattle.c_faults.specs.declared.fault.Rule.{Rule}
use Rattle.typing_laws.specs.Violations.Files.{violations}

-- all violations in a source, each with its rule and line
abbrev pub source : List External → (end : ℕ) → List (Rule × ℕ)
source es end = map (λ f. (f.rule, f.line)) (violations end (record { externals = es }))
