-- Where statements are left for, as the definitions of lowering have it.
use Rattle.std.specs.Prelude.{ℕ, List, [], ◌∷◌}
use Rattle.c_lower.specs.Statements.{Exits}
use Rattle.program_lowering.specs.declared.parts.exits.Exits.{Exits as Leaving}

abbrev pub exits_of : Leaving → Exits
exits_of x = record { next = x.next; breaks = x.breaks; continues = x.continues; returns = x.returns }

-- their nodes
abbrev pub exit_nodes : Exits → List ℕ
exit_nodes x = x.next ∷ x.breaks ∷ x.continues ∷ x.returns ∷ []

abbrev pub before : Exits → (next : ℕ) → Exits
before x n = record { next = n; breaks = x.breaks; continues = x.continues; returns = x.returns }
