-- Tables of numbers by index.
use Rattle.std.specs.Prelude.{ℕ, ◌+◌, List, [], ◌∷◌}
use Rattle.c_tree.specs.declared.program.Variable.{Variable}
use Rattle.metadata_plan.specs.Registers.{words_of}

-- the first register of each variable, where those from a number on are theirs
abbrev pub registers_from : (register : ℕ) → List Variable → List ℕ
registers_from r [] = []
registers_from r (v ∷ vs) = r ∷ registers_from (r + words_of v.kind) vs
