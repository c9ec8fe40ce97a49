-- The nodes that an instruction leads to, as a list.
use Rattle.std.specs.Prelude.{ℕ, List, [], ◌∷◌}
use Rattle.tac_ir.specs.declared.ways.Ways.{Ways}
use Rattle.tac_ir.specs.declared.ways.Ways.TheVariants.{Nowhere, To, Either}

abbrev pub nodes_of : Ways → List ℕ
nodes_of Nowhere = []
nodes_of (To n) = n ∷ []
nodes_of (Either x y) = x ∷ y ∷ []
