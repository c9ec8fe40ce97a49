-- Initializers that have not one part.
use Rattle.std.proofs.Common.{◌≡◌, ◌==◌, false, List, [], ◌∷◌, length, map, refl}
use Rattle.c_tree.specs.declared.statement.Part.{Part}
use Rattle.c_tree.specs.Statements.{of_object}
use Rattle.c_tree.specs.View.{part_of}
use Rattle.c_unit_typing.specs.Declarations.{parts_initializer}

pub several : (ps : List Part) → (length ps == 1) ≡ false
    → of_object (map part_of ps) ≡ parts_initializer false (map part_of ps)
several [] e = refl
several (p ∷ []) e = cc
several (p ∷ q ∷ ps) e = refl
