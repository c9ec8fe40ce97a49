-- Objects of blocks among the variables of a function.
use Rattle.std.specs.Prelude.{◌≡◌, true, false, List, [], ◌∷◌}
use Rattle.c_tree.specs.declared.program.Variable.{Variable}

-- Each variable of a list that is an object is one among all variables, by its number.
abbrev pub AreObjectsAmong : (all declared : List Variable) → Type 0
AreObjectsAmong all [] = Unit {0}
AreObjectsAmong [] (v ∷ vs) = (v.is_object ≡ false) × AreObjectsAmong [] vs
AreObjectsAmong (a ∷ all) (v ∷ vs) = (v.is_object ≡ true → a.is_object ≡ true) × AreObjectsAmong all vs
