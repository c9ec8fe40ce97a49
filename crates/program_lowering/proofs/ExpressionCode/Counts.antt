-- How many arguments there are.
use Rattle.std.proofs.Common.{◌≡◌, suc, List, [], ◌∷◌, length, map, refl, ap}
use Rattle.c_tree.specs.declared.expression.Expression.{Expression}
use Rattle.c_tree.specs.Tree.{expressions_in}
use Rattle.c_tree.specs.View.{expression_of}
use Rattle.c_lower.specs.Values.{count}

pub count_of : (es : List Expression) → count (expressions_in (map expression_of es)) ≡ length es
count_of [] = refl
count_of (e ∷ es) = ap suc (count_of es)

pub ruleset counts = (count_of)
