-- What a conversion does, where it leaves its value as it is and where not.
use Rattle.std.proofs.Common.{◌≡◌, ℕ, ◌+◌, ◌≤◌, Bool, true, false, List, refl, arith}
use Rattle.c_tree.specs.declared.expression.Kind.{Kind}
use Rattle.program_lowering.specs.ExpressionCode.Last.{conversion_in}
use Rattle.program_lowering.specs.ExpressionCode.Weights.{Weights, weight_if, conversion_weight}

pub conversion_weighs : (ts : List (List ℕ)) (q : Bool) (kind : Kind) (d m : ℕ) (w : Weights)
    → weight_if ts (conversion_in q kind d m) w ≡ conversion_weight q kind w
conversion_weighs ts true kind d m w = refl
conversion_weighs ts false kind d m w = refl

-- it weighs nothing where no conversion does
pub no_conversion : (q : Bool) (kind : Kind) (w : Weights) → w.convert kind ≡ 0 → conversion_weight q kind w ≡ 0
no_conversion true kind w e = refl
no_conversion false kind w e = e
