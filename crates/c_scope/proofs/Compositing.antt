-- What loops over the words of two types find.
use Rattle.std.proofs.Common.{◌≡◌, ℕ, zero, suc, ◌<◌, List, [], ◌∷◌, drop, length, None, Option, is_some, false}
use Rattle.std.proofs.Common.{option_map}
use Rattle.std.proofs.Common.{◌++◌, refl, ap, ◌∙◌, sym, arith}
use Rattle.c_tree.specs.declared.c_type.TypeWord.{TypeWord}
use Rattle.c_scope.specs.Composite.{composite}

-- no words are left of the second
pub none_left : (s : List TypeWord) (i : ℕ) (t : List TypeWord) → i < length s → length t < 1
    → composite (drop i s) t ≡ None
unfolding composite
none_left [] i t inside short = absurd (omega arith)
none_left (v ∷ s) zero [] inside short = refl
none_left (v ∷ s) zero (w ∷ t) inside short = absurd (omega arith)
none_left (v ∷ s) (suc i) t inside short = none_left s i t (omega arith) short

pub incompatible : (s : List TypeWord) (i : ℕ) (t : List TypeWord) (whole : Option (List TypeWord)) → i < length s
    → length t < 1 → is_some (composite (drop i s) t) ≡ is_some whole → false ≡ is_some whole
incompatible s i t whole inside short same = ap is_some (sym (none_left s i t inside short)) ∙ same

pub no_composite : (s : List TypeWord) (i : ℕ) (t before : List TypeWord) (whole : Option (List TypeWord))
    → i < length s → length t < 1 → option_map (λ type. before ++ type) (composite (drop i s) t) ≡ whole → None ≡ whole
no_composite s i t before whole inside short same =
    ap (option_map (λ type. before ++ type)) (sym (none_left s i t inside short)) ∙ same
