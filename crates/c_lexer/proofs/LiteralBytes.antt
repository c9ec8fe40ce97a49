-- Reading a literal byte by byte.
use Rattle.std.proofs.Common.{◌≡◌, ℕ, List, [], ◌∷◌, Option, Some, None, refl}
use Rattle.c_lexer.specs.Literals.{behind, only_one}

pub behind_none : (o : Option (List ℕ)) → behind [] o ≡ o
behind_none None = refl
behind_none (Some z) = refl

pub two_are_not_one : (v w : ℕ) (o : Option (List ℕ)) → only_one (behind (v ∷ []) (behind (w ∷ []) o)) ≡ None
two_are_not_one v w None = refl
two_are_not_one v w (Some z) = refl
