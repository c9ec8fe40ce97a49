-- Members that lie at the start of their structure, from one on.
use Rattle.std.proofs.Common.{◌≡◌, ℕ, zero, suc, ◌+◌, ◌&&◌, true, false, List, [], ◌∷◌, map, drop}
use Rattle.std.proofs.Common.{slice_get, refl, ap, ◌∙◌, arith}
use Rattle.c_tree.specs.declared.member.Member.{Member}
use Rattle.c_scope.specs.Names.{Name}
use Rattle.c_current_object.specs.Members.{is_union, lies_at_start}

from_next_on : (es : List (Name × Member)) (n : ℕ)
    → is_union (drop n es) ≡ (lies_at_start (slice_get (map (λ e. e.1) es) n) && is_union (drop (suc n) es))
from_next_on [] zero = refl
from_next_on [] (suc n) = refl
from_next_on (e ∷ es) zero = refl
from_next_on (e ∷ es) (suc n) = from_next_on es n

from_one_on : (es : List (Name × Member)) (n : ℕ)
    → is_union (drop n es) ≡ (lies_at_start (slice_get (map (λ e. e.1) es) n) && is_union (drop (n + 1) es))
from_one_on es n =
    let more : suc n ≡ n + 1 = omega arith in
    from_next_on es n ∙ ap (λ m. lies_at_start (slice_get (map (λ e. e.1) es) n) && is_union (drop m es)) more

pub stays : (es : List (Name × Member)) (n : ℕ) → lies_at_start (slice_get (map (λ e. e.1) es) n) ≡ true
    → is_union (drop n es) ≡ is_union (drop (n + 1) es)
stays es n lies = from_one_on es n ∙ ap (λ b. b && is_union (drop (n + 1) es)) lies

pub ends : (es : List (Name × Member)) (n : ℕ) → lies_at_start (slice_get (map (λ e. e.1) es) n) ≡ false
    → is_union (drop n es) ≡ false
ends es n lies = from_one_on es n ∙ ap (λ b. b && is_union (drop (n + 1) es)) lies
