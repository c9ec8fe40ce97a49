-- An initializer whose steps lead behind those of the last of parts in order overrides none of them.
use Rattle.std.proofs.Common.{◌≡◌, ℕ, ◌-◌, ◌<◌, ◌≢◌, Bool, true, false, not, ◌&&◌, ◌||◌, ◌==◌, nat_lt}
use Rattle.std.proofs.Common.{if◌then◌else◌, List, [], ◌∷◌, ◌++◌, filter, map, length, slice_get, Some}
use Rattle.std.proofs.Common.{option_map, refl, sym, ap, ◌∙◌, arith, suc}
use Rattle.std.proofs.lemmas.Bool.{and_from, and_left, and_parts, eqb-true, lt-ltb, ltb-true, ne_eqb, not-true}
use Rattle.c_current_object.specs.declared.subobject.Step.{Step}
use Rattle.c_initializer_rules.specs.Order.{are_in_order, last_of, leads_behind, leads_behind_if, leads_behind_last}
use Rattle.c_initializer_rules.specs.Order.{same_step}
use Rattle.c_initializer_rules.specs.Placed.{overrides}

abbrev same_flag : Bool → Bool → Bool
same_flag a b = if a then b else not b

flag_is : (a b : Bool) → same_flag a b ≡ true → a ≡ b
flag_is true b is = sym is
flag_is false b is = sym (not-true b is)

step_is : (s u : Step) → same_step s u ≡ true → s ≡ u
step_is s u is =
    let at : Bool → ℕ → Step = λ b n. record { is_union = b; number = n } in
    let both = and_parts (s.number == u.number) (same_flag s.is_union u.is_union) is in
    ap (at s.is_union) (eqb-true s.number u.number both.0)
    ∙ ap (λ b. at b u.number) (flag_is s.is_union u.is_union both.1)

-- where the steps first differ
abbrev beyond : Step → Step → Bool
beyond s u = nat_lt u.number s.number && not s.is_union

abbrev behind_step : Step → Step → List Step → List Step → Bool → Bool
behind_step s u now before same = if same then leads_behind now before else beyond s u

clear_step : (s u : Step) (now before : List Step) (same : Bool) → same_step s u ≡ same
    → behind_step s u now before same ≡ true → (leads_behind now before ≡ true → overrides now before ≡ false)
    → (if s.number == u.number then overrides now before else s.is_union) ≡ false
clear_step s u now before true is leads further =
    let both = and_parts (s.number == u.number) (same_flag s.is_union u.is_union) is in
    ap (λ b. if b then overrides now before else s.is_union) both.0 ∙ further leads
clear_step s u now before false is leads further =
    let both = and_parts (nat_lt u.number s.number) (not s.is_union) leads in
    let less : u.number < s.number = ltb-true u.number s.number both.0 in
    let apart : s.number ≢ u.number = omega arith in
    ap (λ b. if b then overrides now before else s.is_union) (ne_eqb s.number u.number apart)
    ∙ not-true s.is_union both.1

clear : (now before : List Step) → leads_behind now before ≡ true → overrides now before ≡ false
clear [] before leads = cc
clear (s ∷ now) [] leads = refl
clear (s ∷ now) (u ∷ before) leads =
    clear_step s u now before (same_step s u) refl leads (clear now before)

at_step : (s u : Step) (now before : List Step) (same : Bool) → same_step s u ≡ same
    → behind_step s u now before same ≡ true → leads_behind (s ∷ now) (u ∷ before) ≡ true
at_step s u now before same is leads = ap (behind_step s u now before) is ∙ leads

transitive_step : (s t u : Step) (c b a : List Step) (x : Bool) → same_step s t ≡ x → (y : Bool) → same_step t u ≡ y
    → behind_step s t c b x ≡ true → behind_step t u b a y ≡ true
    → (leads_behind c b ≡ true → leads_behind b a ≡ true → leads_behind c a ≡ true)
    → leads_behind (s ∷ c) (u ∷ a) ≡ true
transitive_step s t u c b a true st true tu p q further =
    at_step s u c a true (ap (λ r. same_step r u) (step_is s t st) ∙ tu) (further p q)
transitive_step s t u c b a true st false tu p q further =
    at_step s u c a false (ap (λ r. same_step r u) (step_is s t st) ∙ tu) (ap (λ r. beyond r u) (step_is s t st) ∙ q)
transitive_step s t u c b a false st true tu p q further =
    at_step s u c a false (ap (same_step s) (sym (step_is t u tu)) ∙ st) (ap (beyond s) (sym (step_is t u tu)) ∙ p)
transitive_step s t u c b a false st false tu p q further =
    let first = and_parts (nat_lt t.number s.number) (not s.is_union) p in
    let second = and_parts (nat_lt u.number t.number) (not t.is_union) q in
    let above : t.number < s.number = ltb-true t.number s.number first.0 in
    let below : u.number < t.number = ltb-true u.number t.number second.0 in
    let apart : s.number ≢ u.number = omega arith in
    let less : u.number < s.number = omega arith in
    at_step s u c a false
    (and_left (s.number == u.number) (same_flag s.is_union u.is_union) (ne_eqb s.number u.number apart))
    (and_from (nat_lt u.number s.number) (not s.is_union) (lt-ltb u.number s.number less) first.1)

transitive : (c b a : List Step) → leads_behind c b ≡ true → leads_behind b a ≡ true → leads_behind c a ≡ true
transitive [] b a p q = cc
transitive (s ∷ c) [] a p q = cc
transitive (s ∷ c) (t ∷ b) [] p q = cc
transitive (s ∷ c) (t ∷ b) (u ∷ a) p q =
    transitive_step s t u c b a (same_step s t) refl (same_step t u) refl p q (transitive c b a)

module _ {X : Type 0} (path : X → List Step) (now : List Step) where
  AllBefore : List X → Type 0
  AllBefore [] = Unit {0}
  AllBefore (x ∷ xs) = (leads_behind now (path x) ≡ true) × AllBefore xs

  all_before : (xs : List X) → are_in_order (map path xs) ≡ true → leads_behind_last now (map path xs) ≡ true
      → AllBefore xs
  unfolding AllBefore
  all_before [] ordered leads = tt
  all_before (x ∷ []) ordered leads = (leads, tt)
  all_before (x ∷ y ∷ xs) ordered leads =
      let both = and_parts (leads_behind (path y) (path x)) (are_in_order (map path (y ∷ xs))) ordered in
      let behind : AllBefore (y ∷ xs) = all_before (y ∷ xs) both.1 leads in
      (transitive now (path y) (path x) behind.0 both.0, behind)

  stays : (x : X) (xs : List X) → overrides now (path x) ≡ false
      → filter (λ y. not (overrides now (path y))) (x ∷ xs) ≡ x ∷ filter (λ y. not (overrides now (path y))) xs
  stays x xs is =
      ap (λ b. if not b then x ∷ filter (λ y. not (overrides now (path y))) xs
      else filter (λ y. not (overrides now (path y))) xs) is

  all_stay : (xs : List X) → AllBefore xs → filter (λ y. not (overrides now (path y))) xs ≡ xs
  unfolding AllBefore
  all_stay [] before = refl
  all_stay (x ∷ xs) before = stays x xs (clear now (path x) before.0) ∙ ap (λ ys. x ∷ ys) (all_stay xs before.1)

  -- none is overridden
  pub nothing_overridden : (xs : List X) → are_in_order (map path xs) ≡ true
      → leads_behind_last now (map path xs) ≡ true → xs ≡ filter (λ y. not (overrides now (path y))) xs
  nothing_overridden xs ordered leads = sym (all_stay xs (all_before xs ordered leads))

-- one more at the end keeps the order
pub still_in_order : (paths : List (List Step)) (now : List Step) → are_in_order paths ≡ true
    → leads_behind_last now paths ≡ true → are_in_order (paths ++ now ∷ []) ≡ true
still_in_order [] now ordered leads = refl
still_in_order (p ∷ []) now ordered leads = and_from (leads_behind now p) true leads refl
still_in_order (p ∷ q ∷ ps) now ordered leads =
    let both = and_parts (leads_behind q p) (are_in_order (q ∷ ps)) ordered in
    and_from (leads_behind q p) (are_in_order ((q ∷ ps) ++ now ∷ [])) both.0
    (still_in_order (q ∷ ps) now both.1 leads)

-- the last in a list, and its steps
pub last_is : {X : Type 0} (path : X → List Step) (xs : List X)
    → last_of (map path xs) ≡ option_map path (slice_get xs (length xs - 1))
last_is path [] = refl
last_is path (x ∷ []) = refl
last_is path (x ∷ y ∷ xs) =
    let e : length (x ∷ y ∷ xs) - 1 ≡ suc (length (y ∷ xs) - 1) = omega arith in
    last_is path (y ∷ xs) ∙ ap (λ n. option_map path (slice_get (x ∷ y ∷ xs) n)) (sym e)

pub behind_last : {X : Type 0} (path : X → List Step) (now : List Step) (xs ys : List X) (x : X) (r : Bool)
    → Some x ≡ slice_get ys (length ys - 1) → ys ≡ xs → r ≡ leads_behind now (path x)
    → r ≡ leads_behind_last now (map path xs)
behind_last path now xs ys x r is same leads =
    leads ∙ ap (leads_behind_if now) (ap (option_map path) (is ∙ ap (λ zs. slice_get zs (length zs - 1)) same)
    ∙ sym (last_is path xs))

-- parts that are known to be in order are
pub known_in_order : (known : Bool) (paths : List (List Step)) → known ≡ true
    → (not known || are_in_order paths) ≡ true → are_in_order paths ≡ true
known_in_order known paths is kept = ap (λ k. not k || are_in_order paths) (sym is) ∙ kept

kept_if : (leads : Bool) (paths : List (List Step)) (now : List Step) → leads_behind_last now paths ≡ leads
    → are_in_order paths ≡ true → (not leads || are_in_order (paths ++ now ∷ [])) ≡ true
kept_if true paths now is ordered = still_in_order paths now ordered is
kept_if false paths now is ordered = refl

-- whether they are known to be so with one more
pub known_with_more : (known leads : Bool) (paths all : List (List Step)) (now : List Step) → known ≡ true
    → (not known || are_in_order paths) ≡ true → leads ≡ leads_behind_last now paths → all ≡ paths ++ now ∷ []
    → (not leads || are_in_order all) ≡ true
known_with_more known leads paths all now is kept leads_is all_is =
    ap (λ l. not l || are_in_order all) leads_is
    ∙ ap (λ ps. not (leads_behind_last now paths) || are_in_order ps) all_is
    ∙ kept_if (leads_behind_last now paths) paths now refl (known_in_order known paths is kept)

pub not_known : (known : Bool) (paths : List (List Step)) → known ≡ false → (not known || are_in_order paths) ≡ true
not_known known paths is = ap (λ k. not k || are_in_order paths) is
