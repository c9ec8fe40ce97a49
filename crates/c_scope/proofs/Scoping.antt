-- What maps of names look up and take in, and scopes that are opened and closed.
use Rattle.std.proofs.Common.{◌≡◌, ℕ, zero, suc, ◌+◌, ◌≤◌, Bool, true, false, cond, List, [], ◌∷◌, ◌++◌, map, drop}
use Rattle.std.proofs.Common.{length, get_or, Option, Some, None, refl, sym, ap, ◌∙◌, arith}
use Rattle.std.specs.Borrow.{Bor}
use Rattle.std.specs.Map.{lookup}
use Rattle.std.proofs.lemmas.List.{drop_more}
use Rattle.indexmap.specs.IndexMap.{insert_entry}
use Rattle.c_scope.specs.Names.{Name, Names, around, bound, closed, declared, found, innermost, is_name, or_else}
use Rattle.c_scope.specs.Names.{Scopes}

abbrev row : {A : Type 0} → Bor (List ℕ) × A → Name × A
row e = (e.0.now, e.1)

pub looked_up : {A : Type 0} (name : Name) (es : List (Bor (List ℕ) × A))
    → lookup (λ k. is_name name k.now) es ≡ declared name (map row es)
looked_up name [] = refl
looked_up name (e ∷ es) = ap (cond (is_name name e.0.now) (Some e.1)) (looked_up name es)

abbrev same : Bor (List ℕ) → Bor (List ℕ) → Bool
same x y = is_name x.now y.now

kept_or_behind : {A : Type 0} (b : Bool) (e : Bor (List ℕ) × A) (es inner : List (Bor (List ℕ) × A)) (what : A)
    (outer : Names A) → map row inner ≡ outer
    → map row (cond b ((e.0, what) ∷ es) (e ∷ inner)) ≡ cond b ((e.0.now, what) ∷ map row es) (row e ∷ outer)
kept_or_behind true e es inner what outer is = refl
kept_or_behind false e es inner what outer is = ap (λ xs. row e ∷ xs) is

pub taken_in : {A : Type 0} (name : Bor (List ℕ)) (what : A) (es : List (Bor (List ℕ) × A))
    → map row (insert_entry same es name what) ≡ bound name.now what (map row es)
taken_in name what [] = refl
taken_in name what (e ∷ es) =
    kept_or_behind (same name e.0) e es (insert_entry same es name what) what _ (taken_in name what es)

around_last : {A : Type 0} (ss : List (Names A)) (s : Names A) → around (ss ++ s ∷ []) ≡ ss
around_last [] s = refl
around_last (t ∷ []) s = refl
around_last (t ∷ u ∷ ss) s = ap (λ xs. t ∷ xs) (around_last (u ∷ ss) s)

innermost_last : {A : Type 0} (file : Names A) (ss : List (Names A)) (s : Names A)
    → innermost file (ss ++ s ∷ []) ≡ s
innermost_last file [] s = refl
innermost_last file (t ∷ ss) s = innermost_last t ss s

pub closed_is : {A : Type 0} (scopes : Scopes A) (ss : List (Names A)) (s : Names A) → scopes.outer ≡ ss ++ s ∷ []
    → record { outer = ss; current = s } ≡ closed scopes
closed_is scopes ss s is =
    let a = ap around is ∙ around_last ss s in
    let b = ap (innermost scopes.current) is ∙ innermost_last scopes.current ss s in
    ap (λ o. record { outer = o; current = s }) (sym a)
    ∙ ap (λ c. record { outer = around scopes.outer; current = c }) (sym b)

-- what is found in the inner scopes is found
from_inner : {A : Type 0} (inner outer : Option A) (what : A) → inner ≡ Some what → or_else inner outer ≡ Some what
from_inner None outer what is = cc
from_inner (Some x) outer what is = is

-- of scopes that are views of others
module _ {A B : Type 0} (view : B → Names A) (name : Name) where
  within : (ss : List B) (i : ℕ) (what : A) → found name (map view (drop i ss)) ≡ Some what
      → found name (map view ss) ≡ Some what
  within ss zero what is = is
  within [] (suc i) what is = is
  within (s ∷ ss) (suc i) what is = from_inner _ _ what (within ss i what is)

  -- one scope further out
  outward : (ss : List B) (i j : ℕ) (s : B) → j + 1 ≡ i → i ≤ length ss → s ≡ get_or ss j s
      → found name (map view (drop i ss)) ≡ None → found name (map view (drop j ss)) ≡ declared name (view s)
  outward ss i j s next inside is none =
      ap (λ xs. found name (map view xs)) (drop_more ss j s (omega arith))
      ∙ ap (λ o. or_else o (declared name (view (get_or ss j s))))
      (ap (λ n. found name (map view (drop n ss))) next ∙ none)
      ∙ ap (λ x. declared name (view x)) (sym is)

  pub found_here : (ss : List B) (i j : ℕ) (s : B) (what : A) → j + 1 ≡ i → i ≤ length ss → s ≡ get_or ss j s
      → found name (map view (drop i ss)) ≡ None → Some what ≡ declared name (view s)
      → Some what ≡ found name (map view ss)
  found_here ss i j s what next inside is none here =
      sym (within ss j what (outward ss i j s next inside is none ∙ sym here))

  pub found_outside : (ss : List B) (i j : ℕ) (s : B) → j + 1 ≡ i → i ≤ length ss → s ≡ get_or ss j s
      → found name (map view (drop i ss)) ≡ None → None ≡ declared name (view s)
      → found name (map view (drop j ss)) ≡ None
  found_outside ss i j s next inside is none here = outward ss i j s next inside is none ∙ sym here
