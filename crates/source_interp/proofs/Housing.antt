-- The homes of variables.
use Rattle.std.proofs.Common.{◌≡◌, ℕ, ◌+◌, ◌<◌, ◌≤◌, sym, ap, refl, ◌∙◌, None, arith}
use Rattle.std.proofs.Common.{List, [], ◌∷◌, ◌++◌, length, drop, ⊎_elim}
use Rattle.std.specs.Prelude.{Option, get_or, max}
use Rattle.std.proofs.lemmas.Bool.{cases_lt}
use Rattle.std.proofs.lemmas.List.{append-nil, append_assoc, drop_all, drop_more, get_or_past, length-map, map-append}
use Rattle.std.proofs.Math.ListN.{get_or-map}
use Rattle.source_meaning.specs.State.{Home, NoObject, InObject}
use Rattle.source_meaning.specs.Blocks.{homes_over, over}
use Rattle.source_interp.specs.Homes.{home_of, homes_of}

pub at_home : (items : List (Option ℕ)) (x : ℕ) (home : Option ℕ) → home ≡ get_or items x None
    → home_of home ≡ get_or (homes_of items) x NoObject
at_home items x home e = ap home_of e ∙ sym (get_or-map home_of items x None)

pub as_many : (items : List (Option ℕ)) → length items ≡ length (homes_of items)
as_many items = sym (length-map items home_of)

pub one_more : (items new : List (Option ℕ)) (home : Option ℕ) → new ≡ items ++ (home ∷ [])
    → homes_of new ≡ homes_of items ++ (home_of home ∷ [])
one_more items new home e = ap homes_of e ∙ map-append home_of items (home ∷ [])

-- homes over others, variable by variable

over_none : (xs : List Home) → homes_over xs [] ≡ xs
over_none [] = refl
over_none (x ∷ xs) = refl

over_nothing : (y : Home) → over NoObject y ≡ y
over_nothing NoObject = refl
over_nothing (InObject n) = refl

module _ (xs ys : List Home) (i : ℕ) where
  abbrev outer : Home
  outer = get_or xs i NoObject

  abbrev inner : Home
  inner = get_or ys i NoObject

  abbrev next : List Home
  next = over outer inner ∷ homes_over (drop (i + 1) xs) (drop (i + 1) ys)

  both_there : i < length xs → i < length ys → homes_over (drop i xs) (drop i ys) ≡ next
  both_there h k = ap (λ zs. homes_over zs (drop i ys)) (drop_more xs i NoObject h)
      ∙ ap (homes_over (outer ∷ drop (i + 1) xs)) (drop_more ys i NoObject k)

  outer_there : i < length xs → length ys ≤ i → homes_over (drop i xs) (drop i ys) ≡ next
  outer_there h k =
      ap (λ zs. homes_over zs (drop i ys)) (drop_more xs i NoObject h)
      ∙ ap (homes_over (outer ∷ drop (i + 1) xs)) (drop_all i ys k)
      ∙ ap (λ y. over outer y ∷ drop (i + 1) xs) (sym (get_or_past ys i NoObject k))
      ∙ ap (λ zs. over outer inner ∷ zs) (sym (over_none (drop (i + 1) xs))
      ∙ ap (homes_over (drop (i + 1) xs)) (sym (drop_all (i + 1) ys (omega (arith, k)))))

  inner_there : length xs ≤ i → i < length ys → homes_over (drop i xs) (drop i ys) ≡ next
  inner_there h k =
      ap (λ zs. homes_over zs (drop i ys)) (drop_all i xs h)
      ∙ drop_more ys i NoObject k
      ∙ ap (λ y. y ∷ drop (i + 1) ys) (sym (over_nothing inner)
      ∙ ap (λ x. over x inner) (sym (get_or_past xs i NoObject h)))
      ∙ ap (λ zs. over outer inner ∷ homes_over zs (drop (i + 1) ys)) (sym (drop_all (i + 1) xs (omega (arith, h))))

  pub next_over : i < max (length xs) (length ys) → homes_over (drop i xs) (drop i ys) ≡ next
  next_over h = ⊎_elim
      (λ a. ⊎_elim (λ b. both_there a b) (λ b. outer_there a b) (cases_lt i (length ys)))
      (λ a. inner_there a (omega (arith, h, a)))
      (cases_lt i (length xs))

-- what is done so far, and what is left
pub over_more : (xs ys : List Home) (items new : List (Option ℕ)) (i : ℕ) (x y z : Option ℕ)
    → homes_of items ++ homes_over (drop i xs) (drop i ys) ≡ homes_over xs ys
    → i < max (length xs) (length ys) → home_of x ≡ get_or xs i NoObject → home_of y ≡ get_or ys i NoObject
    → home_of z ≡ over (home_of x) (home_of y) → new ≡ items ++ (z ∷ [])
    → homes_of new ++ homes_over (drop (i + 1) xs) (drop (i + 1) ys) ≡ homes_over xs ys
over_more xs ys items new i x y z so_far within outer inner both more =
    ap (λ zs. zs ++ homes_over (drop (i + 1) xs) (drop (i + 1) ys)) (one_more items new z more)
    ∙ append_assoc (homes_of items) (home_of z ∷ []) (homes_over (drop (i + 1) xs) (drop (i + 1) ys))
    ∙ ap (λ h. homes_of items ++ (h ∷ homes_over (drop (i + 1) xs) (drop (i + 1) ys)))
    (both ∙ ap (λ h. over h (home_of y)) outer ∙ ap (over (get_or xs i NoObject)) inner)
    ∙ ap (λ zs. homes_of items ++ zs) (sym (next_over xs ys i within)) ∙ so_far

-- all are done
pub over_all : (xs ys : List Home) (items : List (Option ℕ)) (i : ℕ)
    → homes_of items ++ homes_over (drop i xs) (drop i ys) ≡ homes_over xs ys → max (length xs) (length ys) ≤ i
    → homes_of items ≡ homes_over xs ys
over_all xs ys items i so_far h =
    sym (append-nil (homes_of items))
    ∙ ap (λ zs. homes_of items ++ homes_over zs []) (sym (drop_all i xs (omega (arith, h))))
    ∙ ap (λ zs. homes_of items ++ homes_over (drop i xs) zs) (sym (drop_all i ys (omega (arith, h)))) ∙ so_far
