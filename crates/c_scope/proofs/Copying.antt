-- A name that a scope does not declare yet stands behind all others.
use Rattle.std.proofs.Common.{◌≡◌, ◌<◌, ℕ, zero, suc, Bool, true, false, cond, List, [], ◌∷◌, ◌++◌, length, map, take}
use Rattle.std.proofs.Common.{slice_get, Option, Some, None, ◌≤◌, option_map, refl, sym, ap, subst, ◌∙◌, arith}
use Rattle.std.specs.Borrow.{Bor}
use Rattle.c_scope.specs.Names.{Name, Names, bound, is_name}

with_first : {A : Type 0} (name : Name) (x : A) (e : Name × A) (es : Names A) (b : Bool)
    → (length es < length (bound name x es) → bound name x es ≡ es ++ (name, x) ∷ [])
    → suc (length es) < length (cond b ((e.0, x) ∷ es) (e ∷ bound name x es))
    → cond b ((e.0, x) ∷ es) (e ∷ bound name x es) ≡ e ∷ es ++ (name, x) ∷ []
with_first name x e es true again is = absurd (omega (arith, is))
with_first name x e es false again is = ap (λ l. e ∷ l) (again (omega (arith, is)))

abbrev unwrapped : {A : Type 0} → A → Option A → A
unwrapped x None = x
unwrapped x (Some y) = y

new_last : {A : Type 0} (name : Name) (x : A) (es : Names A) → length es < length (bound name x es)
    → bound name x es ≡ es ++ (name, x) ∷ []
new_last name x [] is = refl
new_last name x (e ∷ es) is = with_first name x e es (is_name name e.0) (new_last name x es) is

taken_more : {A : Type 0} (n : ℕ) (es : List A) (e : A) → slice_get es n ≡ Some e
    → take n es ++ e ∷ [] ≡ take (suc n) es
taken_more n [] e is = cc
taken_more zero (x ∷ xs) e is = ap (λ o. unwrapped e o ∷ []) (sym is)
taken_more (suc n) (x ∷ xs) e is = ap (λ l. x ∷ l) (taken_more n xs e is)

abbrev row : {A : Type 0} → Bor (List ℕ) × A → Name × A
row e = (e.0.now, e.1)

row_at : {A : Type 0} (es : List (Bor (List ℕ) × A)) (n : ℕ) (k : Bor (List ℕ)) (x : A)
    → Some (k, x) ≡ slice_get es n → slice_get (map row es) n ≡ Some (k.now, x)
row_at [] n k x is = cc
row_at (e ∷ es) zero k x is = sym (ap (option_map row) is)
row_at (e ∷ es) (suc n) k x is = row_at es n k x is

length_take : {A : Type 0} (n : ℕ) (es : List A) → n ≤ length es → length (take n es) ≡ n
length_take zero es h = refl
length_take (suc n) [] h = absurd (omega (arith, h))
length_take (suc n) (e ∷ es) h = ap (λ m. suc m) (length_take n es (omega (arith, h)))

-- the entry with a number of a map, bound behind those before it
pub next_copied : {A : Type 0} (es : List (Bor (List ℕ) × A)) (n : ℕ) (k : Bor (List ℕ)) (x y : A)
    (before new : Names A) (count : ℕ) → Some (k, x) ≡ slice_get es n → n < length (map row es) → y ≡ x
    → before ≡ take n (map row es) → new ≡ bound k.now y before → count ≡ length new → n < count
    → new ≡ take (suc n) (map row es)
next_copied es n k x y before new count is inside same begun made counted longer =
    let is_new = made ∙ ap (λ z. bound k.now z before) same ∙ ap (bound k.now x) begun in
    let long = subst (λ m. n < m) (counted ∙ ap length is_new) longer in
    is_new ∙ new_last k.now x (take n (map row es))
    (subst (λ m. m < length (bound k.now x (take n (map row es))))
    (sym (length_take n (map row es) (omega (arith, inside)))) long)
    ∙ taken_more n (map row es) (k.now, x) (row_at es n k x is)
