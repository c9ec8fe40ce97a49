-- The words of a labelled list meet every target, in reach.
use Rattle.std.proofs.Common.{◌≡◌, ℕ, zero, suc, ◌+◌, ◌<◌, ◌≤◌, ◌^◌, List, [], ◌∷◌, length, Some, None, Option, Bool}
use Rattle.std.proofs.Common.{true, false, refl, sym, ap, ◌∙◌, arith, subst, ◌⊎◌, inl, inr}
use Rattle.std.specs.Prelude.{slice_get, nat_lt, if◌then◌else◌}
use Rattle.std.proofs.Math.ListN.{get_or}
use Rattle.std.proofs.lemmas.Bool.{ltb-true, cases_lt}
use Rattle.std.proofs.lemmas.Option.{slice_get_within, get_or_from_slice_get}
use Rattle.rv_asm.specs.declared.form.Form.{Form}
use Rattle.rv_asm.specs.declared.form.Form.TheVariants.{Short, Near, Far}
use Rattle.rv_asm.specs.declared.item.Item.{Item}
use Rattle.rv_asm.specs.declared.item.Item.TheVariants.{Label, Instr, Jump, Call, Branch}
use Rattle.rv_asm.specs.Items.{target_of, AreApart}
use Rattle.rv_asm.specs.Forms.{size_of, size, start, longest, chosen, shortest, distance, label_place, target_place}
use Rattle.rv_asm.specs.Forms.{forms_of, Reaches, IsAssemblable}
use Rattle.rv_asm.specs.Words.{instrs_of, words_from, words_of, HasWords, IsMetAt, Assembled}
use Rattle.rv_asm.proofs.Choices.{size_within, longest_length, forms_length, label_stands, words_count, target_known}
use Rattle.rv_asm.proofs.Emitted.{stands}
use Rattle.rv_asm.proofs.Layouts.{start_first, start_step}

start_last : (fs : List Form) (is : List Item) → length fs ≡ length is → start fs is (length is) ≡ size fs is
start_last [] is many = refl
start_last (f ∷ fs) [] many = refl
start_last (f ∷ fs) (i ∷ is) many = ap (λ n. size_of f i + n) (start_last fs is (omega (arith, many)))

-- later items stand no earlier
start_later : (fs : List Form) (is : List Item) (k d : ℕ) → k ≤ d → start fs is k ≤ start fs is d
start_later [] is k d le = omega arith
start_later (f ∷ fs) [] k d le = omega arith
start_later (f ∷ fs) (i ∷ is) zero d le = omega arith
start_later (f ∷ fs) (i ∷ is) (suc k) zero le = absurd (omega (arith, le))
start_later (f ∷ fs) (i ∷ is) (suc k) (suc d) le = let r = start_later fs is k d (omega (arith, le)) in omega (arith, r)

start_at_most : (fs : List Form) (is : List Item) (k : ℕ) → start fs is k ≤ size fs is
start_at_most [] is k = omega arith
start_at_most (f ∷ fs) [] k = omega arith
start_at_most (f ∷ fs) (i ∷ is) zero = omega arith
start_at_most (f ∷ fs) (i ∷ is) (suc k) = let r = start_at_most fs is k in omega (arith, r)

-- in no forms are two items further apart than in the longest
start_closer : (fs : List Form) (is : List Item) (k d : ℕ) → k ≤ d
    → start fs is d + start (longest is) is k ≤ start (longest is) is d + start fs is k
start_closer [] [] k d le = omega arith
start_closer [] (i ∷ is) k d le = let r = start_later (longest (i ∷ is)) (i ∷ is) k d le in omega (arith, r)
start_closer (f ∷ fs) [] k d le = omega arith
start_closer (f ∷ fs) (i ∷ is) zero zero le = omega arith
start_closer (f ∷ fs) (i ∷ is) zero (suc d) le =
    let s = size_within f i in
    let r = start_closer fs is zero d (omega arith) in
    omega (arith, s, r, start_first fs is, start_first (longest is) is)
start_closer (f ∷ fs) (i ∷ is) (suc k) zero le = absurd (omega (arith, le))
start_closer (f ∷ fs) (i ∷ is) (suc k) (suc d) le = let r = start_closer fs is k d (omega (arith, le)) in omega
    (arith, r)

distance_closer : (fs : List Form) (is : List Item) (k d : ℕ)
    → distance (start fs is k) (start fs is d) ≤ distance (start (longest is) is k) (start (longest is) is d)
distance_closer fs is k d = by (cases_lt k d)
  where
    by : (k < d) ⊎ (d ≤ k) → distance (start fs is k) (start fs is d) ≤ distance (start (longest is) is k)
        (start (longest is) is d)
    by (inl less) = let a = start_closer fs is k d (omega (arith, less)) in let b = start_later fs is k d
        (omega (arith, less)) in omega (arith, a, b)
    by (inr more) = let a = start_closer fs is d k more in let b = start_later fs is d k more in omega (arith, a, b)

-- the form that is chosen for item k
chosen_at : (P : ℕ → ℕ) (p : ℕ) (is : List Item) (k : ℕ) (i : Item) (d : Form) → slice_get is k ≡ Some i
    → get_or (chosen P p is) k d ≡ shortest (p + start (longest is) is k) (target_place P i)
chosen_at P p [] k i d h = cc
chosen_at P p (j ∷ is) zero i d h =
    let e : j ≡ i = cc in
    let z : p ≡ p + 0 = omega arith in
    rw (sym e, sym z) refl
chosen_at P p (j ∷ is) (suc k) i d h =
    let r = chosen_at P (p + size_of Far j) is k i d h in
    let e : p + size_of Far j + start (longest is) is k ≡ p + (size_of Far j + start (longest is) is k) = omega arith in
    rw (r, e) refl

-- what is no further is reached too
reaches : (p t q u : ℕ) → distance q u ≤ distance p t → distance p t < 2 ^ 28 → Reaches (shortest p t) q u
reaches p t q u closer far = first (nat_lt (distance p t) 1024) refl
  where
    second : (b : Bool) → nat_lt (distance p t) 262143 ≡ b → Reaches (if b then Near else Far) q u
    second true e = let l = ltb-true (distance p t) 262143 e in omega (arith, closer, l)
    second false e = omega (arith, closer, far)

    first : (b : Bool) → nat_lt (distance p t) 1024 ≡ b
        → Reaches (if b then Short else (if nat_lt (distance p t) 262143 then Near else Far)) q u
    first true e = let l = ltb-true (distance p t) 1024 e in omega (arith, closer, l)
    first false e = second (nat_lt (distance p t) 262143) refl

no_target : (i : Item) (f : Form) (p s t : ℕ) → target_of i ≡ None → instrs_of f p s i ≡ instrs_of f p t i
no_target (Label _) f p s t e = refl
no_target (Instr _) f p s t e = refl
no_target (Jump _) f p s t e = cc
no_target (Call _) f p s t e = cc
no_target (Branch _ _ _ _) f p s t e = cc

-- the place of a label in the forms that are chosen
label_of : List Item → ℕ → ℕ
label_of items l = label_place (forms_of items) items 0 l

-- item k's words stand at its place
stands_here : (items : List Item) (k : ℕ) (i : Item) → slice_get items k ≡ Some i
    → HasWords (words_of items) (start (forms_of items) items k)
    (instrs_of (get_or (forms_of items) k Far) (start (forms_of items) items k) (target_place (label_of items) i) i)
unfolding words_of label_of
stands_here items k i h =
    let P = label_place (forms_of items) items 0 in
    let z : 0 + start (forms_of items) items k ≡ start (forms_of items) items k = omega arith in
    subst (λ p. HasWords (words_from P 0 (forms_of items) items) p
    (instrs_of (get_or (forms_of items) k Far) p (target_place P i) i)) z
    (stands P [] (forms_of items) items k i Far (forms_length items) h)

label_of_stands : (items : List Item) (l d : ℕ) → AreApart items → slice_get items d ≡ Some (Label l)
    → label_of items l ≡ start (forms_of items) items d
unfolding label_of
label_of_stands items l d apart h = label_stands (forms_of items) items l d apart (forms_length items) h

-- the form that item k has
form_at : (items : List Item) (k d l : ℕ) (i : Item) → AreApart items → slice_get items k ≡ Some i
    → target_of i ≡ Some l → slice_get items d ≡ Some (Label l)
    → get_or (forms_of items) k Far ≡ shortest (start (longest items) items k) (start (longest items) items d)
unfolding forms_of
form_at items k d l i apart h t g =
    let P = label_place (longest items) items 0 in
    let place = target_known P i l t ∙ label_stands (longest items) items l d apart (longest_length items) g in
    let z : 0 + start (longest items) items k ≡ start (longest items) items k = omega arith in
    chosen_at P 0 items k i Far h ∙
    (ap (λ p. shortest p (target_place P i)) z ∙ ap (shortest (start (longest items) items k)) place)

pub assembled : (items : List Item) → IsAssemblable items → Assembled items (words_of items)
assembled items able = record {
  form = λ k. get_or (forms_of items) k Far;
  place = start (forms_of items) items;
  first = start_first (forms_of items) items;
  next = λ k i h. start_step (forms_of items) items k (suc k) i Far (forms_length items) (slice_get_within items k i h)
      (sym (get_or_from_slice_get items k i i h)) refl;
  last = start_last (forms_of items) items (forms_length items) ∙ sym (words_count items);
  words = λ k d i h m. met k d i h m (target_of i) refl;
  reach = λ k d l i h t g. in_reach k d l i h t g;
}
  where
    at : ℕ → ℕ
    at = start (forms_of items) items

    form : ℕ → Form
    form k = get_or (forms_of items) k Far

    met : (k d : ℕ) (i : Item) → slice_get items k ≡ Some i → IsMetAt items (target_of i) d → (o : Option ℕ)
        → target_of i ≡ o
        → HasWords (words_of items) (at k) (instrs_of (form k) (at k) (at d) i)
    met k d i h m None e =
        subst (HasWords (words_of items) (at k))
        (no_target i (form k) (at k) (target_place (label_of items) i) (at d) e) (stands_here items k i h)
    met k d i h m (Some l) e =
        let there : slice_get items d ≡ Some (Label l) = subst (λ o. IsMetAt items o d) e m in
        let place = target_known (label_of items) i l e ∙ label_of_stands items l d able.apart there in
        subst (λ t. HasWords (words_of items) (at k) (instrs_of (form k) (at k) t i)) place (stands_here items k i h)

    in_reach : (k d l : ℕ) (i : Item) → slice_get items k ≡ Some i → target_of i ≡ Some l
        → slice_get items d ≡ Some (Label l) → Reaches (form k) (at k) (at d)
    in_reach k d l i h t g =
        let a = start_at_most (longest items) items k in
        let b = start_at_most (longest items) items d in
        subst (λ f. Reaches f (at k) (at d)) (sym (form_at items k d l i able.apart h t g))
        (reaches (start (longest items) items k) (start (longest items) items d) (at k) (at d)
        (distance_closer (forms_of items) items k d) (omega (arith, a, b, able.room)))
