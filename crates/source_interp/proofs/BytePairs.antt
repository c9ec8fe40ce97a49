-- Ranges of bytes that are compared.
use Rattle.std.proofs.Common.{◌≡◌, ℕ, ◌+◌, ◌*◌, ◌<◌, ◌≤◌, ◌==◌, sym, ap, subst, refl, ◌∙◌, Ok, Bool, true, false, List}
use Rattle.std.proofs.Common.{◌∷◌, length, drop, if◌then◌else◌, arith}
use Rattle.std.specs.Prelude.{get_or}
use Rattle.std.proofs.lemmas.List.{drop_all, drop_more}
use Rattle.obj_memory.specs.declared.value.Place.{Place}
use Rattle.obj_memory.specs.declared.value.Value.{Value}
use Rattle.obj_memory.specs.Access.{bytes_at}
use Rattle.obj_memory.specs.Objects.{Objects}
use Rattle.source_meaning.specs.State.{◌>>=◌, ◌>>◌, Setting, done, read_state, tally}
use Rattle.source_meaning.specs.Actions.{integer}
use Rattle.source_meaning.specs.Bytes.{order}
use Rattle.source_meaning.specs.Memory.{order_of, pairs_compared}
use Rattle.interpreter_objects.specs.Kept.{is_there, kept}
use Rattle.interpreter_objects.proofs.Keeping.{same_bytes_at, same_there}
use Rattle.source_interp.specs.declared.machine.Machine.{Machine}
use Rattle.source_interp.specs.Comparing.{compare_at}
use Rattle.source_interp.specs.Outside.{Outside}
use Rattle.source_interp.specs.Standing.{Acts}
use Rattle.source_interp.proofs.Acting.{gives_acts, reads_then, then_acts}

-- pair by pair

module _ (xs ys : List ℕ) (i x y : ℕ) (in_left : i < length xs) (in_right : i < length ys) (is : x ≡ get_or xs i x)
    (is' : y ≡ get_or ys i y) where
  left_at : drop i xs ≡ x ∷ drop (i + 1) xs
  left_at = drop_more xs i x in_left ∙ ap (λ v. v ∷ drop (i + 1) xs) (sym is)

  right_at : drop i ys ≡ y ∷ drop (i + 1) ys
  right_at = drop_more ys i y in_right ∙ ap (λ v. v ∷ drop (i + 1) ys) (sym is')

  pairs_at : (b : Bool) → (x == y) ≡ b → pairs_compared (drop i xs) (drop i ys)
      ≡ (if b then 1 + pairs_compared (drop (i + 1) xs) (drop (i + 1) ys) else 1)
  pairs_at b e =
      ap (λ zs. pairs_compared zs (drop i ys)) left_at
      ∙ ap (λ zs. pairs_compared (x ∷ drop (i + 1) xs) zs) right_at
      ∙ ap (λ c. if c then 1 + pairs_compared (drop (i + 1) xs) (drop (i + 1) ys) else 1) e

  order_at : (b : Bool) → (x == y) ≡ b → order_of (drop i xs) (drop i ys)
      ≡ (if b then order_of (drop (i + 1) xs) (drop (i + 1) ys) else order x y)
  order_at b e =
      ap (λ zs. order_of zs (drop i ys)) left_at ∙ ap (λ zs. order_of (x ∷ drop (i + 1) xs) zs) right_at
      ∙ ap (λ c. if c then order_of (drop (i + 1) xs) (drop (i + 1) ys) else order x y) e

  pub pairs_on : i + pairs_compared (drop i xs) (drop i ys) ≡ pairs_compared xs ys → (x == y) ≡ true
      → (i + 1) + pairs_compared (drop (i + 1) xs) (drop (i + 1) ys) ≡ pairs_compared xs ys
  pairs_on so_far e = omega (arith, so_far, pairs_at true e)

  pub pairs_end : i + pairs_compared (drop i xs) (drop i ys) ≡ pairs_compared xs ys → (x == y) ≡ false
      → i + 1 ≡ pairs_compared xs ys
  pairs_end so_far e = omega (arith, so_far, pairs_at false e)

  pub order_on : order_of (drop i xs) (drop i ys) ≡ order_of xs ys → (x == y) ≡ true
      → order_of (drop (i + 1) xs) (drop (i + 1) ys) ≡ order_of xs ys
  order_on so_far e = sym (order_at true e) ∙ so_far

  pub order_end : (v : Value) → v ≡ order x y → order_of (drop i xs) (drop i ys) ≡ order_of xs ys
      → (x == y) ≡ false → v ≡ order_of xs ys
  order_end v same so_far e = same ∙ sym (order_at false e) ∙ so_far

module _ (xs ys : List ℕ) (i : ℕ) (over : length xs ≤ i) where
  pub pairs_all : i ≤ length xs → i + pairs_compared (drop i xs) (drop i ys) ≡ pairs_compared xs ys
      → length xs ≡ pairs_compared xs ys
  pairs_all within so_far = omega (
    arith,
    over,
    within,
    so_far,
    ap (λ zs. pairs_compared zs (drop i ys)) (drop_all i xs over),
  )

  pub order_all : (v : Value) → v ≡ integer 0 → order_of (drop i xs) (drop i ys) ≡ order_of xs ys → v ≡ order_of xs ys
  order_all v same so_far = same ∙ sym (ap (λ zs. order_of zs (drop i ys)) (drop_all i xs over)) ∙ so_far

-- bytes that are there are the same among all objects

same_bytes : (size : ℕ) (p : Place) (store objects : Objects) → store ≡ kept objects → is_there size p store ≡ true
    → bytes_at size p objects ≡ bytes_at size p store
same_bytes size p store objects e t =
    sym (same_bytes_at size p objects (sym (same_there size p objects) ∙ ap (is_there size p) (sym e) ∙ t))
    ∙ ap (bytes_at size p) (sym e)

pub compares : (g : Setting) (o : Outside) (old new : Machine) (size : ℕ) (left right : Place) (work : ℕ) (v : Value)
    → is_there size left old.store ≡ true → is_there size right old.store ≡ true
    → work ≡ 2 * pairs_compared (bytes_at size left old.store) (bytes_at size right old.store)
    → v ≡ order_of (bytes_at size left old.store) (bytes_at size right old.store)
    → Acts g old new o o (Ok tt) (tally work) → Acts g old new o o (Ok v) (compare_at size left right)
compares g o old new size left right work v t t' e e' a =
    let xs = bytes_at size left old.store in
    let ys = bytes_at size right old.store in
    reads_then g old new o o xs (Ok v) (λ s. bytes_at size left s.objects)
    (λ x. read_state (λ s. bytes_at size right s.objects)
    >>= λ y. (tally (2 * pairs_compared x y) >> done (order_of x y)))
    (λ start s st. same_bytes size left old.store s.objects st.objects_are t)
    (reads_then g old new o o ys (Ok v) (λ s. bytes_at size right s.objects)
    (λ y. tally (2 * pairs_compared xs y) >> done (order_of xs y))
    (λ start s st. same_bytes size right old.store s.objects st.objects_are t')
    (then_acts g old new new o o o (Ok tt) tt (Ok v) (tally (2 * pairs_compared xs ys)) (λ _. done (order_of xs ys))
    refl
    (subst (λ n. Acts g old new o o (Ok tt) (tally n)) e a) (gives_acts g new o v (order_of xs ys) e')))
