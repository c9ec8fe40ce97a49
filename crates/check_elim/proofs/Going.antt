-- Checks go one after the other.
use Rattle.std.proofs.Common.{◌≡◌, ◌⊎◌, inl, inr, ⊎_elim, ℕ, ◌+◌, ◌^◌, ◌<◌, ◌≤◌, List, [], ◌∷◌, ◌++◌, length, Some, None}
use Rattle.std.proofs.Common.{suc, Bool, true, false, refl, sym, ap, ◌∙◌, subst, arith, append_assoc}
use Rattle.std.specs.Prelude.{slice_get, not}
use Rattle.std.proofs.lemmas.Bool.{cases_lt}
use Rattle.data_flow.proofs.Lists.{at_front, at_end}
use Rattle.tac_ir.specs.declared.instruction.Instruction.{Instruction}
use Rattle.tac_ir.specs.declared.instruction.Instruction.TheVariants.{Judge}
use Rattle.tac_ir.specs.declared.function.CodeFunction.{CodeFunction}
use Rattle.tac_ir.specs.declared.function.Tac.{Tac}
use Rattle.check_insert.specs.Counting.{is_check, sum_over, sum_of_functions, checks}
use Rattle.check_elim.specs.Available.{IsAvailable, IsAvailableCheck, IsDroppable, IsOpen}
use Rattle.check_elim.specs.Dropped.{Choice, skipped, DroppedAt, left_of, CodeDropped, FunctionDropped}
use Rattle.check_elim.specs.Dropped.{AreDropped, Dropped}
use Rattle.check_elim.specs.Seeking.{fact_of, IsFactOf}
use Rattle.check_elim.specs.declared.facts.Sought.{Sought}
use Rattle.check_elim.proofs.Complement.{open_is_not_available, closed_is_available}

-- a check whose fact was sought

available_of : (s : Sought) (n : ℕ) (i : Instruction) → IsFactOf s i
    → IsAvailable s.function.now (fact_of s) n → IsAvailableCheck s.function.now n i
available_of s n (Judge test size line (Some k) a m) (is, has, size') h = (
  s.key.now,
  has,
  subst (λ z. IsAvailable s.function.now (record { test = test; key = s.key.now; size = z }) n) (sym size')
      (subst (λ z. IsAvailable s.function.now (record { test = z; key = s.key.now; size = s.size }) n) (sym is) h),
)
available_of s n (Judge test size line None a m) h k = absurd h
available_of s n i h k = absurd h

available_only : (s : Sought) (n : ℕ) (i : Instruction) → IsFactOf s i → IsAvailableCheck s.function.now n i
    → IsAvailable s.function.now (fact_of s) n
available_only s n (Judge test size line (Some k) a m) (is, has, size') h =
    let same : h.0 ≡ s.key.now = by (sym h.1 ∙ has) in
    subst (λ z. IsAvailable s.function.now (record { test = s.test; key = z; size = s.size }) n) same
    (subst (λ z. IsAvailable s.function.now (record { test = s.test; key = h.0; size = z }) n) size'
    (subst (λ z. IsAvailable s.function.now (record { test = z; key = h.0; size = size }) n) is h.2))
  where
    by : Some h.0 ≡ Some s.key.now → h.0 ≡ s.key.now
    by e = cc
available_only s n (Judge test size line None a m) h k = absurd h
available_only s n i h k = absurd h

pub closed_goes : (s : Sought) (function : CodeFunction) (n : ℕ) (j : Instruction) → s.function.now ≡ function
    → IsFactOf s j → slice_get function.code n ≡ Some j → (IsOpen s.function.now (fact_of s) n → ⊥)
    → (i : Instruction) → slice_get function.code n ≡ Some i → IsAvailableCheck function n i
closed_goes s function n j same fact here none i at =
    let one : j ≡ i = cc in
    subst (λ z. IsAvailableCheck z n i) same
    (available_of s n i (subst (IsFactOf s) one fact) (closed_is_available s.function.now (fact_of s) n none))

pub open_stays : (s : Sought) (function : CodeFunction) (n : ℕ) (j : Instruction) → s.function.now ≡ function
    → IsFactOf s j → slice_get function.code n ≡ Some j → IsOpen s.function.now (fact_of s) n
    → (i : Instruction) → slice_get function.code n ≡ Some i → IsAvailableCheck function n i → ⊥
open_stays s function n j same fact here o i at h =
    let one : j ≡ i = cc in
    open_is_not_available s.function.now (fact_of s) n o
    (available_only s n i (subst (IsFactOf s) one fact) (subst (λ z. IsAvailableCheck z n i) (sym same) h))

pub negated_true : (b : Bool) → not b ≡ true → b ≡ false
negated_true true e = cc
negated_true false e = refl

pub negated_false : (b : Bool) → not b ≡ false → b ≡ true
negated_false true e = refl
negated_false false e = cc

-- one node more

pub one_dropped : (Goes : Choice) (function : CodeFunction) (code code' : List Instruction) (n : ℕ) (j : Instruction)
    (gone : Bool) → length code ≡ n → code' ≡ code ++ left_of gone j ∷ [] → slice_get function.code n ≡ Some j
    → (gone ≡ true → Goes function n j) → (gone ≡ false → Goes function n j → ⊥)
    → ((k : ℕ) (i : Instruction) → k < n → slice_get function.code k ≡ Some i → DroppedAt Goes function code k i)
    → (k : ℕ) (i : Instruction) → k < n + 1 → slice_get function.code k ≡ Some i → DroppedAt Goes function code' k i
one_dropped Goes function code code' n j gone size more here goes stays old k i lt at =
    subst (λ is. DroppedAt Goes function is k i) (sym more)
    (⊎_elim (λ below. before (old k i below at)) (λ above. now (omega (arith, above, lt))) (cases_lt k n))
  where
    before : DroppedAt Goes function code k i → DroppedAt Goes function (code ++ left_of gone j ∷ []) k i
    before (inl h) = inl (h.0, at_front code (left_of gone j) k _ h.1)
    before (inr h) = inr (h.0, at_front code (left_of gone j) k _ h.1)

    last : k ≡ n → slice_get (code ++ left_of gone j ∷ []) k ≡ Some (left_of gone j)
    last e = ap (slice_get (code ++ left_of gone j ∷ [])) (e ∙ sym size) ∙ at_end code (left_of gone j)

    by : (b : Bool) → gone ≡ b → k ≡ n → j ≡ i → DroppedAt Goes function (code ++ left_of gone j ∷ []) k i
    by true g e one = inl (
      subst (λ z. Goes function z i) (sym e) (subst (λ z. Goes function n z) one (goes g)),
      last e ∙ ap (λ b. Some (left_of b j)) g ∙ ap (λ z. Some (skipped z)) one,
    )
    by false g e one = inr (
      λ h. stays g (subst (λ z. Goes function n z) (sym one) (subst (λ z. Goes function z i) e h)),
      last e ∙ ap (λ b. Some (left_of b j)) g ∙ ap Some one,
    )

    now : k ≡ n → DroppedAt Goes function (code ++ left_of gone j ∷ []) k i
    now e =
        let there : slice_get function.code n ≡ Some i = ap (slice_get function.code) (sym e) ∙ at in
        let one : j ≡ i = cc in
        by gone refl e one

-- what goes of a function whose nodes have numbers of 32 bits, and of a larger one

few_dropped : (function : CodeFunction) → length function.code < 2 ^ 32 → (code : List Instruction) (n : ℕ)
    (i : Instruction) → DroppedAt IsAvailableCheck function code n i → DroppedAt IsDroppable function code n i
few_dropped function few code n i (inl h) = inl ((few, h.0), h.1)
few_dropped function few code n i (inr h) = inr (λ goes. h.0 goes.1, h.1)

pub small_function : (function after : CodeFunction) → length function.code < 2 ^ 32
    → after ≡ record function { code = after.code } → CodeDropped IsAvailableCheck function after.code
    → FunctionDropped IsDroppable function after
small_function function after few rest h = record {
  rest = rest;
  code = record {
    size = h.size;
    nodes = λ n i e. few_dropped function few after.code n i (h.nodes n i e);
  };
}

pub large_function : (function : CodeFunction) → 2 ^ 32 ≤ length function.code
    → FunctionDropped IsDroppable function function
large_function function many = record {
  rest = refl;
  code = record {
    size = refl;
    nodes = λ n i e. inr (λ goes. (let few = goes.0 in absurd (omega (arith, few, many))), e);
  };
}

-- functions one after the other
pub one_function : (Goes : Choice) (all cs : List CodeFunction) (done done' : List CodeFunction) (c c' : CodeFunction)
    → FunctionDropped Goes c c' → done' ≡ done ++ c' ∷ []
    → ((ds : List CodeFunction) → AreDropped Goes (c ∷ cs) ds → AreDropped Goes all (done ++ ds))
    → (ds : List CodeFunction) → AreDropped Goes cs ds → AreDropped Goes all (done' ++ ds)
one_function Goes all cs done done' c c' h more old ds k =
    subst (λ xs. AreDropped Goes all (xs ++ ds)) (sym more)
    (subst (AreDropped Goes all) (sym (append_assoc done (c' ∷ []) ds)) (old (c' ∷ ds) (h, k)))

pub none_left : {A : Type 0} (xs : List A) → length xs ≡ 0 → xs ≡ []
none_left [] e = refl
none_left (x ∷ xs) e = cc

-- no more checks than there were

skip_counts : (i : Instruction) → is_check (skipped i) ≤ is_check i
skip_counts (Judge test size line key a m) = omega arith
skip_counts i = omega arith

fewer_in : (is js : List Instruction) → length js ≡ length is
    → ((n : ℕ) (i : Instruction) → slice_get is n ≡ Some i
    → (slice_get js n ≡ Some (skipped i)) ⊎ (slice_get js n ≡ Some i))
    → sum_over is_check js ≤ sum_over is_check is
fewer_in [] [] same h = omega arith
fewer_in [] (j ∷ js) same h = cc
fewer_in (i ∷ is) [] same h = cc
fewer_in (i ∷ is) (j ∷ js) same h =
    let rest = fewer_in is js (omega (arith, same)) (λ n x e. h (suc n) x e) in
    let first = by (h 0 i refl) in
    omega (arith, rest, first)
  where
    by : (Some j ≡ Some (skipped i)) ⊎ (Some j ≡ Some i) → is_check j ≤ is_check i
    by (inl e) = let one : j ≡ skipped i = cc in subst (λ z. is_check z ≤ is_check i) (sym one) (skip_counts i)
    by (inr e) = let one : j ≡ i = cc in subst (λ z. is_check z ≤ is_check i) (sym one) (omega arith)

pub fewer_of : (Goes : Choice) (cs cs' : List CodeFunction) → AreDropped Goes cs cs'
    → sum_of_functions is_check cs' ≤ sum_of_functions is_check cs
fewer_of Goes [] [] h = omega arith
fewer_of Goes [] (c' ∷ cs') h = absurd h
fewer_of Goes (c ∷ cs) [] h = absurd h
fewer_of Goes (c ∷ cs) (c' ∷ cs') h =
    let one = fewer_in c.code c'.code h.0.code.size (λ n i e. by (h.0.code.nodes n i e)) in
    let rest = fewer_of Goes cs cs' h.1 in
    omega (arith, one, rest)
  where
    by : {n : ℕ} {i : Instruction} → DroppedAt Goes c c'.code n i
        → (slice_get c'.code n ≡ Some (skipped i)) ⊎ (slice_get c'.code n ≡ Some i)
    by (inl q) = inl q.1
    by (inr q) = inr q.1

pub fewer_checks : (Goes : Choice) (t r : Tac) → Dropped Goes t r → checks r ≤ checks t
fewer_checks Goes t r h = fewer_of Goes t.functions r.functions h.functions
