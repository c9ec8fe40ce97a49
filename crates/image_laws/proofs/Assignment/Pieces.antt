-- What code is put together of: registers one behind the other, calls of functions, and what code makes last.
use Rattle.std.proofs.Common.{◌≡◌, ◌⊎◌, inl, inr, ℕ, zero, suc, ◌+◌, ◌<◌, refl, sym, subst, arith}
use Rattle.std.proofs.Common.{Bool, true, false, List, [], ◌∷◌, ◌++◌, length, length-append, Some, None}
use Rattle.std.specs.Prelude.{slice_get}
use Rattle.std.proofs.lemmas.Bool.{false≢true}
use Rattle.flat_code.specs.declared.instruction.FlatInstruction.{FlatInstruction}
use Rattle.flat_code.specs.declared.instruction.FlatInstruction.TheVariants.{Load, Call, CallAddress, Get}
use Rattle.flat_code.specs.declared.function.FlatProgram.{FlatProgram}
use Rattle.flat_code.specs.Calls.{function_in}
use Rattle.flat_code.specs.Meaning.{parameters_of, results_of}
use Rattle.reg_plan.specs.Effects.{made_by, makes_only, is_among, Leads}
use Rattle.image_laws.specs.Plans.Assignment.{Registers, IsOneOf, Names}
use Rattle.image_laws.specs.Plans.EntryLists.{MakesLast}
use Rattle.image_laws.specs.Plans.Instructions.{value_of, numbers_from}
use Rattle.image_laws.proofs.Plans.Flow.{many_is}
use Rattle.image_laws.proofs.Assignment.Flows.{Flows, wider, followed, EndsWith, LastIn, is_quiet}
use Rattle.image_laws.proofs.Assignment.Straight.{AllFrom, WithAll, AreIn, straight}

-- ---- registers one behind the other

pub from_behind : (R : Registers) (x n : ℕ) → AllFrom R x (suc n) → AllFrom R (x + 1) n
from_behind R x n h j lt =
    let same : x + suc j ≡ x + 1 + j = omega arith in
    subst R same (h (suc j) (omega (arith, lt)))

pub from_first : (R : Registers) (x n : ℕ) → AllFrom R x (suc n) → R x
from_first R x n h =
    let same : x + 0 ≡ x = omega arith in
    subst R same (h 0 (omega arith))

pub numbers_in : (R : Registers) (x n : ℕ) → AllFrom R x n → AreIn (numbers_from x n) R
numbers_in R x zero h = tt
numbers_in R x (suc n) h = (from_first R x n h, numbers_in R (x + 1) n (from_behind R x n h))

pub numbers_have : (x n j : ℕ) → j < n → IsOneOf (numbers_from x n) (x + j)
numbers_have x zero j lt = absurd (omega (arith, lt))
numbers_have x (suc n) zero lt = inl (omega arith)
numbers_have x (suc n) (suc j) lt =
    let same : x + 1 + j ≡ x + suc j = omega arith in
    inr (subst (IsOneOf (numbers_from (x + 1) n)) same (numbers_have (x + 1) n j (omega (arith, lt))))

-- some of them
pub all_from : (R : Registers) (x n : ℕ) → ((y : ℕ) → IsOneOf (numbers_from x n) y → R y) → AllFrom R x n
all_from R x n h j lt = h (x + j) (numbers_have x n j lt)

pub later_from : (R : Registers) (x k n : ℕ) → AllFrom R x (k + n) → AllFrom R (x + k) n
later_from R x k n h j lt =
    let same : x + (k + j) ≡ x + k + j = omega arith in
    subst R same (h (k + j) (omega (arith, lt)))

pub two_from : (R : Registers) (x : ℕ) → R x → R (x + 1) → AllFrom R x 2
two_from R x a b zero lt = let same : x ≡ x + 0 = omega arith in subst R same a
two_from R x a b (suc zero) lt = let same : x + 1 ≡ x + suc zero = omega arith in subst R same b
two_from R x a b (suc (suc j)) lt = absurd (omega (arith, lt))

pub one_from : (R : Registers) (x : ℕ) → R x → AllFrom R x 1
one_from R x a zero lt = let same : x ≡ x + 0 = omega arith in subst R same a
one_from R x a (suc j) lt = absurd (omega (arith, lt))

-- a value stands in the first of five, with its entry behind it
pub value_in : (R : Registers) (b : Bool) (x : ℕ) → AllFrom R x 5 → AreIn (value_of b x) R
value_in R false x h = (from_first R x 4 h, tt)
value_in R true x h =
    (from_first R x 4 h, (h 1 (omega arith), (h 2 (omega arith), (h 3 (omega arith), (h 4 (omega arith), tt)))))

pub less_value : (R : Registers) (b : Bool) (x : ℕ) → AreIn (value_of true x) R → AreIn (value_of b x) R
less_value R false x (v, _) = (v, tt)
less_value R true x h = h

pub value_from : (R : Registers) (x : ℕ) → AreIn (value_of true x) R → AllFrom R x 5
value_from R x (v, (a, (b, (k, (l, _))))) zero lt = let same : x ≡ x + 0 = omega arith in subst R same v
value_from R x (v, (a, (b, (k, (l, _))))) (suc zero) lt = let same : x + 1 ≡ x + suc zero = omega arith in subst R same a
value_from R x (v, (a, (b, (k, (l, _))))) (suc (suc zero)) lt =
    let same : x + 2 ≡ x + suc (suc zero) = omega arith in subst R same b
value_from R x (v, (a, (b, (k, (l, _))))) (suc (suc (suc zero))) lt =
    let same : x + 3 ≡ x + suc (suc (suc zero)) = omega arith in subst R same k
value_from R x (v, (a, (b, (k, (l, _))))) (suc (suc (suc (suc zero)))) lt =
    let same : x + 4 ≡ x + suc (suc (suc (suc zero))) = omega arith in subst R same l
value_from R x h (suc (suc (suc (suc (suc j))))) lt = absurd (omega (arith, lt))

-- code that stands behind other code
pub some_behind : {A : Type 0} (xs ys : List A) → 0 < length ys → 0 < length (xs ++ ys)
some_behind xs ys some = let whole = length-append xs ys in omega (arith, whole, some)

-- ---- what is made last

loud : (i : FlatInstruction) (pc : ℕ) → is_quiet i ≡ false → Leads i pc (pc + 1) × (makes_only i ≡ None)
loud (Load op x y offset) pc e = (inl refl, refl)
loud (Call g first x) pc e = (inl refl, refl)
loud (CallAddress y first n x r) pc e = (inl refl, refl)
loud (Get x) pc e = (inl refl, refl)
loud _ pc e = absurd (false≢true (sym e))

module _ (p : FlatProgram) (E : Registers) where
  last_from : (is : List FlatInstruction)
      → ((k y : ℕ) (i : FlatInstruction) → slice_get is k ≡ Some i → suc k ≡ length is → is_quiet i ≡ false
      → is_among (made_by p i) y ≡ true → E y)
      → LastIn p E is
  last_from [] h = tt
  last_from (i ∷ []) h = by (is_quiet i) refl
    where
      by : (b : Bool) → is_quiet i ≡ b → (is_quiet i ≡ true) ⊎ ((y : ℕ) → is_among (made_by p i) y ≡ true → E y)
      by true e = inl e
      by false e = inr (λ y m. h 0 y i refl (omega arith) e m)
  last_from (i ∷ j ∷ is) h =
      last_from (j ∷ is) (λ k y x at last e m. h (suc k) y x at (omega (arith, last)) e m)

  pub made_last : (is : List FlatInstruction) (M : List ℕ) → MakesLast p is M → ((y : ℕ) → IsOneOf M y → E y)
      → LastIn p E is
  made_last is M h more =
      last_from is (λ k y i at last e m.
      let l = loud i k e in more y (h k (k + 1) y i at l.0 (i, at, m, l.1) (omega (arith, last))))

  -- a call that is the last instruction
  pub call_last : (g first x n : ℕ) → results_of (function_in p g) ≡ n → AllFrom E x n
      → LastIn p E (Call g first x ∷ [])
  call_last g first x n gives has =
      inr (λ y m.
      let k = many_is x (results_of (function_in p g)) y m in
      subst E (sym k.2) (has k.0 (subst (λ z. k.0 < z) gives k.1)))

  pub call_address_last : (a first k x n : ℕ) → AllFrom E x n → LastIn p E (CallAddress a first k x n ∷ [])
  call_address_last a first k x n has =
      inr (λ y m. let k = many_is x n y m in subst E (sym k.2) (has k.0 k.1))

pub ends_in : (p : FlatProgram) (E : Registers) (is : List FlatInstruction) (M : List ℕ) → MakesLast p is M
    → ((y : ℕ) → IsOneOf M y → E y) → EndsWith p is E
ends_in p E is M h more = record { ends = λ pc q y i at to always le. more y (h pc q y i at to always le) }

pub names_more : (p : FlatProgram) (u : ℕ) (is : List FlatInstruction) (Q R : Registers) → ((y : ℕ) → Q y → R y)
    → Names p u is Q → Names p u is R
names_more p u is Q R more n = record {
  read = λ pc y r. more y (n.read pc y r);
  made = λ pc y r. more y (n.made pc y r);
}

module _ (p : FlatProgram) (u : ℕ) (P : Registers) where
  -- what is made is forgotten, or was made before
  pub forgotten : (G : Registers) (is : List FlatInstruction) (b : ℕ) (M : List ℕ) → Flows p u P G is b M
      → Flows p u P G is b []
  forgotten G is b M f = wider p u P G is b M [] f (λ y m. absurd m)

  -- code that makes nothing that matters stands behind code that does
  pub then_more : (G : Registers) (is js : List FlatInstruction) (M : List ℕ) → Flows p u P G is 0 M
      → ((S : Registers) → ((y : ℕ) → G y → S y) → ((y : ℕ) → IsOneOf M y → S y) → ((y : ℕ) → S y → P y)
      → Flows p u P S js 0 [])
      → Flows p u P G (is ++ js) 0 M
  then_more G is js M f k =
      followed p u P G is js 0 M M f
      (λ S keeps made low. wider p u P S js 0 [] M (k S keeps made low) (λ y m. inl (made y m)))

  -- ---- calls

  pub call_flows : (G : Registers) → ((y : ℕ) → G y → P y) → (g first x k n : ℕ)
      → parameters_of (function_in p g) ≡ k → results_of (function_in p g) ≡ n → AllFrom G first k → AllFrom P x n
      → Flows p u P G (Call g first x ∷ []) 0 (numbers_from x n)
  call_flows G low g first x k n takes gives given named =
      straight p u P 0 G (Call g first x ∷ [])
      (subst (AllFrom G first) (sym takes) given, subst (AllFrom P x) (sym gives) named, tt, tt) low (numbers_from x n)
      (numbers_in (WithAll G x (results_of (function_in p g))) x n
      (λ j lt. inr (record {
        number = j;
        low = subst (λ z. j < z) (sym gives) lt;
        is = refl;
      })))

  pub call_address_flows : (G : Registers) → ((y : ℕ) → G y → P y) → (a first k x n : ℕ) → G a → AllFrom G first k
      → AllFrom P x n → Flows p u P G (CallAddress a first k x n ∷ []) 0 (numbers_from x n)
  call_address_flows G low a first k x n ga given named =
      straight p u P 0 G (CallAddress a first k x n ∷ []) ((ga, given), named, tt, tt) low (numbers_from x n)
      (numbers_in (WithAll G x n) x n (λ j lt. inr (record { number = j; low = lt; is = refl })))
