-- How much work a run within a function does at most.
use Rattle.std.proofs.Common.{◌≡◌, ℕ, zero, suc, ◌+◌, ◌-◌, ◌*◌, ◌≤◌, List, Bool, true, false, Option, Some, None}
use Rattle.std.proofs.Common.{length, subst, sym, ap, ◌∙◌}
use Rattle.std.proofs.Common.{arith, refl, not, ◌&&◌, ◌||◌, if◌then◌else◌, [], ◌∷◌, ◌++◌}
use Rattle.std.specs.Prelude.{slice_get}
use Rattle.std.proofs.Math.Nat.{mul_comm, mul-add}
use Rattle.std.proofs.lemmas.Option.{same_Some, none-some}
use Rattle.sb_base.specs.Endings.{report_of}
use Rattle.behaviours.specs.Shown.{AccessKind, Read, Write}
use Rattle.rv_isa.specs.Results.{load_bytes, extended, store_bytes}
use Rattle.flat_code.specs.declared.instruction.FlatInstruction.{FlatInstruction}
use Rattle.flat_code.specs.declared.instruction.FlatInstruction.TheVariants.{Constant, Move, Operate, Operate32}
use Rattle.flat_code.specs.declared.instruction.FlatInstruction.TheVariants.{Load, Store, Branch, JumpForward}
use Rattle.flat_code.specs.declared.instruction.FlatInstruction.TheVariants.{JumpBack, Turn, Call, CallAddress}
use Rattle.flat_code.specs.declared.instruction.FlatInstruction.TheVariants.{Return, Get, Put, Exit, End, Charged}
use Rattle.flat_code.specs.Memory.{load, store}
use Rattle.flat_code.specs.Spaces.{is_of_objects, is_allowed}
use Rattle.flat_code.specs.State.{State}
use Rattle.flat_code.specs.Meaning.{Context, Local, Goes, Ends, Leaves, Fails, local, with_register, with_access}
use Rattle.flat_code.specs.Meaning.{address_in, received}
use Rattle.flat_code.specs.Routines.Local.{counted, act, local_step, local_run}
use Rattle.flat_code.specs.Routines.Routine.{Outcome, Continues, Halts, left_at, HasAt, Reaches, Does}
use Rattle.flat_code.proofs.Routines.Steps.{has_all, run_left, run_failed}
use Rattle.flat_code.specs.Routines.Laws.{work_of, report_length}
use Rattle.flat_code.specs.Routines.InputOutput.{does_input_output, has_input_output}

-- at most k and w for so many; where the run is over once more for each byte of the report
abbrev AtMost : (w k n : ℕ) → Local → Type 0
AtMost w k n (Goes pc s) = s.work ≤ k + w * n
AtMost w k n (Ends status report s) = s.work ≤ k + w * (n + length report)
AtMost w k n Leaves = Unit {0}
AtMost w k n Fails = Unit {0}

-- a step costs at most so many weights, of which an instruction that takes input or puts output is two
module _ (c : Context) (price : ℕ) (some : c.weight ≤ price * c.weight) (k n : ℕ) where
  abbrev IsPaid : FlatInstruction → Type 0
  IsPaid i = does_input_output i ≡ true → 2 * c.weight ≤ price * c.weight

  keeps : (s s' : State) → s.work ≤ k + c.weight * n → s'.work ≤ s.work + price * c.weight
      → s'.work ≤ k + c.weight * (n + price)
  keeps s s' h le = let e = mul-add c.weight n price in let f = mul_comm c.weight price in omega arith

  access_work : (a size : ℕ) (kind : AccessKind) (s : State) → (with_access c a size kind s).work ≡ s.work
  access_work a size kind s = by (not c.is_runtime && is_of_objects c.sizes a size)
    where
      by : (b : Bool)
          → (if b then record s { accesses = s.accesses ++ record { address = a; size = size; kind = kind } ∷ [] }
          else s).work ≡ s.work
      by true = refl
      by false = refl

  received_work : (x : ℕ) (o : Option ℕ) (s : State) → (received x o s).work ≡ s.work
  received_work x None s = refl
  received_work x (Some b) s = refl

  may : (b : Bool) (pc : ℕ) (s : State) → s.work ≤ k + c.weight * (n + price)
      → AtMost c.weight k (n + price) (if b then Goes pc s else Fails)
  may true pc s h = h
  may false pc s h = tt

  one : (i : FlatInstruction) (pc : ℕ) (s : State) → IsPaid i → s.work ≤ k + c.weight * n
      → AtMost c.weight k (n + price) (local c i pc (counted c i s))
  one (Constant x v) pc s paid h = keeps s (counted c (Constant x v) s) h (omega (arith, some))
  one (Move x y) pc s paid h = keeps s (counted c (Move x y) s) h (omega (arith, some))
  one (Operate op x y z) pc s paid h = keeps s (counted c (Operate op x y z) s) h (omega (arith, some))
  one (Operate32 op x y z) pc s paid h = keeps s (counted c (Operate32 op x y z) s) h (omega (arith, some))
  one (Load op x y offset) pc s paid h =
      let t = counted c (Load op x y offset) s in
      let a = address_in s y offset in
      let e = access_work a (load_bytes op) Read t in
      may (is_allowed c.sizes a (load_bytes op)) (pc + 1)
      (with_register x (extended op (load (load_bytes op) s.memory a)) (with_access c a (load_bytes op) Read t))
      (keeps s (with_access c a (load_bytes op) Read t) h (omega (arith, some)))
  one (Store op y offset x) pc s paid h =
      let a = address_in s y offset in
      let t : State = record (counted c (Store op y offset x) s)
      { memory = store (store_bytes op) s.memory a (s.values x) } in
      let e = access_work a (store_bytes op) Write t in
      may (is_allowed c.sizes a (store_bytes op)) (pc + 1) (with_access c a (store_bytes op) Write t)
      (keeps s (with_access c a (store_bytes op) Write t) h (omega (arith, some)))
  one (Branch op y z past) pc s paid h = keeps s (counted c (Branch op y z past) s) h (omega (arith, some))
  one (JumpForward past) pc s paid h = keeps s (counted c (JumpForward past) s) h (omega (arith, some))
  one (JumpBack back) pc s paid h = keeps s (counted c (JumpBack back) s) h (omega (arith, some))
  one Turn pc s paid h = keeps s (counted c Turn s) h (omega (arith, some))
  one (Call g first x) pc s paid h = tt
  one (CallAddress y first m x r) pc s paid h = tt
  one (Return y) pc s paid h = tt
  one (Get x) pc s paid h =
      let e = received_work x (slice_get s.input 0) (counted c (Get x) s) in
      let two = paid refl in
      keeps s (received x (slice_get s.input 0) (counted c (Get x) s)) h (omega (arith, two))
  one (Put x) pc s paid h =
      let two = paid refl in keeps s (counted c (Put x) s) h (omega (arith, two))
  one (Exit x) pc s paid h =
      let e : n + price ≡ n + price + 0 = omega arith in
      subst (λ q. s.work + c.weight ≤ k + c.weight * q) e (keeps s (counted c (Exit x) s) h (omega (arith, some)))
  one (End e) pc s paid h =
      let b = length (report_of e) in
      let d = mul-add c.weight n (price + b) in
      let f = mul-add c.weight price b in
      let g = mul-add c.weight 1 b in
      let i = mul_comm c.weight price in
      let j : n + (price + b) ≡ n + price + b = omega arith in
      subst (λ q. s.work + c.weight * (1 + b) ≤ k + c.weight * q) j (omega (arith, mul_comm c.weight 1, some))
  one (Charged x) pc s paid h = keeps s (counted c (Charged x) s) h (omega (arith, some))

  step_most : (code : List FlatInstruction) → ((q : ℕ) (i : FlatInstruction) → slice_get code q ≡ Some i → IsPaid i)
      → (l : Local) → AtMost c.weight k n l → AtMost c.weight k (n + price) (local_step c code l)
  step_most code paid (Goes pc s) h = by (slice_get code pc) refl
    where
      by : (o : Option FlatInstruction) → slice_get code pc ≡ o → AtMost c.weight k (n + price) (act c o pc s)
      by None e = tt
      by (Some i) e = one i pc s (paid pc i e) h
  step_most code paid (Ends status report s) h =
      let e = mul-add c.weight (n + length report) price in
      let f : n + length report + price ≡ n + price + length report = omega arith in
      subst (λ q. s.work ≤ k + c.weight * q) f (omega arith)
  step_most code paid Leaves h = tt
  step_most code paid Fails h = tt

module _ (c : Context) (price : ℕ) (some : c.weight ≤ price * c.weight) (code : List FlatInstruction)
    (paid : (q : ℕ) (i : FlatInstruction) → slice_get code q ≡ Some i → does_input_output i ≡ true
    → 2 * c.weight ≤ price * c.weight) (k : ℕ) where
  run_most : (n steps : ℕ) (l : Local) → AtMost c.weight k n l
      → AtMost c.weight k (n + price * steps) (local_run c code steps l)
  unfolding local_run
  run_most n zero l h =
      let z = mul_comm price 0 in
      let e : n ≡ n + price * 0 = omega arith in subst (λ q. AtMost c.weight k q l) e h
  run_most n (suc j) l h =
      let z = mul-add price 1 j in
      let o = mul_comm price 1 in
      let e : n + price + price * j ≡ n + price * suc j = omega arith in
      subst (λ q. AtMost c.weight k q (local_run c code j (local_step c code l))) e
      (run_most (n + price) j (local_step c code l) (step_most c price some k n code paid l h))

-- so many steps do at most their price, and once more for each byte of a report
priced_within : (c : Context) (price : ℕ) → c.weight ≤ price * c.weight → (code : List FlatInstruction)
    → ((q : ℕ) (i : FlatInstruction) → slice_get code q ≡ Some i → does_input_output i ≡ true
    → 2 * c.weight ≤ price * c.weight)
    → (steps pc : ℕ) (s : State) (place : ℕ) (x : Outcome) → local_run c code steps (Goes pc s) ≡ left_at place x
    → work_of x ≤ s.work + c.weight * (price * steps + report_length x)
priced_within c price some code paid steps pc s place x comes =
    by x (subst (AtMost c.weight s.work (0 + price * steps)) comes
    (run_most c price some code paid s.work 0 steps (Goes pc s) (let e = mul_comm c.weight 0 in omega arith)))
  where
    by : (x : Outcome) → AtMost c.weight s.work (0 + price * steps) (left_at place x)
        → work_of x ≤ s.work + c.weight * (price * steps + report_length x)
    by (Continues v) h =
        let e : 0 + price * steps ≡ price * steps + 0 = omega arith in
        subst (λ q. v.work ≤ s.work + c.weight * q) e h
    by (Halts status report v) h =
        let e : 0 + price * steps + length report ≡ price * steps + length report = omega arith in
        subst (λ q. v.work ≤ s.work + c.weight * q) e h

-- at most twice their weight
pub work_within : (c : Context) (code : List FlatInstruction) (steps pc : ℕ) (s : State) (place : ℕ) (x : Outcome)
    → local_run c code steps (Goes pc s) ≡ left_at place x
    → work_of x ≤ s.work + c.weight * (2 * steps + report_length x)
work_within c code = priced_within c 2 (omega arith) code (λ q i e t. omega arith)

left_false : (a b : Bool) → (a || b) ≡ false → a ≡ false
left_false true b e = e
left_false false b e = refl

right_false : (a b : Bool) → (a || b) ≡ false → b ≡ false
right_false true b e = absurd cc
right_false false b e = e

no_input_output : (code : List FlatInstruction) (q : ℕ) (i : FlatInstruction) → has_input_output code ≡ false
    → slice_get code q ≡ Some i → does_input_output i ≡ false
no_input_output [] q i none e = absurd (none-some i e)
no_input_output (j ∷ code) zero i none e = left_false (does_input_output i) (has_input_output code)
    (ap (λ j. does_input_output j || has_input_output code) (sym (same_Some _ _ e)) ∙ none)
no_input_output (j ∷ code) (suc q) i none e = no_input_output code q i
    (right_false (does_input_output j) (has_input_output code) none) e

none-true : false ≡ true → ⊥
none-true e = cc

-- at most their weight where there is no input and no output
pub work_of_weight : (c : Context) (code : List FlatInstruction) → has_input_output code ≡ false
    → (steps pc : ℕ) (s : State) (place : ℕ) (x : Outcome) → local_run c code steps (Goes pc s) ≡ left_at place x
    → work_of x ≤ s.work + c.weight * (steps + report_length x)
work_of_weight c code none steps pc s place x comes =
    let e : 1 * steps + report_length x ≡ steps + report_length x = omega arith in
    subst (λ n. work_of x ≤ s.work + c.weight * n) e
    (priced_within c 1 (omega arith) code
    (λ q i e t. absurd (none-true (sym (no_input_output code q i none e) ∙ t))) steps pc s place x comes)

-- the same of what comes to a place within so many steps
pub reaches_within : (c : Context) (code : List FlatInstruction) (b pc : ℕ) (s : State) (place : ℕ)
    (Q : Outcome → Type 0) (t : Reaches c code b (Goes pc s) place Q)
    → work_of t.outcome ≤ s.work + c.weight * (2 * b + report_length t.outcome)
reaches_within c code b pc s place Q t =
    let n = 2 * t.steps + report_length t.outcome in
    let more = 2 * (b - t.steps) in
    let within = t.within in
    let whole : n + more ≡ 2 * b + report_length t.outcome = omega arith in
    let w = work_within c code t.steps pc s place t.outcome t.comes in
    let e = mul-add c.weight n more in
    subst (λ q. work_of t.outcome ≤ s.work + c.weight * q) whole (omega arith)

-- ---- routines

-- so many places that leave the function
abbrev filler : ℕ → List FlatInstruction
filler zero = []
filler (suc n) = Return 0 ∷ filler n

module _ (r : List FlatInstruction) where
  -- the routine at a place of code that has nothing else
  abbrev alone_at : ℕ → List FlatInstruction
  alone_at pc = filler pc ++ r

  filled : (pc : ℕ) → length (filler pc) ≡ pc
  filled zero = refl
  filled (suc n) = ap suc (filled n)

  at_place : (pc : ℕ) → HasAt (alone_at pc) pc r
  at_place pc = subst (λ n. HasAt (alone_at pc) n r) (filled pc) (has_all r (filler pc))

  quiet_at : (pc : ℕ) → has_input_output r ≡ false → has_input_output (alone_at pc) ≡ false
  quiet_at zero e = e
  quiet_at (suc n) e = quiet_at n e

  -- an instruction of it is one of any code that has the routine there
  data IsWithin (code : List FlatInstruction) (q : ℕ) : Option FlatInstruction → Type 0 where
    Nothing : IsWithin code q None
    Filler : IsWithin code q (Some (Return 0))
    There : (i : FlatInstruction) → slice_get code q ≡ Some i → IsWithin code q (Some i)

  found : (code is : List FlatInstruction) (pc q : ℕ) → HasAt code pc is → IsWithin code (pc + q) (slice_get is q)
  found code [] pc q h = Nothing
  found code (i ∷ is) pc zero h =
      let e : pc ≡ pc + 0 = omega arith in There i (subst (λ n. slice_get code n ≡ Some i) e h.0)
  found code (i ∷ is) pc (suc q) h =
      let e : pc + 1 + q ≡ pc + suc q = omega arith in
      subst (λ n. IsWithin code n (slice_get is q)) e (found code is (pc + 1) q h.1)

  within : (code : List FlatInstruction) (at pc q : ℕ) → HasAt code (at + pc) r
      → IsWithin code (at + q) (slice_get (alone_at pc) q)
  within code at zero q h =
      let e : at + 0 + q ≡ at + q = omega arith in
      subst (λ n. IsWithin code n (slice_get r q)) e (found code r (at + 0) q h)
  within code at (suc pc) zero h = Filler
  within code at (suc pc) (suc q) h =
      let e : at + 1 + q ≡ at + suc q = omega arith in
      let e' : at + suc pc ≡ at + 1 + pc = omega arith in
      subst (λ n. IsWithin code n (slice_get (alone_at pc) q)) e
      (within code (at + 1) pc q (subst (λ n. HasAt code n r) e' h))

  module _ (c : Context) (code : List FlatInstruction) (pc : ℕ) (h : HasAt code pc r) where
    never_left : (n place : ℕ) (x : Outcome) → local_run c (alone_at pc) n Leaves ≡ left_at place x → ⊥
    never_left n place (Continues s) e = let z = run_left c (alone_at pc) n in absurd cc
    never_left n place (Halts status report s) e = let z = run_left c (alone_at pc) n in absurd cc

    never_failed : (n place : ℕ) (x : Outcome) → local_run c (alone_at pc) n Fails ≡ left_at place x → ⊥
    never_failed n place (Continues s) e = let z = run_failed c (alone_at pc) n in absurd cc
    never_failed n place (Halts status report s) e = let z = run_failed c (alone_at pc) n in absurd cc

    same : (n q : ℕ) (s : State) (place : ℕ) (x : Outcome) (o : Option FlatInstruction)
        → slice_get (alone_at pc) q ≡ o → IsWithin code q o
        → local_run c (alone_at pc) n (local_step c (alone_at pc) (Goes q s)) ≡ left_at place x
        → ((l : Local) → local_run c (alone_at pc) n l ≡ left_at place x → local_run c code n l ≡ left_at place x)
        → local_run c code n (local_step c code (Goes q s)) ≡ left_at place x
    same n q s place x _ is Nothing e on =
        absurd (never_failed n place x (ap (λ o. local_run c (alone_at pc) n (act c o q s)) (sym is) ∙ e))
    same n q s place x _ is Filler e on =
        absurd (never_left n place x (ap (λ o. local_run c (alone_at pc) n (act c o q s)) (sym is) ∙ e))
    same n q s place x _ is (There i has) e on =
        on (local_step c code (Goes q s)) (ap (λ o. local_run c (alone_at pc) n (act c o q s)) (has ∙ sym is) ∙ e)

    -- what it comes to there, the code comes to
    also : (n : ℕ) (l : Local) (place : ℕ) (x : Outcome) → local_run c (alone_at pc) n l ≡ left_at place x
        → local_run c code n l ≡ left_at place x
    unfolding local_run
    also zero l place x e = e
    also (suc n) (Ends status report s) place x e = also n (Ends status report s) place x e
    also (suc n) Leaves place x e = also n Leaves place x e
    also (suc n) Fails place x e = also n Fails place x e
    also (suc n) (Goes q s) place x e =
        let from : pc ≡ 0 + pc = omega arith in
        let there : 0 + q ≡ q = omega arith in
        let is = within code 0 pc q (subst (λ m. HasAt code m r) from h) in
        same n q s place x (slice_get (alone_at pc) q) refl
        (subst (λ m. IsWithin code m (slice_get (alone_at pc) q)) there is) e (λ l e. also n l place x e)

-- a routine that takes no input and puts no output does at most its weight for each step
pub does_its_weight : (c : Context) (r : List FlatInstruction) (P : State → Type 0) (B : State → ℕ)
    (Q : State → Outcome → Type 0) → has_input_output r ≡ false → Does c r P B Q
    → Does c r P B (λ s x. Q s x × (work_of x ≤ s.work + c.weight * (B s + report_length x)))
does_its_weight c r P B Q none d = record {
  from = λ code pc s has w p.
      let t = d.from (alone_at r pc) pc s (at_place r pc) w p in
      let le = work_of_weight c (alone_at r pc) (quiet_at r pc none) t.steps pc s (pc + length r) t.outcome t.comes in
      let a = report_length t.outcome in
      let more = B s - t.steps in
      let within = t.within in
      let sum = mul-add c.weight (t.steps + a) more in
      let whole : t.steps + a + more ≡ B s + a = omega arith in
      record {
        steps = t.steps;
        within = t.within;
        outcome = t.outcome;
        comes = also r c code pc has t.steps (Goes pc s) (pc + length r) t.outcome t.comes;
        holds = (t.holds, subst (λ n. work_of t.outcome ≤ s.work + c.weight * n) whole (omega arith));
      };
}
