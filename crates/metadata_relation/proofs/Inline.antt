-- A list that leaves a value in a register and nothing else: where it stands inline in a function of the program, the
-- program's run computes the value.
use Rattle.std.proofs.Common.{◌≡◌, ℕ, zero, suc, ◌+◌, ◌-◌, ◌*◌, ◌≤◌, Bool, true, false, not, ◌&&◌, if◌then◌else◌, List}
use Rattle.std.proofs.Common.{[]}
use Rattle.std.proofs.Common.{◌∷◌, ◌++◌, length, Option, Some, None, ap, ◌∙◌, subst, refl, arith}
use Rattle.std.specs.Prelude.{slice_get}
use Rattle.std.proofs.Math.Nat.{mul_comm}
use Rattle.behaviours.specs.Shown.{AccessKind, Read, Write}
use Rattle.addr_map.specs.Places.{MapSizes}
use Rattle.rv_isa.specs.Results.{load_bytes, extended, store_bytes}
use Rattle.flat_code.specs.declared.instruction.FlatInstruction.{FlatInstruction}
use Rattle.flat_code.specs.declared.instruction.FlatInstruction.TheVariants.{Constant, Move, Operate, Operate32}
use Rattle.flat_code.specs.declared.instruction.FlatInstruction.TheVariants.{Load, Store, Branch, JumpForward}
use Rattle.flat_code.specs.declared.instruction.FlatInstruction.TheVariants.{JumpBack, Turn, Call, CallAddress}
use Rattle.flat_code.specs.declared.instruction.FlatInstruction.TheVariants.{Return, Get, Put, Exit, End, Charged}
use Rattle.flat_code.specs.declared.function.FlatProgram.{FlatProgram}
use Rattle.flat_code.specs.Calls.{function_in}
use Rattle.flat_code.specs.Memory.{load, store}
use Rattle.flat_code.specs.Spaces.{is_of_objects, is_allowed}
use Rattle.flat_code.specs.State.{State, Stands}
use Rattle.flat_code.specs.Meaning.{Context, Local, Goes, Ends, Leaves, Fails, local, with_register, with_access}
use Rattle.flat_code.specs.Meaning.{address_in, received, body_of, context, weight_of}
use Rattle.flat_code.specs.Routines.Metadata.{ShowsNothing}
use Rattle.flat_code.specs.Routines.Local.{counted, act, local_step, local_run}
use Rattle.flat_code.specs.Routines.Routine.{Outcome, Continues, Halts, left_at, Does}
use Rattle.flat_code.specs.Routines.InputOutput.{IsWithoutInputOutput}
use Rattle.flat_code.specs.Routines.Laws.{work_of, report_length}
use Rattle.flat_code.proofs.Routines.Lifted.{lifted}
use Rattle.flat_code.proofs.Routines.Work.{does_its_weight}
use Rattle.flat_operators.specs.Results.{Anywhere, IsResult}
use Rattle.metadata_plan.specs.Operators.{Position, Computes, IsHere}

-- ---- the work of a run within a function does not get less

abbrev pub AtLeast : (least : ℕ) → Local → Type 0
AtLeast k (Goes pc s) = k ≤ s.work
AtLeast k (Ends status report s) = k ≤ s.work
AtLeast k Leaves = Unit {0}
AtLeast k Fails = Unit {0}

module _ (c : Context) (k : ℕ) where
  access_work : (a size : ℕ) (kind : AccessKind) (s : State) → (with_access c a size kind s).work ≡ s.work
  access_work a size kind s = by (not c.is_runtime && is_of_objects c.sizes a size)
    where
      by : (b : Bool)
          → (if b then record s { accesses = s.accesses ++ record { address = a; size = size; kind = kind } ∷ [] }
          else s).work ≡ s.work
      by true = refl
      by false = refl

  received_work : (x : ℕ) (o : Option ℕ) (s : State) → (received x o s).work ≡ s.work
  received_work x None s = refl
  received_work x (Some b) s = refl

  may : (b : Bool) (pc : ℕ) (s : State) → k ≤ s.work → AtLeast k (if b then Goes pc s else Fails)
  may true pc s h = h
  may false pc s h = tt

  one : (i : FlatInstruction) (pc : ℕ) (s : State) → k ≤ s.work → AtLeast k (local c i pc (counted c i s))
  one (Constant x v) pc s h = omega arith
  one (Move x y) pc s h = omega arith
  one (Operate op x y z) pc s h = omega arith
  one (Operate32 op x y z) pc s h = omega arith
  one (Load op x y offset) pc s h =
      let t = counted c (Load op x y offset) s in
      let a = address_in s y offset in
      let e = access_work a (load_bytes op) Read t in
      may (is_allowed c.sizes a (load_bytes op)) (pc + 1)
      (with_register x (extended op (load (load_bytes op) s.memory a)) (with_access c a (load_bytes op) Read t))
      (omega arith)
  one (Store op y offset x) pc s h =
      let a = address_in s y offset in
      let t : State = record (counted c (Store op y offset x) s)
      { memory = store (store_bytes op) s.memory a (s.values x) } in
      let e = access_work a (store_bytes op) Write t in
      may (is_allowed c.sizes a (store_bytes op)) (pc + 1) (with_access c a (store_bytes op) Write t) (omega arith)
  one (Branch op y z past) pc s h = omega arith
  one (JumpForward past) pc s h = omega arith
  one (JumpBack back) pc s h = omega arith
  one Turn pc s h = omega arith
  one (Call g first x) pc s h = tt
  one (CallAddress y first m x r) pc s h = tt
  one (Return y) pc s h = tt
  one (Get x) pc s h = let e = received_work x (slice_get s.input 0) (counted c (Get x) s) in omega arith
  one (Put x) pc s h = omega arith
  one (Exit x) pc s h = omega arith
  one (End e) pc s h = omega arith
  one (Charged x) pc s h = omega arith

  step_least : (code : List FlatInstruction) (l : Local) → AtLeast k l → AtLeast k (local_step c code l)
  step_least code (Goes pc s) h = by (slice_get code pc)
    where
      by : (o : Option FlatInstruction) → AtLeast k (act c o pc s)
      by None = tt
      by (Some i) = one i pc s h
  step_least code (Ends status report s) h = h
  step_least code Leaves h = tt
  step_least code Fails h = tt

  pub run_least : (code : List FlatInstruction) (n : ℕ) (l : Local) → AtLeast k l → AtLeast k (local_run c code n l)
  unfolding local_run
  run_least code zero l h = h
  run_least code (suc n) l h = run_least code n (local_step c code l) (step_least code l h)

-- ---- inline

-- where memory and what is shown stay, registers and work alone differ
pub same_but : (s s' : State) → s'.memory ≡ s.memory → ShowsNothing s s' → s.work ≤ s'.work
    → s' ≡ record s { values = s'.values; work = s.work + (s'.work - s.work) }
same_but s s' memory shows le =
    let e : s'.work ≡ s.work + (s'.work - s.work) = omega arith in
    ap (λ z. record s' { memory = z }) memory
    ∙ ap (λ z. record s' { memory = s.memory; input = z }) shows.input
    ∙ ap (λ z. record s' { memory = s.memory; input = s.input; output = z }) shows.output
    ∙ ap (λ z. record s' { memory = s.memory; input = s.input; output = s.output; taken = z }) shows.taken
    ∙ ap (λ z. record s' { memory = s.memory; input = s.input; output = s.output; taken = s.taken; accesses = z })
    shows.accesses
    ∙ ap (λ z. record s'
    { memory = s.memory; input = s.input; output = s.output; taken = s.taken; accesses = s.accesses; turns = z })
    shows.turns
    ∙ ap (λ z. record s { values = s'.values; work = z }) e

module _ (map : MapSizes) (p : FlatProgram) (x : Position) where
  pub inline_computes : (is : List FlatInstruction) (line d n most : ℕ) (value : State → ℕ) → IsWithoutInputOutput is
      → Does (context map p x.function x.frames) is Anywhere (λ s. most)
      (λ s. IsResult (Some (value s)) line d n s)
      → IsHere p x is → Computes map p x (x.place + length is) d (value x.state) n most
  inline_computes is line d n most value none does here =
      let c = context map p x.function x.frames in
      let body = body_of (function_in p x.function) in
      let t = (does_its_weight c is Anywhere (λ s. most) (λ s. IsResult (Some (value s)) line d n s) none.none does).from
      body x.place x.state here.has here.words tt in
      by t.steps t.outcome t.comes t.holds.0 t.holds.1
    where
      by : (steps : ℕ) (o : Outcome)
          → local_run (context map p x.function x.frames) (body_of (function_in p x.function)) steps
          (Goes x.place x.state)
          ≡ left_at (x.place + length is) o
          → IsResult (Some (value x.state)) line d n x.state o
          → work_of o ≤ x.state.work + (context map p x.function x.frames).weight * (most + report_length o)
          → Computes map p x (x.place + length is) d (value x.state) n most
      by steps (Halts status report s') comes h le = absurd h.by
      by steps (Continues s') comes h le =
          let c = context map p x.function x.frames in
          let w = weight_of (function_in p x.function) in
          let least : x.state.work ≤ s'.work =
          subst (AtLeast x.state.work) comes
          (run_least c x.state.work (body_of (function_in p x.function)) steps (Goes x.place x.state) (omega arith)) in
          let sum : w * (most + 0) ≡ most * w =
          (let e : most + 0 ≡ most = omega arith in ap (λ z. w * z) e ∙ mul_comm w most) in
          record {
            steps = steps;
            after = s'.values;
            work = s'.work - x.state.work;
            few = omega (arith, sum, le);
            comes = lifted map p x.function x.frames steps x.place x.state (x.place + length is) (Continues s') comes
                ∙ ap (λ z. Stands x.function (x.place + length is) z x.frames)
                (same_but x.state s' h.by.memory h.by.shows least);
            gives = h.by.result;
            others = λ y lt ne. h.by.others y lt ne;
          }
