-- The call of a function of the runtime, step by step.
use Rattle.std.proofs.Common.{◌≡◌, ℕ, zero, suc, ◌+◌, ◌-◌, ◌*◌, ◌%◌, ◌^◌, ◌<◌, ◌≤◌, ◌⊎◌, inl, inr, ⊎_elim}
use Rattle.std.proofs.Common.{Bool, true, false, List, [], ◌∷◌, length, Option, Some, None}
use Rattle.std.proofs.Common.{refl, sym, ap, ◌∙◌, subst, arith, le-leb, leb-true}
use Rattle.std.specs.Prelude.{slice_get, nat_le, nat_lt, ◌==◌, ◌&&◌, if◌then◌else◌}
use Rattle.std.proofs.lemmas.Bool.{and_from, eq-eqb, lt-ltb, le-ltb}
use Rattle.sb_base.specs.declared.ending.Ending.{Ending}
use Rattle.sb_base.specs.declared.ending.Ending.TheVariants as ending
use Rattle.sb_base.specs.Endings.{report_of, report_at}
use Rattle.behaviours.specs.Steps.{run}
use Rattle.behaviours.proofs.Running.{run_add}
use Rattle.addr_map.specs.declared.region.Region.TheVariants.{RuntimeCalls}
use Rattle.addr_map.specs.Places.{MapSizes, region_size}
use Rattle.flat_code.specs.declared.instruction.FlatInstruction.{FlatInstruction}
use Rattle.flat_code.specs.declared.instruction.FlatInstruction.TheVariants.{Constant, Move, Operate, Operate32}
use Rattle.flat_code.specs.declared.instruction.FlatInstruction.TheVariants.{Load, Store, Branch, JumpForward}
use Rattle.flat_code.specs.declared.instruction.FlatInstruction.TheVariants.{JumpBack, Turn, Call, CallAddress}
use Rattle.flat_code.specs.declared.instruction.FlatInstruction.TheVariants.{Return, Get, Put, Exit, End, Charged}
use Rattle.flat_code.specs.declared.function.FlatFunction.{FlatFunction}
use Rattle.flat_code.specs.declared.function.FlatProgram.{FlatProgram}
use Rattle.flat_code.specs.Memory.{put}
use Rattle.flat_code.specs.State.{Values, State, Frame, Stage, Stands, Over, Stuck}
use Rattle.flat_code.specs.Calls.{function_in, room_if, rooms, arguments, with_results}
use Rattle.flat_code.specs.Meaning.{Context, Local, Goes, Ends, Leaves, Fails, local, context, step, at_instruction}
use Rattle.flat_code.specs.Meaning.{instruction_at, body_of, parameters_of, results_of, has_room, weight_of, enters}
use Rattle.flat_code.proofs.Stored.{put_same, put_other}
use Rattle.flat_code.specs.Routines.Local.{local_run, local_step, act, counted}
use Rattle.flat_code.specs.Routines.Routine.{Outcome, Continues, Halts, left_at}
use Rattle.flat_code.specs.Routines.Lifted.{stage_of}
use Rattle.flat_code.specs.Routines.ExitStubs.{DoesWithStubs, EndsThere, AtStub, ComesToStub}
use Rattle.flat_code.proofs.Routines.ExitStubs.{stubbed}
use Rattle.flat_code.proofs.Routines.Lifted.{lifted}
use Rattle.flat_code.proofs.Routines.Steps.{has_front, has_self, run_add as local_run_add}
use Rattle.runtime_functions.specs.declared.status.ReturnStatus.{ReturnStatus}
use Rattle.runtime_functions.specs.Status.{return_status, status_number}
use Rattle.runtime_functions.specs.Functions.{stub_place, function_body, zeros, with_zeros, cleared_registers}
use Rattle.runtime_functions.specs.Calls.{CallSite, waits_at, enters_in, begins_in, CallsRuntime, HasReturned, Returned}
use Rattle.runtime_functions.specs.Calls.{Exited, ComesOfCall, calling_steps}
use Rattle.runtime_functions.proofs.Zeros.{zeros_run}
use Rattle.runtime_functions.proofs.Stubs.{numbered, has_return, has_stub, place_by, stub_of, has_exit_stubs}
use Rattle.runtime_functions.proofs.Stubs.{stays_without}

-- ---- a run that ends with a report ends at an ending

data ComesFrom (code : List FlatInstruction) (report : List ℕ) : Type 0 where
  NoReport : report ≡ [] → ComesFrom code report
  AtEnding : (q : ℕ) (e : Ending) → slice_get code q ≡ Some (End e) → report ≡ report_of e → ComesFrom code report

module _ (c : Context) (code : List FlatInstruction) where
  abbrev FromOf : Local → Type 0
  FromOf (Ends status report s) = ComesFrom code report
  FromOf l = Unit {0}

  guarded : (b : Bool) (q : ℕ) (s : State) → FromOf (if b then Goes q s else Fails)
  guarded true q s = tt
  guarded false q s = tt

  one : (i : FlatInstruction) (q : ℕ) (s : State) → slice_get code q ≡ Some i → FromOf (local c i q s)
  one (Constant x n) q s h = tt
  one (Move x y) q s h = tt
  one (Operate op x y z) q s h = tt
  one (Operate32 op x y z) q s h = tt
  one (Load op x y offset) q s h = guarded _ _ _
  one (Store op y offset x) q s h = guarded _ _ _
  one (Branch op y z past) q s h = tt
  one (JumpForward past) q s h = tt
  one (JumpBack back) q s h = tt
  one Turn q s h = tt
  one (Call f first x) q s h = tt
  one (CallAddress y first n x m) q s h = tt
  one (Return y) q s h = tt
  one (Get x) q s h = tt
  one (Put x) q s h = tt
  one (Exit x) q s h = NoReport refl
  one (End e) q s h = AtEnding q e h refl
  one (Charged x) q s h = tt

  step_from : (q : ℕ) (s : State) → FromOf (local_step c code (Goes q s))
  step_from q s = by (slice_get code q) refl
    where
      by : (o : Option FlatInstruction) → slice_get code q ≡ o → FromOf (act c o q s)
      by None h = tt
      by (Some i) h = one i q (counted c i s) h

  run_from : (n : ℕ) (l : Local) → FromOf l → FromOf (local_run c code n l)
  unfolding local_run
  run_from zero l h = h
  run_from (suc n) (Goes q s) h = run_from n (local_step c code (Goes q s)) (step_from q s)
  run_from (suc n) (Ends status report s) h = run_from n (Ends status report s) h
  run_from (suc n) Leaves h = run_from n Leaves tt
  run_from (suc n) Fails h = run_from n Fails tt

-- an ending without a status has no report
pub no_report : (e : Ending) → return_status e ≡ None → report_of e ≡ []
no_report (ending.Exit status) h = refl
no_report (ending.Spatial l) h = absurd cc
no_report (ending.Temporal l) h = absurd cc
no_report (ending.BadCall l) h = absurd cc
no_report (ending.BadFree l) h = absurd cc
no_report (ending.Divide l) h = absurd cc
no_report (ending.Stack l) h = absurd cc
no_report (ending.Keys l) h = absurd cc
no_report (ending.Abort l) h = absurd cc

pub some_report : (e : Ending) (r : ReturnStatus) → return_status e ≡ Some r → 1 ≤ length (report_of e)
unfolding report_at
some_report (ending.Exit status) r h = absurd cc
some_report (ending.Spatial l) r h = omega arith
some_report (ending.Temporal l) r h = omega arith
some_report (ending.BadCall l) r h = omega arith
some_report (ending.BadFree l) r h = omega arith
some_report (ending.Divide l) r h = omega arith
some_report (ending.Stack l) r h = omega arith
some_report (ending.Keys l) r h = omega arith
some_report (ending.Abort l) r h = omega arith

-- ---- results

result_at : (into n d : ℕ) (results values : Values) (i : ℕ) → i < n
    → with_results into n results d values (into + i) ≡ results (d + i)
result_at into n d results values i l =
    let same : into + i - into ≡ i = omega arith in
    ap (λ b. if b then results (d + (into + i - into)) else values (into + i))
    (and_from (nat_le into (into + i)) (nat_lt (into + i) (into + n)) (le-leb into (into + i) (omega arith))
    (lt-ltb (into + i) (into + n) (omega arith)))
    ∙ ap (λ k. results (d + k)) same

result_other : (into n d : ℕ) (results values : Values) (x : ℕ) → (x < into) ⊎ (into + n ≤ x)
    → with_results into n results d values x ≡ values x
result_other into n d results values x out = ⊎_elim
    (λ l. ap (λ b. if b && nat_lt x (into + n) then results (d + (x - into)) else values x) (below into x l))
    (λ l. ap (λ b. if b then results (d + (x - into)) else values x) (second (nat_le into x) (le-ltb x (into + n) l)))
    out
  where
    below : (a b : ℕ) → b < a → nat_le a b ≡ false
    below a b l = leb-no a b (nat_le a b) refl l
      where
        leb-no : (a b : ℕ) (t : Bool) → nat_le a b ≡ t → b < a → t ≡ false
        leb-no a b false e l = refl
        leb-no a b true e l = let z = leb-true a b e in absurd (omega arith)

    second : (a : Bool) → nat_lt x (into + n) ≡ false → (a && nat_lt x (into + n)) ≡ false
    second true e = e
    second false e = refl

-- ---- the call

module _ (m : MapSizes) (p : FlatProgram) (s : CallSite) (fn : FlatFunction) (r : List FlatInstruction) (a n : ℕ)
    (h : CallsRuntime m p s fn r a n) where
  abbrev f : ℕ
  f = s.function

  -- the routine behind the registers that are made 0
  abbrev whole : List FlatInstruction
  whole = with_zeros r a

  abbrev frames : List Frame
  frames = waits_at s

  abbrev body : List FlatInstruction
  body = function_body whole a

  abbrev c : Context
  c = context m p f frames

  abbrev begin : Stage
  begin = Stands s.caller s.place s.state s.frames

  body_is : body_of (function_in p f) ≡ body
  body_is = ap body_of h.calls.found ∙ h.is.body

  parameters_are : parameters_of (function_in p f) ≡ a
  parameters_are = ap parameters_of h.calls.found ∙ h.is.parameters

  results_are : results_of (function_in p f) ≡ 1 + n
  results_are = ap results_of h.calls.found ∙ h.is.results_are

  pub weight_is : weight_of (function_in p f) ≡ 1
  weight_is =
      ap weight_of h.calls.found
      ∙ (ap (λ b. if nat_le (if b then fn.room else 2 * fn.room) (2 ^ 11) then 1 else 2) h.is.of_runtime
      ∙ ap (λ b. if b then 1 else 2) (le-leb fn.room (2 ^ 11) h.is.room))

  rooms_behind : (b : Bool) (x : Frame) (xs : List Frame)
      → rooms b p (x ∷ xs) ≡ room_if b (function_in p x.function) + rooms b p xs
  unfolding rooms
  rooms_behind b x xs = refl

  has : has_room m p frames fn ≡ true
  has =
      let no : room_if false (Some fn) ≡ 0 = ap (λ b. if b then 0 else fn.room) h.is.of_runtime in
      let own : room_if true (Some fn) ≡ fn.room = ap (λ b. if b then fn.room else 0) h.is.of_runtime in
      let behind : rooms false p frames ≡ room_if false (function_in p s.caller) + rooms false p s.frames = rooms_behind
      false _ s.frames in
      let fits = h.calls.fits in let room = h.calls.room in
      and_from (nat_le (room_if false (Some fn) + rooms false p frames) m.budgets.calls)
      (nat_le (room_if true (Some fn) + rooms true p frames) (region_size m RuntimeCalls))
      (le-leb (room_if false (Some fn) + rooms false p frames) m.budgets.calls (omega arith))
      (le-leb (room_if true (Some fn) + rooms true p frames) (region_size m RuntimeCalls) (omega arith))

  enters_it : step m p begin ≡ Stands f 0 (enters_in s a) frames
  enters_it =
      let k = parameters_of (function_in p f) in
      let state : State = record s.state { work = s.state.work + (8 + 2 * k) } in
      let test = and_from (fn.parameters == fn.parameters) ((fn.results == fn.results) && has_room m p frames fn)
      (eq-eqb fn.parameters fn.parameters refl)
      (and_from (fn.results == fn.results) (has_room m p frames fn) (eq-eqb fn.results fn.results refl) has) in
      ap (λ o. at_instruction m p o s.caller s.place s.state s.frames) h.calls.at
      ∙ ap (λ o. enters m p f s.first (parameters_of o) (results_of o) o frames state) h.calls.found
      ∙ ap (λ b. if b then Stands f 0 (record state { values = arguments s.first fn.parameters s.state.values }) frames
      else Stuck) test
      ∙ ap (λ j. Stands f 0 (record state { values = arguments s.first j s.state.values }) frames) h.is.parameters
      ∙ ap (λ j. Stands f 0 (record s.state {
        values = arguments s.first a s.state.values;
        work = s.state.work + (8 + 2 * j);
      }) frames) parameters_are

  -- an instruction of the function
  at_place : (q : ℕ) (i : FlatInstruction) → slice_get body q ≡ Some i → instruction_at p f q ≡ Some i
  at_place q i e = ap (λ l. slice_get l q) body_is ∙ e

  -- ---- its return

  abbrev after : State → State
  after z = record z {
    values = with_results s.into (1 + n) z.values a s.state.values;
    work = z.work + (8 + 2 * (1 + n));
  }

  returns_it : (q : ℕ) (z : State) → slice_get body q ≡ Some (Return a)
      → step m p (Stands f q z frames) ≡ Stands s.caller (s.place + 1) (after z) s.frames
  returns_it q z e =
      ap (λ o. at_instruction m p o f q z frames) (at_place q (Return a) e)
      ∙ ap (λ k. Stands s.caller (s.place + 1) (record z {
        values = with_results s.into k z.values a s.state.values;
        work = z.work + (8 + 2 * k);
      }) s.frames) results_are

  has_returned : (z left : State) (status w : ℕ) → z.values a ≡ status
      → ((i : ℕ) → i < n → z.values (a + 1 + i) ≡ left.values (a + 1 + i))
      → z ≡ record left { values = z.values; work = w } → z.work ≤ left.work
      → HasReturned s a n status left (Stands s.caller (s.place + 1) (after z) s.frames)
  has_returned z left status w is same rest le = record {
    after = after z;
    stands = refl;
    status_is =
        let here : s.into ≡ s.into + 0 = omega arith in
        let there : a + 0 ≡ a = omega arith in
        ap (λ x. with_results s.into (1 + n) z.values a s.state.values x) here
        ∙ result_at s.into (1 + n) a z.values s.state.values 0 (omega arith) ∙ ap z.values there ∙ is;
    results_are = λ i l.
        let here : s.into + 1 + i ≡ s.into + (1 + i) = omega arith in
        let there : a + (1 + i) ≡ a + 1 + i = omega arith in
        ap (λ x. with_results s.into (1 + n) z.values a s.state.values x) here
        ∙ result_at s.into (1 + n) a z.values s.state.values (1 + i) (omega arith) ∙ ap z.values there ∙ same i l;
    others = λ x out. result_other s.into (1 + n) a z.values s.state.values x
        (⊎_elim (λ l. inl l) (λ l. inr (omega arith)) out);
    rest = ap (λ (y : State). record y { values = (after z).values; work = (after z).work }) rest;
    work = omega arith;
  }

  -- ---- by how the routine is left

  entered : (k : ℕ) (x : Stage) → run (step m p) k (Stands f 0 (enters_in s a) frames) ≡ x
      → run (step m p) (1 + k) begin ≡ x
  entered k x e = run_add (step m p) 1 k begin ∙ ap (run (step m p) k) enters_it ∙ e

  lifts : (k : ℕ) (place : ℕ) (x : Outcome) → local_run c body k (Goes 0 (enters_in s a)) ≡ left_at place x
      → run (step m p) (1 + k) begin ≡ stage_of f frames place x
  lifts k place x e =
      entered k (stage_of f frames place x) (lifted m p f frames k 0 (enters_in s a) place x
      (ap (λ l. local_run c l k (Goes 0 (enters_in s a))) body_is ∙ e))

  completed : (k : ℕ) (z : State) → local_run c body k (Goes 0 (enters_in s a)) ≡ Goes (length whole) z
      → ComesOfCall m p s a n (k + 3) (Continues z)
  completed k z e = record {
    steps = 1 + k + 1;
    within = omega arith;
    stage = Stands s.caller (s.place + 1) (after z) s.frames;
    comes = run_add (step m p) (1 + k) 1 begin ∙ ap (run (step m p) 1) (lifts k (length whole) (Continues z) e)
        ∙ returns_it (length whole) z (has_return whole a).0;
    called = has_returned z z (z.values a) z.work refl (λ i l. refl) refl (omega arith);
  }

  -- the number of a status is put into its register
  abbrev told : ReturnStatus → State → State
  told x z = record z {
    values = put z.values a (status_number x % 2 ^ 64);
    work = z.work + weight_of (function_in p f);
  }

  reported : (k status : ℕ) (report : List ℕ) (z : State)
      → (t : ComesToStub c body (stub_of whole a) k (Goes (0 + 0) (enters_in s a)) status report z)
      → (x : ReturnStatus) → return_status t.ending ≡ Some x
      → ComesOfCall m p s a n (k + 3) (Halts status report z)
  reported k status report z t x is =
      let few = numbered t.ending x is in
      let some = few.0 in let most = few.1 in
      let stands = has_stub whole a x few.0 few.1 in
      let place = stub_place (length whole) x in
      let y : State = record z { work = t.work } in
      let at : stub_of whole a t.ending ≡ place = ap (λ o. place_by whole a o) is in
      let start : 0 + 0 ≡ 0 = omega arith in
      let comes : local_run c body t.steps (Goes 0 (enters_in s a)) ≡ Goes place y =
      ap (λ q. local_run c body t.steps (Goes q (enters_in s a))) (sym start) ∙ t.comes ∙ ap (λ q. Goes q y) at in
      let words = some_report t.ending x is in
      let length_is : length report ≡ length (report_of t.ending) = ap length t.report_is in
      let less = t.less in let within = t.within in
      let w = weight_is in
      let paid : weight_of (function_in p f) * length report ≡ length report =
      ap (λ k. k * length report) weight_is ∙ omega arith in
      record {
        steps = 1 + t.steps + 2;
        within = omega arith;
        stage = Stands s.caller (s.place + 1) (after (told x y)) s.frames;
        comes = run_add (step m p) (1 + t.steps) 2 begin
            ∙ ap (run (step m p) 2) (lifts t.steps place (Continues y) comes)
            ∙ ap (λ o. run (step m p) 1 (at_instruction m p o f place y frames))
            (at_place place (Constant a (status_number x)) stands.0)
            ∙ returns_it (place + 1) (told x y) stands.1.0;
        called = Returned t.ending x is t.status_is t.report_is (record z { work = (told x y).work })
            (record { same = refl; less = omega arith })
            (has_returned (told x y) (record z { work = (told x y).work }) (status_number x) (told x y).work
            (put_same z.values a _ ∙ omega arith)
            (λ i l. put_other z.values a _ (a + 1 + i) (λ e. omega (arith, e)))
            refl (omega arith));
      }

  over : (k status : ℕ) (report : List ℕ) (z : State)
      → local_run c body k (Goes 0 (enters_in s a)) ≡ Ends status report z
      → ComesOfCall m p s a n (k + 3) (Halts status report z)
  over k status report z e = record {
    steps = 1 + k;
    within = omega arith;
    stage = Over status report z;
    comes = lifts k 0 (Halts status report z) e;
    called = Exited (by (subst (FromOf c body) e (run_from c body k (Goes 0 (enters_in s a)) tt))) refl;
  }
    where
      by : ComesFrom body report → report ≡ []
      by (NoReport h) = h
      by (AtEnding q x at is) = is ∙ no_report x (stays_without whole a q x at)

  comes_of_entry : (k : ℕ) (x : Outcome) → local_run c whole k (Goes 0 (enters_in s a)) ≡ left_at (length whole) x
      → ComesOfCall m p s a n (k + 3) x
  comes_of_entry k x e =
      by x (subst (DoesWithStubs c body 0 (stub_of whole a) k (Goes (0 + 0) (enters_in s a))) e
      (stubbed c (stub_of whole a) whole body 0 (has_exit_stubs whole a) k 0 (enters_in s a)))
    where
      start : 0 + 0 ≡ 0
      start = omega arith

      from_start : (l : Local) → local_run c body k (Goes (0 + 0) (enters_in s a)) ≡ l
          → local_run c body k (Goes 0 (enters_in s a)) ≡ l
      from_start l = subst (λ q. local_run c body k (Goes q (enters_in s a)) ≡ l) start

      by : (x : Outcome)
          → DoesWithStubs c body 0 (stub_of whole a) k (Goes (0 + 0) (enters_in s a)) (left_at (length whole) x)
          → ComesOfCall m p s a n (k + 3) x
      by (Continues z) d =
          let there : 0 + length whole ≡ length whole = omega arith in
          completed k z (from_start (Goes (length whole) z) (d ∙ ap (λ q. Goes q z) there))
      by (Halts status report z) (EndsThere ends) =
          over k status report z (from_start (Ends status report z) ends)
      by (Halts status report z) (AtStub t) = stopped (return_status t.ending) refl
        where
          stopped : (o : Option ReturnStatus) → return_status t.ending ≡ o
              → ComesOfCall m p s a n (k + 3) (Halts status report z)
          stopped (Some y) is = reported k status report z t y is
          stopped None is =
              let none : stub_of whole a t.ending ≡ 0 = ap (λ o. place_by whole a o) is in
              let before = t.before in absurd (omega arith)

  -- ---- the registers that are made 0

  weight_one : (k : ℕ) → c.weight * k ≡ k
  weight_one k = ap (λ w. w * k) weight_is ∙ omega arith

  behind_parameters : (x : ℕ) → a ≤ x → (enters_in s a).values x ≡ 0
  behind_parameters x l = ap (λ b. if b then s.state.values (s.first + x) else 0) (le-ltb x a l)

  begins : local_run c whole cleared_registers (Goes 0 (enters_in s a)) ≡ Goes cleared_registers (begins_in s a)
  begins =
      zeros_run c whole cleared_registers 0 a (enters_in s a)
      (has_front whole 0 (zeros a cleared_registers) r (has_self whole)) behind_parameters
      ∙ ap (λ w. Goes cleared_registers (record (enters_in s a) { work = s.state.work + (8 + 2 * a) + w }))
      (weight_one cleared_registers)

  -- from where the routine begins
  pub comes_of_call : (k : ℕ) (x : Outcome)
      → local_run c whole k (Goes cleared_registers (begins_in s a)) ≡ left_at (cleared_registers + length r) x
      → ComesOfCall m p s a n (k + calling_steps) x
  comes_of_call k x e =
      let place : cleared_registers + length r ≡ length whole = omega arith in
      let steps : cleared_registers + k + 3 ≡ k + calling_steps = omega arith in
      subst (λ b. ComesOfCall m p s a n b x) steps
      (comes_of_entry (cleared_registers + k) x
      (local_run_add c whole cleared_registers k (Goes 0 (enters_in s a)) ∙ ap (local_run c whole k) begins
      ∙ e ∙ ap (λ q. left_at q x) place))
