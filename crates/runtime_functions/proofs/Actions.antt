-- A call of a function whose routine is an action.
use Rattle.std.proofs.Common.{◌≡◌, ℕ, ◌+◌, ◌-◌, ◌*◌, ◌<◌, ◌≤◌, ◌^◌, ◌⊎◌, inl, inr, Bool, true, false, List, [], ◌∷◌}
use Rattle.std.proofs.Common.{length, Option, Some, None, refl, sym, ap, ◌∙◌, subst, arith}
use Rattle.std.specs.Prelude.{map, nat_lt, ◌==◌, if◌then◌else◌}
use Rattle.std.proofs.lemmas.Bool.{lt-ltb, le-ltb}
use Rattle.std.proofs.lemmas.Nat.{mul-le}
use Rattle.std.proofs.lemmas.Option.{same_Some}
use Rattle.sb_base.specs.declared.ending.Ending.{Ending}
use Rattle.sb_base.specs.declared.ending.Ending.TheVariants as ending
use Rattle.sb_base.specs.Endings.{code_of, report_of}
use Rattle.addr_map.specs.Places.{MapSizes}
use Rattle.obj_memory.specs.declared.value.Value.{Value}
use Rattle.obj_memory.specs.Objects.{Objects}
use Rattle.source_meaning.specs.State.{State as Source, Outcome as Completed, Gives, Ended, Paused, Run}
use Rattle.source_meaning.specs.Acting.{state_of}
use Rattle.source_meaning.specs.Lines.{RunsAlikeAt, outcome_at, ending_at as at_line_of}
use Rattle.flat_code.specs.declared.instruction.FlatInstruction.{FlatInstruction}
use Rattle.flat_code.specs.declared.function.FlatFunction.{FlatFunction}
use Rattle.flat_code.specs.declared.function.FlatProgram.{FlatProgram}
use Rattle.flat_code.specs.Memory.{Bytes}
use Rattle.flat_code.specs.State.{State, Stage, Over}
use Rattle.flat_code.specs.Calls.{function_in}
use Rattle.flat_code.specs.Words.{IsOfWords}
use Rattle.flat_code.specs.Meaning.{Context, Goes, context, is_runtime_function}
use Rattle.flat_code.specs.Routines.Local.{local_run}
use Rattle.flat_code.specs.Routines.Registers.{IsNoneOf}
use Rattle.flat_code.specs.Routines.Routine.{Outcome, Continues, Halts, Does, left_at}
use Rattle.flat_code.specs.Routines.Laws.{work_of as work_left, report_length}
use Rattle.flat_code.specs.Routines.InputOutput.{has_input_output}
use Rattle.flat_code.specs.Routines.Metadata.{View, ShowsNothing}
use Rattle.flat_code.specs.Routines.Objects.StandsFor.{Views, Keys}
use Rattle.flat_code.proofs.Routines.Steps.{has_self, has_back}
use Rattle.flat_code.proofs.Routines.Words.{same_metadata}
use Rattle.flat_code.proofs.Routines.Work.{work_within, work_of_weight}
use Rattle.flat_actions.specs.Actions.{views_of, IsShown, IsFor, Holder, Nowhere, Word}
use Rattle.flat_actions.specs.Actions.{Pointer, registers_of, IsHeldBy, AreHeldBy, IsGivenIn, HasGiven, HasEnded}
use Rattle.flat_actions.specs.Actions.{Leaves, work_of}
use Rattle.flat_actions.proofs.Standing.{for_still, shown_still}
use Rattle.runtime_functions.specs.Functions.{zeros, with_zeros, cleared_registers}
use Rattle.runtime_functions.specs.declared.status.ReturnStatus.{ReturnStatus}
use Rattle.runtime_functions.specs.Status.{return_status, status_number, ending_at}
use Rattle.runtime_functions.specs.Calls.{CallSite, waits_at, begins_in, CallsRuntime, HasReturned, Reports, Returned}
use Rattle.runtime_functions.specs.Calls.{calling_steps}
use Rattle.runtime_functions.specs.Calls.{Exited, IsCalled, ComesOfCall}
use Rattle.runtime_functions.specs.Actions.{over_registers, argument_register, result_register, AreParameters}
use Rattle.runtime_functions.specs.Actions.{AreResults, AreTaken, Interface, price_of, IsActionFunction}
use Rattle.runtime_functions.specs.Actions.{IsReady, work_of_call, IsBehind, HasCompleted, IsServed}
use Rattle.runtime_functions.specs.Actions.{HasTold, HasExited, ComesBehind, steps_of, ServesCall}
use Rattle.runtime_functions.proofs.Calls.{comes_of_call, weight_is, no_report, some_report}

-- ---- endings

-- the number of a status, by the exit status of its endings
number_by_code : ℕ → ℕ
number_by_code c = if c == 134 then 8 else c - 119

number_is : (e : Ending) (r : ReturnStatus) → return_status e ≡ Some r → status_number r ≡ number_by_code (code_of e)
unfolding number_by_code
number_is (ending.Exit status) r h = absurd cc
number_is (ending.Spatial l) r h = ap status_number (sym (same_Some _ _ h))
number_is (ending.Temporal l) r h = ap status_number (sym (same_Some _ _ h))
number_is (ending.BadCall l) r h = ap status_number (sym (same_Some _ _ h))
number_is (ending.BadFree l) r h = ap status_number (sym (same_Some _ _ h))
number_is (ending.Divide l) r h = ap status_number (sym (same_Some _ _ h))
number_is (ending.Stack l) r h = ap status_number (sym (same_Some _ _ h))
number_is (ending.Keys l) r h = ap status_number (sym (same_Some _ _ h))
number_is (ending.Abort l) r h = ap status_number (sym (same_Some _ _ h))

same_number : (e f : Ending) (q r : ReturnStatus) → return_status e ≡ Some q → return_status f ≡ Some r
    → code_of e ≡ code_of f → status_number r ≡ status_number q
same_number e f q r a b c = number_is f r b ∙ ap number_by_code (sym c) ∙ sym (number_is e q a)

told_at : (line : ℕ) (e : Ending) (r : ReturnStatus) → return_status e ≡ Some r
    → ending_at r line ≡ Some (at_line_of line e)
told_at line (ending.Exit status) r h = absurd cc
told_at line (ending.Spatial l) r h = ap (λ r. ending_at r line) (sym (same_Some _ _ h))
told_at line (ending.Temporal l) r h = ap (λ r. ending_at r line) (sym (same_Some _ _ h))
told_at line (ending.BadCall l) r h = ap (λ r. ending_at r line) (sym (same_Some _ _ h))
told_at line (ending.BadFree l) r h = ap (λ r. ending_at r line) (sym (same_Some _ _ h))
told_at line (ending.Divide l) r h = ap (λ r. ending_at r line) (sym (same_Some _ _ h))
told_at line (ending.Stack l) r h = ap (λ r. ending_at r line) (sym (same_Some _ _ h))
told_at line (ending.Keys l) r h = ap (λ r. ending_at r line) (sym (same_Some _ _ h))
told_at line (ending.Abort l) r h = ap (λ r. ending_at r line) (sym (same_Some _ _ h))

same_kind : (line : ℕ) (e : Ending)
    → (return_status (at_line_of line e) ≡ return_status e) × (code_of (at_line_of line e) ≡ code_of e)
same_kind line (ending.Exit status) = (refl, refl)
same_kind line (ending.Spatial l) = (refl, refl)
same_kind line (ending.Temporal l) = (refl, refl)
same_kind line (ending.BadCall l) = (refl, refl)
same_kind line (ending.BadFree l) = (refl, refl)
same_kind line (ending.Divide l) = (refl, refl)
same_kind line (ending.Stack l) = (refl, refl)
same_kind line (ending.Keys l) = (refl, refl)
same_kind line (ending.Abort l) = (refl, refl)

pub same_state : {A : Type 0} (line : ℕ) (o : Completed A) → state_of (outcome_at line o) ≡ state_of o
same_state line (Gives v x) = refl
same_state line (Ended e x) = refl
same_state line (Paused x) = refl

-- ---- work

-- a run of code from a place on, each of whose instructions weighs 1
priced_run : (c : Context) (r : List FlatInstruction) → c.weight ≡ 1 → (steps pc : ℕ) (s : State) (place : ℕ)
    (x : Outcome) → local_run c r steps (Goes pc s) ≡ left_at place x → work_left x ≤ s.work + (price_of r * steps + report_length x)
priced_run c r one steps pc s place x comes = by (has_input_output r) refl
  where
    by : (b : Bool) → has_input_output r ≡ b → work_left x ≤ s.work + (price_of r * steps + report_length x)
    by true e =
        let w = work_within c r steps pc s place x comes in
        let unit : c.weight * (2 * steps + report_length x) ≡ 2 * steps + report_length x =
        ap (λ k. k * (2 * steps + report_length x)) one ∙ omega arith in
        let price : price_of r * steps ≡ 2 * steps = ap (λ b. (if b then 2 else 1) * steps) e in
        omega arith
    by false e =
        let w = work_of_weight c r e steps pc s place x comes in
        let unit : c.weight * (steps + report_length x) ≡ steps + report_length x =
        ap (λ k. k * (steps + report_length x)) one ∙ omega arith in
        let price : price_of r * steps ≡ 1 * steps = ap (λ b. (if b then 2 else 1) * steps) e in
        omega arith

-- ---- registers

pub none_of_results : (a n : ℕ) (xs : List ℕ) → AreResults a n xs → IsNoneOf a xs
none_of_results a n [] h = tt
none_of_results a n (x ∷ xs) h = ((λ e. let l = h.0.0 in omega (arith, e)), none_of_results a n xs h.1)

module _ (s : CallSite) (a : ℕ) where
  pub argument_is : (r : ℕ) → r < a → (begins_in s a).values r ≡ s.state.values (argument_register s r)
  argument_is r l = ap (λ b. if b then s.state.values (s.first + r) else 0) (lt-ltb r a l)

  -- the same, of the caller's register
  pub argument_at : (r i : ℕ) → r < a → s.first + r ≡ i → (begins_in s a).values r ≡ s.state.values i
  argument_at r i l e = argument_is r l ∙ ap s.state.values e

  pub status_is_zero : (begins_in s a).values a ≡ 0
  status_is_zero = ap (λ b. if b then s.state.values (s.first + a) else 0) (le-ltb a a (omega arith))

  pub begins_of_words : IsOfWords s.state → IsOfWords (begins_in s a)
  begins_of_words w = record {
    values = λ x. by (nat_lt x a) (s.state.values (s.first + x)) (w.values (s.first + x));
    memory = w.memory;
  }
    where
      by : (b : Bool) (v : ℕ) → v < 2 ^ 64 → (if b then v else 0) < 2 ^ 64
      by true v l = l
      by false v l = omega arith

  pub begins_for : (g : Views) (k : Keys) (IsGood : Bytes → Type 0) (x : Source) → IsFor g k IsGood x s.state
      → IsFor g k IsGood x (begins_in s a)
  begins_for g k IsGood x h = for_still g k IsGood x s.state (begins_in s a) refl
      (record { input = refl; output = refl; taken = refl; accesses = refl; turns = refl }) h

  pub argument_held : (g : Views) (k : Keys) (objects : Objects) (o : Holder) (v : Value)
      → AreParameters a (registers_of o)
      → IsHeldBy g k objects (over_registers (argument_register s) o) v s.state.values
      → IsHeldBy g k objects o v (begins_in s a).values
  argument_held g k objects Nowhere v l h = tt
  argument_held g k objects (Word r) v l h = argument_is r l.0 ∙ h
  argument_held g k objects (Pointer o) v l h = (
    record {
      word = argument_is o.value l.0 ∙ h.0.word;
      tag = same_metadata _ _ (argument_is o.tag.base l.1.0) (argument_is o.tag.bound l.1.1.0)
          (argument_is o.tag.key l.1.1.1.0) (argument_is o.tag.lock l.1.1.1.1.0)
          ∙ h.0.tag;
    },
    h.1,
  )

  arguments_held : (g : Views) (k : Keys) (objects : Objects) (os : List Holder) (vs : List Value) → AreTaken a os
      → AreHeldBy g k objects (map (over_registers (argument_register s)) os) vs s.state.values
      → AreHeldBy g k objects os vs (begins_in s a).values
  arguments_held g k objects [] [] l h = tt
  arguments_held g k objects [] (v ∷ vs) l h = h
  arguments_held g k objects (o ∷ os) [] l h = h
  arguments_held g k objects (o ∷ os) (v ∷ vs) l h =
      (argument_held g k objects o v l.0 h.0, arguments_held g k objects os vs l.1 h.1)

  module _ (n status : ℕ) (left : State) (stage : Stage) (h : HasReturned s a n status left stage) where
    pub result_is : (r : ℕ) → (a < r) × (r ≤ a + n) → h.after.values (result_register s a r) ≡ left.values r
    result_is r l =
        let above = l.0 in let below = l.1 in
        let here : s.into + (r - a) ≡ s.into + 1 + (r - a - 1) = omega arith in
        let there : a + 1 + (r - a - 1) ≡ r = omega arith in
        ap h.after.values here ∙ h.results_are (r - a - 1) (omega arith) ∙ ap left.values there

    result_given : (g : Views) (k : Keys) (o : Holder) (v : Value) → AreResults a n (registers_of o)
        → IsGivenIn g k o v left.values
        → IsGivenIn g k (over_registers (result_register s a) o) v h.after.values
    result_given g k Nowhere v l e = tt
    result_given g k (Word r) v l e = result_is r l.0 ∙ e
    result_given g k (Pointer o) v l e = record {
      word = result_is o.value l.0 ∙ e.word;
      tag = same_metadata _ _ (result_is o.tag.base l.1.0) (result_is o.tag.bound l.1.1.0)
          (result_is o.tag.key l.1.1.1.0) (result_is o.tag.lock l.1.1.1.1.0)
          ∙ e.tag;
    }

    pub memory_is : h.after.memory ≡ left.memory
    memory_is = ap (λ (q : State). q.memory) h.rest

    pub turns_are : h.after.turns ≡ left.turns
    turns_are = ap (λ (q : State). q.turns) h.rest

    same_shown : ShowsNothing left h.after
    same_shown = record {
      input = ap (λ (q : State). q.input) h.rest;
      output = ap (λ (q : State). q.output) h.rest;
      taken = ap (λ (q : State). q.taken) h.rest;
      accesses = ap (λ (q : State). q.accesses) h.rest;
      turns = turns_are;
    }

    pub returned_for : (g : Views) (k : Keys) (IsGood : Bytes → Type 0) (x : Source) → IsFor g k IsGood x left
        → IsFor g k IsGood x h.after
    returned_for g k IsGood x f = for_still g k IsGood x left h.after memory_is same_shown f

    abbrev pub behind : (bound : ℕ) → left.turns ≡ s.state.turns → left.work + (8 + 2 * (1 + n)) ≤ s.state.work + bound
        → IsBehind s n bound stage
    behind bound t w = record {
      state = h.after;
      at = h.stands;
      turns = turns_are ∙ t;
      others = h.others;
      work = (let l = h.work in omega arith);
    }

-- ---- a routine by what it does

-- there is an outcome for which its result holds, the run comes where that says, and the work is that of its steps
pub record Serves (m : MapSizes) (p : FlatProgram) (s : CallSite) (r : List FlatInstruction) (a n bound : ℕ)
    (Q : Outcome → Type 0) : Type 0 where
  pub outcome : Outcome
  pub comes : ComesOfCall m p s a n (bound + calling_steps) outcome
  pub holds : Q outcome
  pub work : work_left outcome ≤ (begins_in s a).work + (price_of r * bound + report_length outcome)

module _ (m : MapSizes) (p : FlatProgram) (s : CallSite) (fn : FlatFunction) (r : List FlatInstruction) (a n : ℕ)
    (h : CallsRuntime m p s fn r a n) where
  abbrev c : Context
  c = context m p s.function (waits_at s)

  pub serves : (P : State → Type 0) (B : State → ℕ) (Q : State → Outcome → Type 0) → Does c r P B Q
      → IsOfWords s.state → P (begins_in s a) → Serves m p s r a n (B (begins_in s a)) (Q (begins_in s a))
  serves P B Q does words holds =
      let whole = with_zeros r a in
      let has = has_back whole 0 (zeros a cleared_registers) r (has_self whole) in
      let t = does.from whole cleared_registers (begins_in s a) has (begins_of_words s a words) holds in
      let d = comes_of_call m p s fn r a n h t.steps t.outcome t.comes in
      let within = d.within in let few = t.within in
      let paid : work_left t.outcome ≤ (begins_in s a).work + (price_of r * t.steps + report_length t.outcome) =
      priced_run c whole (weight_is m p s fn r a n h) t.steps cleared_registers (begins_in s a)
      (cleared_registers + length r) t.outcome t.comes in
      let less : price_of r * t.steps ≤ price_of r * B (begins_in s a) = mul-le _ _ _ _ (omega arith) few in
      record {
        outcome = t.outcome;
        comes = record {
          steps = d.steps;
          within = omega arith;
          stage = d.stage;
          comes = d.comes;
          called = d.called;
        };
        holds = t.holds;
        work = omega arith;
      }

  pub of_runtime : is_runtime_function (function_in p s.function) ≡ true
  of_runtime = ap is_runtime_function h.calls.found ∙ h.is.of_runtime

  -- what it does in functions of the runtime
  pub serves_in_runtime : (P : State → Type 0) (B : State → ℕ) (Q : State → Outcome → Type 0)
      → ((charge weight : ℕ)
      → Does (record { sizes = m; is_runtime = true; charge = charge; weight = weight }) r P B Q)
      → IsOfWords s.state → P (begins_in s a) → Serves m p s r a n (B (begins_in s a)) (Q (begins_in s a))
  serves_in_runtime P B Q does =
      serves P B Q
      (subst (λ b. Does (record { sizes = m; is_runtime = b; charge = c.charge; weight = c.weight }) r P B Q)
      (sym of_runtime) (does c.charge c.weight))

-- ---- a run that is ended

-- the work of a call: the values handed over, the status, and the routine's
module _ (s : CallSite) (a n line w : ℕ) where
  abbrev ended_cost : ℕ
  ended_cost = 16 + 2 * (a + (1 + n)) + 1 + cleared_registers + w

  pub told : {map : MapSizes} (e : Ending) (x' : Source) (status : ℕ) (report : List ℕ) (z : State) (stage : Stage)
      → HasEnded map e x' status report (begins_in s a) z → Reports s a n status report z stage
      → z.work ≤ (begins_in s a).work + (w + length report)
      → HasTold map (at_line_of line e) line s n ended_cost x' stage ⊎ HasExited map (at_line_of line e) s x' stage
  told {map} e x' status report z stage ended (Returned e' r is code same y t back) work = by (return_status e) refl
    where
      words : length (report_of e) ≡ length (report_of e')
      words = ap length (sym ended.report_is ∙ same)

      shown : IsShown x' back.after
      shown = shown_still x' y back.after (same_shown s a n (status_number r) y stage back)
          (shown_still x' z y (record {
            input = ap (λ (q : State). q.input) t.same;
            output = ap (λ (q : State). q.output) t.same;
            taken = ap (λ (q : State). q.taken) t.same;
            accesses = ap (λ (q : State). q.accesses) t.same;
            turns = ap (λ (q : State). q.turns) t.same;
          }) ended.shown)

      by : (o : Option ReturnStatus) → return_status e ≡ o
          → HasTold map (at_line_of line e) line s n ended_cost x' stage ⊎ HasExited map (at_line_of line e) s x' stage
      by None none =
          let some = some_report e' r is in
          let empty : length (report_of e) ≡ 0 = ap length (no_report e none) in
          absurd (omega (arith, words))
      by (Some q) kind = inl (record {
        behind = behind s a n (status_number r) y stage back ended_cost (ap (λ (q : State). q.turns) t.same ∙ ended.turns)
            (let less = t.less in omega arith);
        kind = q;
        status = back.status_is ∙ same_number e e' q r kind is (sym ended.status_is ∙ code);
        ending_is = told_at line e q kind;
        shown = shown;
        unwritten = (let same = memory_is s a n (status_number r) y stage back ∙ ap (λ (q : State). q.memory) t.same in
            record {
              low = λ b l. ap (λ (q : Bytes). q b) same ∙ ended.unwritten.low b l;
              behind = λ b l. ap (λ (q : Bytes). q b) same ∙ ended.unwritten.behind b l;
            });
      })
  told {map} e x' status report z stage ended (Exited empty over) work = by (return_status e) refl
    where
      by : (o : Option ReturnStatus) → return_status e ≡ o
          → HasTold map (at_line_of line e) line s n ended_cost x' stage ⊎ HasExited map (at_line_of line e) s x' stage
      by None none = inr (record {
        state = z;
        no_status = (same_kind line e).0 ∙ none;
        over = over ∙ ap (λ q. Over q report z) (ended.status_is ∙ sym (same_kind line e).1)
            ∙ ap (λ q. Over (code_of (at_line_of line e)) q z) empty;
        shown = ended.shown;
        unwritten = record {
          low = λ b l. ended.unwritten.low b l;
          behind = λ b l. ended.unwritten.behind b l;
        };
      })
      by (Some q) kind =
          let some = some_report e q kind in
          let none : length (report_of e) ≡ 0 = ap length (sym ended.report_is ∙ empty) in
          absurd (omega (arith, some))

-- ---- a run that goes on

-- the routine gives its result behind the status, and leaves that alone
module _ (s : CallSite) (a n : ℕ) (result : Holder) (scratch : ℕ) (behind_status : AreResults a n (registers_of result))
    (own : a + 1 + n ≤ scratch) where
  pub went_on : (g : Views) (k : Keys) (IsGood : Bytes → Type 0) (x : Source) (w : ℕ) (v : Value) (x' : Source)
      (z : State) (stage : Stage) → HasGiven g k IsGood result scratch x (begins_in s a) v x' z
      → HasReturned s a n (z.values a) z stage → z.work ≤ (begins_in s a).work + w
      → HasCompleted g k IsGood result s a n (16 + 2 * (a + (1 + n)) + 1 + cleared_registers + w) x v x' stage
  went_on g k IsGood x w v x' z stage given back work = record {
    behind = behind s a n (z.values a) z stage back (16 + 2 * (a + (1 + n)) + 1 + cleared_registers + w) given.turns (omega arith);
    status = back.status_is
        ∙ given.others a (omega arith) (none_of_results a n (registers_of result) behind_status)
        ∙ status_is_zero s a;
    keys_after = given.keys;
    kept = given.held;
    stands = returned_for s a n (z.values a) z stage back g given.keys IsGood x' given.stands;
    given = result_given s a n (z.values a) z stage back g given.keys result v behind_status given.given;
    elsewhere = record {
      low = λ b l out. ap (λ (q : Bytes). q b) (memory_is s a n (z.values a) z stage back)
          ∙ given.elsewhere.low b l out;
      behind = λ b l. ap (λ (q : Bytes). q b) (memory_is s a n (z.values a) z stage back)
          ∙ given.elsewhere.behind b l;
    };
  }

-- ---- an action

module _ (m : MapSizes) (entry : View) (IsGood : Bytes → Type 0) (P : Source → List Value → Type 0)
    (at_line : ℕ → List Value → Run Value) (face : Interface) (p : FlatProgram) (s : CallSite) (fn : FlatFunction)
    (a n : ℕ) (act : IsActionFunction m entry IsGood P at_line face a n fn)
    (h : CallsRuntime m p s fn act.routine a n) (functions : ℕ) (types : ℕ → ℕ) (k : Keys) (x : Source)
    (vs : List Value) (line : ℕ) where
  abbrev g : Views
  g = views_of m functions types entry

  abbrev f : State
  f = begins_in s a

  abbrev steps : ℕ
  steps = face.constant + face.factor * work_of (at_line 1 vs) x

  abbrev cost : ℕ
  cost = work_of_call a n face.price steps

  abbrev Q : Completed Value → Stage → Type 0
  Q = IsServed g k IsGood face.result s a n cost line x

  by_outcome : (o : Completed Value) (out : Outcome) (stage : Stage)
      → Leaves g k IsGood face.result face.scratch x f o out
      → work_left out ≤ f.work + (face.price * steps + report_length out) → IsCalled s a n out stage
      → Q (outcome_at line o) stage
  by_outcome (Gives v x') (Continues z) stage l w called =
      went_on s a n face.result face.scratch act.laid.given act.laid.own g k IsGood x (face.price * steps) v x' z stage l
      called (omega arith)
  by_outcome (Ended e x') (Halts status report z) stage l w called =
      told s a n line (face.price * steps) e x' status report z stage l called w
  by_outcome (Gives v x') (Halts status report z) stage l w called = absurd l
  by_outcome (Ended e x') (Continues z) stage l w called = absurd l
  by_outcome (Paused x') out stage l w called = absurd l

  -- ---- the call

  pub at_one : IsReady g k IsGood face s x vs → P x vs
      → ComesBehind m p s (steps + calling_steps) (Q (outcome_at line (at_line 1 vs x)))
  at_one ready premise =
      let held = arguments_held s a g k x.objects face.arguments vs act.laid.taken ready.held in
      let t = serves_in_runtime m p s fn act.routine a n h
      (λ f. IsFor g k IsGood x f × AreHeldBy g k x.objects face.arguments vs f.values × P x vs)
      (λ f. steps) (λ f. Leaves g k IsGood face.result face.scratch x f (at_line 1 vs x))
      (act.does functions types k x vs) ready.words
      (begins_for s a g k IsGood x ready.stands, held, premise) in
      let work = t.work in
      let price : price_of act.routine * steps ≤ face.price * steps = mul-le _ _ _ _ act.priced (omega arith) in
      record {
        steps = t.comes.steps;
        within = t.comes.within;
        stage = t.comes.stage;
        comes = t.comes.comes;
        holds = by_outcome (at_line 1 vs x) t.outcome t.comes.stage t.holds (omega arith) t.comes.called;
      }

  -- as the run does at the line of the call
  pub served : RunsAlikeAt line (at_line 1 vs) (at_line line vs) → IsReady g k IsGood face s x vs → P x vs
      → ServesCall m p g k IsGood face s a n line x (at_line line vs)
  served alike ready premise =
      let same = alike.by x in
      let work : work_of (at_line line vs) x ≡ work_of (at_line 1 vs) x =
      ap (λ o. (state_of o).work - x.work) same ∙ ap (λ (y : Source). y.work - x.work) (same_state line (at_line 1 vs x)) in
      subst (λ o. ComesBehind m p s (steps_of face (at_line line vs) x + calling_steps) (IsServed g k IsGood face.result s a n
      (work_of_call a n face.price (steps_of face (at_line line vs) x)) line x o)) (sym same)
      (subst (λ w. ComesBehind m p s (face.constant + face.factor * w + calling_steps) (IsServed g k IsGood face.result s a n
      (work_of_call a n face.price (face.constant + face.factor * w)) line x (outcome_at line (at_line 1 vs x))))
      (sym work) (at_one ready premise))
