-- The functions that a print is put together of do what the source does.
use Rattle.std.proofs.Common.{◌≡◌, ℕ, zero, suc, ◌+◌, ◌-◌, ◌*◌, ◌%◌, ◌^◌, ◌≤◌, ◌==◌, List, [], ◌++◌}
use Rattle.std.proofs.Common.{true, length, refl, sym, ap, ◌∙◌, subst, arith}
use Rattle.std.proofs.lemmas.Nat.{mul-le}
use Rattle.sb_base.specs.declared.ending.Ending.TheVariants.{Spatial}
use Rattle.sb_base.specs.Endings.{code_of}
use Rattle.addr_map.specs.Places.{MapSizes}
use Rattle.obj_memory.specs.declared.value.Value.{Value}
use Rattle.obj_memory.specs.Judgement.{moved}
use Rattle.c_tree.specs.declared.format.Directive.{Directive}
use Rattle.source_meaning.specs.State.{State as Source, Outcome as Completed, Gives, Ended, Paused, Run, stop}
use Rattle.source_meaning.specs.Acting.{state_of}
use Rattle.source_meaning.specs.Bytes.{look}
use Rattle.source_meaning.specs.Strings.{reach, scan_within, scan}
use Rattle.source_meaning.specs.Lines.{RunsAlikeAt, outcome_at}
use Rattle.source_meaning.proofs.Lines.{lines_on, lines_done, lines_choose, lines_basic, lines_located}
use Rattle.flat_code.specs.declared.instruction.FlatInstruction.{FlatInstruction}
use Rattle.flat_code.specs.declared.function.FlatFunction.{FlatFunction}
use Rattle.flat_code.specs.declared.function.FlatProgram.{FlatProgram}
use Rattle.flat_code.specs.Memory.{Bytes}
use Rattle.flat_code.specs.State.{State, Stage}
use Rattle.flat_code.specs.Routines.Routine.{Outcome, Continues, Halts, Does, Either, Never}
use Rattle.flat_code.specs.Routines.Laws.{work_of as work_left, report_length}
use Rattle.flat_code.specs.Routines.Metadata.{View}
use Rattle.flat_code.specs.Routines.Objects.StandsFor.{Views, Keys, StandsFor}
use Rattle.flat_actions.specs.Actions.{views_of, runtime_basis, Pointer, IsHeldBy, IsFor, HasEnded, work_of}
use Rattle.flat_actions.specs.Scanning.{IsWorked, HasScanned, IsScanned, IsScanRoutine}
use Rattle.flat_actions.proofs.Standing.{for_still, for_worked, good_still}
use Rattle.lib_wrappers.specs.StringRoutines.Putting.{bytes_from, IsToPut, HasPut, IsPutRoutine}
use Rattle.lib_wrappers.specs.PrintingRoutines.Digits.{HasPrinted}
use Rattle.lib_wrappers.specs.PrintingRoutines.Numbers.{number_bytes, IsNumberRoutine}
use Rattle.lib_wrappers.proofs.StringRoutines.AfterScan.{over}
use Rattle.lib_wrappers.proofs.StringRoutines.Between.{scanned_range}
use Rattle.lib_wrappers.proofs.StringRoutines.PutLoop.{same_bytes, range_to_put}
use Rattle.lib_wrappers.proofs.PrintingRoutines.Scans.{number_done}
use Rattle.runtime_functions.specs.Calls.{CallSite, begins_in, CallsRuntime, HasReturned, IsCalled, calling_steps}
use Rattle.runtime_functions.specs.Library.{held_from}
use Rattle.runtime_functions.specs.Actions.{price_of, work_of_call, ComesBehind}
use Rattle.runtime_functions.specs.Printing.{HasGoneBehind, IsToScan, IsScanServed}
use Rattle.runtime_functions.specs.Printing.{scanning_steps, ServesScan, IsToPutBytes, with_bytes, putting_steps}
use Rattle.runtime_functions.specs.Printing.{ServesPut, IsToPutArgument, HasPutArgument, number_steps, ServesArgument}
use Rattle.runtime_functions.proofs.Actions.{serves_in_runtime, begins_for, argument_at, argument_held}
use Rattle.runtime_functions.proofs.Actions.{status_is_zero, result_is, memory_is, returned_for, behind, told}
use Rattle.runtime_functions.proofs.Actions.{same_state}
use Rattle.runtime_functions.proofs.LibraryCalls.{price_at_most}

-- ---- a scan does the same at each line

module _ (l m : ℕ) where
  lines_look : (p : Value) → RunsAlikeAt m (look p l) (look p m)
  lines_look p = search (lines_basic, lines_located)

  lines_within : (k : ℕ) (p : Value)
      → RunsAlikeAt m (scan_within k (stop (Spatial l)) p l) (scan_within k (stop (Spatial m)) p m)
  lines_within zero p = record { by = λ s. refl }
  lines_within (suc k) p =
      lines_on (lines_look p) (λ byte. lines_choose (byte == 0) lines_done
      (lines_on (lines_within k (moved 1 p)) (λ bytes. lines_done)))

  lines_scan : (v : Value) → RunsAlikeAt m (scan v l) (scan v m)
  lines_scan v = lines_within (reach v) v

-- ---- a string is scanned

module _ (m : MapSizes) (entry : View) (IsGood : Bytes → Type 0) (p : FlatProgram) (s : CallSite) (fn : FlatFunction)
    (r : List FlatInstruction) (h : CallsRuntime m p s fn r 5 1)
    (does : IsScanRoutine (runtime_basis m entry IsGood) (λ v. scan v 1) (held_from 0) (λ s. Unit {0}) 6 7 r)
    (functions : ℕ) (types : ℕ → ℕ) (k : Keys) (x : Source) (v : Value) (line : ℕ) where
  abbrev g : Views
  g = views_of m functions types entry

  abbrev f : State
  f = begins_in s 5

  abbrev steps : ℕ
  steps = scanning_steps v 1 x

  abbrev Q : Completed (List ℕ) → Stage → Type 0
  Q = IsScanServed g k IsGood s (work_of_call 5 1 2 steps) line v

  module _ (ready : IsToScan g k IsGood s x v) where
    begun : IsFor g k IsGood x f
    begun = begins_for s 5 g k IsGood x ready.stands

    found : (bytes : List ℕ) (x' : Source) (z : State) (stage : Stage) → scan v 1 x ≡ Gives bytes x' → IsWorked x x'
        → HasScanned v.word bytes 6 7 f z → HasReturned s 5 1 (z.values 5) z stage
        → z.work ≤ f.work + (2 * steps + 0) → Q (Gives bytes x') stage
    found bytes x' z stage is worked i back work = record {
      gone = record {
        behind = behind s 5 1 (z.values 5) z stage back (work_of_call 5 1 2 steps) i.shows.turns (omega arith);
        status = back.status_is
            ∙ i.others 5 (omega arith) ((λ e. omega (arith, e)), tt)
            ∙ status_is_zero s 5;
        stands = returned_for s 5 1 (z.values 5) z stage back g k IsGood x'
            (subst (λ y. IsFor g k IsGood y z) (sym worked.same)
            (for_worked g k IsGood x x'.work z (for_still g k IsGood x f z i.memory i.shows begun)));
        memory = memory_is s 5 1 (z.values 5) z stage back ∙ i.memory;
      };
      end_is = result_is s 5 1 (z.values 5) z stage back 6 (omega arith, omega arith) ∙ i.cursor_is;
      found = record {
        range = scanned_range g k 1 x v bytes x' f.memory begun.objects ready.held.1 is;
        there = i.there;
      };
    }

    by_outcome : (o : Completed (List ℕ)) → scan v 1 x ≡ o → (out : Outcome) (stage : Stage)
        → IsScanned v.word 6 7 x f o out → work_left out ≤ f.work + (2 * steps + report_length out)
        → IsCalled s 5 1 out stage → Q (outcome_at line o) stage
    by_outcome (Gives bytes x') is (Continues z) stage l w called = found bytes x' z stage is l.0 l.1 called w
    by_outcome (Ended e x') is (Halts status report z) stage l w called =
        told s 5 1 line (2 * steps) e x' status report z stage
        (subst (λ a. HasEnded m e x' a report f z) (sym l.0)
        (subst (λ a. HasEnded m e x' (code_of e) a f z) (sym l.1) (over x x' e f z begun.shown l.2 l.3))) called w
    by_outcome (Gives bytes x') is (Halts status report z) stage l w called = absurd l
    by_outcome (Ended e x') is (Continues z) stage l w called = absurd l
    by_outcome (Paused x') is out stage l w called = absurd l

    at_one : ComesBehind m p s (steps + calling_steps) (Q (outcome_at line (scan v 1 x)))
    at_one =
        let held = argument_held s 5 g k x.objects (Pointer (held_from 0)) v
        (omega arith, (omega arith, (omega arith, (omega arith, (omega arith, tt))))) ready.held in
        let t = serves_in_runtime m p s fn r 5 1 h
        (λ f. IsFor g k IsGood x f × IsHeldBy g k x.objects (Pointer (held_from 0)) v f.values × Unit {0})
        (λ f. steps) (λ f. IsScanned v.word 6 7 x f (scan v 1 x))
        (does functions types k x v) ready.words (begun, held, tt) in
        let work = t.work in
        let price : price_of r * steps ≤ 2 * steps = mul-le _ _ _ _ (price_at_most r) (omega arith) in
        record {
          steps = t.comes.steps;
          within = t.comes.within;
          stage = t.comes.stage;
          comes = t.comes.comes;
          holds = by_outcome (scan v 1 x) refl t.outcome t.comes.stage t.holds (omega arith) t.comes.called;
        }

    pub scan_served : ServesScan m p g k IsGood s v line x
    scan_served =
        let same = (lines_scan 1 line v).by x in
        let work : work_of (scan v line) x ≡ work_of (scan v 1) x =
        ap (λ o. (state_of o).work - x.work) same
        ∙ ap (λ (y : Source). y.work - x.work) (same_state line (scan v 1 x)) in
        subst (λ o. ComesBehind m p s (scanning_steps v line x + calling_steps) (IsScanServed g k IsGood s
        (work_of_call 5 1 2 (scanning_steps v line x)) line v o)) (sym same)
        (subst (λ w. ComesBehind m p s (16 + 8 * w + calling_steps) (IsScanServed g k IsGood s
        (work_of_call 5 1 2 (16 + 8 * w)) line v (outcome_at line (scan v 1 x))))
        (sym work) at_one)

-- ---- bytes are put out

-- a state stands for the source's where just these were put out
put_for : (g : Views) (k : Keys) (IsGood : Bytes → Type 0) (x : Source) (bytes : List ℕ) (f z : State)
    → IsFor g k IsGood x f → z.memory ≡ f.memory → z.output ≡ f.output ++ bytes → z.input ≡ f.input → z.taken ≡ f.taken
    → z.accesses ≡ f.accesses → IsFor g k IsGood (with_bytes bytes x) z
put_for g k IsGood x bytes f z h memory output input taken accesses = record {
  objects = subst (StandsFor g k x.objects) (sym memory) h.objects;
  spaces = good_still g.sizes IsGood f.memory z.memory memory h.spaces;
  keys = h.keys;
  shown = record {
    input = input ∙ h.shown.input;
    output = output ∙ ap (λ o. o ++ bytes) h.shown.output;
    taken = taken ∙ h.shown.taken;
    accesses = accesses ∙ h.shown.accesses;
  };
}

module _ (m : MapSizes) (entry : View) (IsGood : Bytes → Type 0) (p : FlatProgram) (s : CallSite) (fn : FlatFunction)
    (r : List FlatInstruction) (h : CallsRuntime m p s fn r 2 0) (does : IsPutRoutine m 0 1 3 r)
    (functions : ℕ) (types : ℕ → ℕ) (k : Keys) (x : Source) (a : ℕ) (bytes : List ℕ)
    (ready : IsToPutBytes (views_of m functions types entry) k IsGood s x a bytes) where
  abbrev views : Views
  views = views_of m functions types entry

  abbrev starts : State
  starts = begins_in s 2

  abbrev put_steps : ℕ
  put_steps = putting_steps bytes

  abbrev Put : Stage → Type 0
  Put = HasGoneBehind views k IsGood s 0 (work_of_call 2 0 2 put_steps) (with_bytes bytes x)

  first_is : starts.values 0 ≡ a
  first_is = argument_at s 2 0 s.first (omega arith) (omega arith) ∙ ready.from

  put_out : (o : Outcome) (stage : Stage) → Either (HasPut 0 (length bytes) 3 starts) Never o
      → work_left o ≤ starts.work + (2 * put_steps + report_length o) → IsCalled s 2 0 o stage → Put stage
  put_out (Continues z) stage i w back =
      let shown : bytes_from (length bytes) s.state.memory (starts.values 0) ≡ bytes =
      ap (bytes_from (length bytes) s.state.memory) first_is ∙ same_bytes s.state.memory a bytes ready.there.there in
      record {
        behind = behind s 2 0 (z.values 2) z stage back (work_of_call 2 0 2 put_steps) i.turns (omega arith);
        status = back.status_is ∙ i.others 2 (omega arith) tt ∙ status_is_zero s 2;
        stands = returned_for s 2 0 (z.values 2) z stage back views k IsGood (with_bytes bytes x)
            (put_for views k IsGood x bytes starts z (begins_for s 2 views k IsGood x ready.stands) i.memory
            (i.output ∙ ap (λ b. s.state.output ++ b) shown) i.input i.taken i.accesses);
        memory = memory_is s 2 0 (z.values 2) z stage back ∙ i.memory;
      }
  put_out (Halts status report z) stage i w called = absurd i

  pub put_served : ServesPut m p views k IsGood s bytes x
  put_served =
      let last = argument_at s 2 1 (s.first + 1) (omega arith) (omega arith) ∙ ready.to in
      let first = first_is in
      let t = serves_in_runtime m p s fn r 2 0 h (IsToPut m 0 1 (length bytes)) (λ f. put_steps)
      (λ f. Either (HasPut 0 (length bytes) 3 f) Never) (does (length bytes)) ready.words
      (range_to_put m 0 1 (length bytes) starts
      (record {
        first = (let l = ready.there.range.first in omega arith);
        last = (let l = ready.there.range.last in omega arith);
      }) (omega arith)) in
      let work = t.work in
      let price : price_of r * put_steps ≤ 2 * put_steps = mul-le _ _ _ _ (price_at_most r) (omega arith) in
      record {
        steps = t.comes.steps;
        within = t.comes.within;
        stage = t.comes.stage;
        comes = t.comes.comes;
        holds = put_out t.outcome t.comes.stage t.holds (omega arith) t.comes.called;
      }

-- ---- an argument is put out

-- what is given
abbrev given_bytes : Completed (List ℕ) → List ℕ
given_bytes (Gives bytes x) = bytes
given_bytes (Ended e x) = []
given_bytes (Paused x) = []

module _ (m : MapSizes) (entry : View) (IsGood : Bytes → Type 0) (p : FlatProgram) (s : CallSite) (fn : FlatFunction)
    (r : List FlatInstruction) (h : CallsRuntime m p s fn r 1 1) (d : Directive) (does : IsNumberRoutine m d 0 2 3 r)
    (functions : ℕ) (types : ℕ → ℕ) (k : Keys) (x : Source) (v : Value) (line : ℕ) (bytes : List ℕ)
    (ready : IsToPutArgument (views_of m functions types entry) k IsGood s x d v line bytes) where
  abbrev its : Views
  its = views_of m functions types entry

  abbrev enters : State
  enters = begins_in s 1

  abbrev all_steps : ℕ
  all_steps = number_steps bytes

  abbrev Shown : Stage → Type 0
  Shown = HasPutArgument its k IsGood s (work_of_call 1 1 2 all_steps) bytes (with_bytes bytes x)

  bytes_are : number_bytes d v.word ≡ bytes
  bytes_are = ap (λ (q : Run (List ℕ)). given_bytes (q x)) (sym (number_done d v line ready.no_string))
      ∙ ap given_bytes ready.bytes_are

  none_yet : enters.values 2 ≡ 0
  none_yet = refl

  number_out : (o : Outcome) (stage : Stage) → Either (HasPrinted bytes 2 3 enters) Never o
      → work_left o ≤ enters.work + (2 * all_steps + report_length o) → IsCalled s 1 1 o stage → Shown stage
  number_out (Continues z) stage i w back = record {
    gone = record {
      behind = behind s 1 1 (z.values 1) z stage back (work_of_call 1 1 2 all_steps) i.turns (omega arith);
      status = back.status_is ∙ i.others 1 (omega arith) ((λ e. omega (arith, e)), tt) ∙ status_is_zero s 1;
      stands = returned_for s 1 1 (z.values 1) z stage back its k IsGood (with_bytes bytes x)
          (put_for its k IsGood x bytes enters z (begins_for s 1 its k IsGood x ready.stands) i.memory i.output i.input
          i.taken i.accesses);
      memory = memory_is s 1 1 (z.values 1) z stage back ∙ i.memory;
    };
    counted = result_is s 1 1 (z.values 1) z stage back 2 (omega arith, omega arith)
        ∙ i.counted
        ∙ ap (λ c. (c + length bytes) % 2 ^ 64) none_yet
        ∙ omega arith;
  }
  number_out (Halts status report z) stage i w called = absurd i

  pub number_served : ServesArgument m p its k IsGood s bytes x
  number_served =
      let held = argument_at s 1 0 s.first (omega arith) (omega arith) ∙ ready.held in
      let t = serves_in_runtime m p s fn r 1 1 h (λ f. f.values 0 ≡ v.word) (λ f. all_steps)
      (λ f. Either (HasPrinted bytes 2 3 f) Never)
      (subst (λ b. (charge weight : ℕ) → Does (record { sizes = m; is_runtime = true; charge = charge; weight = weight }) r
      (λ f. f.values 0 ≡ v.word) (λ f. 12 + 15 * length b) (λ f. Either (HasPrinted b 2 3 f) Never)) bytes_are
      (does v.word)) ready.words held in
      let work = t.work in
      let price : price_of r * all_steps ≤ 2 * all_steps = mul-le _ _ _ _ (price_at_most r) (omega arith) in
      record {
        steps = t.comes.steps;
        within = t.comes.within;
        stage = t.comes.stage;
        comes = t.comes.comes;
        holds = number_out t.outcome t.comes.stage t.holds (omega arith) t.comes.called;
      }
