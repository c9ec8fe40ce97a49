-- A call of the function that makes the objects of a block.
use Rattle.std.proofs.Common.{◌≡◌, ℕ, ◌+◌, ◌-◌, ◌*◌, ◌≤◌, List, [], ◌∷◌}
use Rattle.std.proofs.Common.{sym, ap, ◌∙◌, subst, arith}
use Rattle.std.proofs.lemmas.Nat.{mul-le}
use Rattle.addr_map.specs.Places.{MapSizes}
use Rattle.c_tree.specs.declared.program.Variable.{Variable}
use Rattle.source_meaning.specs.State.{State as Source, Outcome as Completed, Gives, Ended, Paused, Setting}
use Rattle.source_meaning.specs.Acting.{state_of}
use Rattle.source_meaning.specs.Blocks.{Block, enter_block}
use Rattle.source_meaning.specs.Lines.{RunsAlikeAt, outcome_at}
use Rattle.flat_code.specs.declared.instruction.FlatInstruction.{FlatInstruction}
use Rattle.flat_code.specs.declared.function.FlatFunction.{FlatFunction}
use Rattle.flat_code.specs.declared.function.FlatProgram.{FlatProgram}
use Rattle.flat_code.specs.Memory.{Bytes}
use Rattle.flat_code.specs.State.{State, Stage}
use Rattle.flat_code.specs.Routines.Registers.{IsNoneOf}
use Rattle.flat_code.specs.Routines.Routine.{Outcome, Continues, Halts}
use Rattle.flat_code.specs.Routines.Laws.{work_of as work_left, report_length}
use Rattle.flat_code.specs.Routines.InputOutput.{IsWithoutInputOutput}
use Rattle.flat_code.specs.Routines.Metadata.{View}
use Rattle.flat_code.specs.Routines.Objects.StandsFor.{Views, Keys}
use Rattle.flat_actions.specs.Actions.{views_of, IsFor, work_of}
use Rattle.lib_wrappers.specs.AllocatingRoutines.Entering.{block_bytes, AreOfLock, CanEnter, HasEntered, IsEntered}
use Rattle.lib_wrappers.specs.AllocatingRoutines.Entering.{IsEnterRoutine}
use Rattle.runtime_functions.specs.Calls.{CallSite, begins_in, CallsRuntime, HasReturned, IsCalled, calling_steps}
use Rattle.runtime_functions.specs.Actions.{price_of, work_of_call, ComesBehind}
use Rattle.runtime_functions.specs.Runtime.{entered_registers}
use Rattle.runtime_functions.specs.Entering.{IsToEnter, IsBlockServed, entering_steps, ServesBlock}
use Rattle.runtime_functions.proofs.Actions.{serves_in_runtime, begins_for, argument_is, status_is_zero, result_is}
use Rattle.runtime_functions.proofs.Actions.{memory_is}
use Rattle.runtime_functions.proofs.LibraryCalls.{price_alone}
use Rattle.runtime_functions.proofs.Actions.{returned_for, behind, told, same_state}

module _ (m : MapSizes) (entry : View) (IsGood : Bytes → Type 0) (p : FlatProgram) (s : CallSite) (fn : FlatFunction)
    (r : List FlatInstruction) (h : CallsRuntime m p s fn r 2 4)
    (does : IsEnterRoutine m entry IsGood 0 1 entered_registers 1 7 r) (alone : IsWithoutInputOutput r) (set : Setting)
    (sizes : set.sizes ≡ m) (functions : ℕ) (types : ℕ → ℕ) (k : Keys) (x : Source) (vs : List Variable) (line : ℕ) where
  abbrev g : Views
  g = views_of m functions types entry

  abbrev f : State
  f = begins_in s 2

  abbrev steps : ℕ
  steps = entering_steps set vs 1 x

  abbrev cost : ℕ
  cost = work_of_call 2 4 1 steps

  abbrev Q : Completed Block → Stage → Type 0
  Q = IsBlockServed g k IsGood s cost line x

  two_is_none : IsNoneOf 2 (3 ∷ 4 ∷ 5 ∷ 6 ∷ [])
  two_is_none = (λ q. omega (arith, q), (λ q. omega (arith, q), (λ q. omega (arith, q), (λ q. omega (arith, q), tt))))

  entered : (b : Block) (x' : Source) (z : State) (stage : Stage)
      → HasEntered g k IsGood entered_registers 7 x f b.homes x' z → HasReturned s 2 4 (z.values 2) z stage
      → z.work ≤ f.work + (1 * steps + 0) → Q (Gives b x') stage
  entered b x' z stage e back work =
      let result = result_is s 2 4 (z.values 2) z stage back in
      let first = result 3 (omega arith, omega arith) in
      let end = result 4 (omega arith, omega arith) in
      let key = result 5 (omega arith, omega arith) in
      let lock = result 6 (omega arith, omega arith) in
      let memory = memory_is s 2 4 (z.values 2) z stage back in
      record {
        behind = behind s 2 4 (z.values 2) z stage back cost e.turns (omega arith);
        status = back.status_is
            ∙ e.others 2 (omega arith) two_is_none
            ∙ status_is_zero s 2;
        keys_after = e.keys;
        kept = e.held;
        stands = returned_for s 2 4 (z.values 2) z stage back g e.keys IsGood x' e.stands;
        first_is = first ∙ e.first_is;
        end_is = end ∙ e.end_is;
        key_is = key ∙ e.key_is;
        share = λ n l. e.share n l ∙ ap (λ (q : ℕ). record { key = q; lock = z.values 6 }) (sym key)
            ∙ ap (λ (q : ℕ). record { key = back.after.values (s.into + 3); lock = q }) (sym lock);
        of_lock = subst (AreOfLock e.keys x' b.homes) (sym lock) e.of_lock;
        low = λ a l out. ap (λ (q : Bytes). q a) memory ∙ e.low a l out;
        elsewhere = λ a l. ap (λ (q : Bytes). q a) memory ∙ e.behind a l;
      }

  by_outcome : (o : Completed Block) (out : Outcome) (stage : Stage)
      → IsEntered g k IsGood entered_registers 7 x f o out
      → work_left out ≤ f.work + (1 * steps + report_length out) → IsCalled s 2 4 out stage
      → Q (outcome_at line o) stage
  by_outcome (Gives b x') (Continues z) stage l w called = entered b x' z stage l called w
  by_outcome (Ended e x') (Halts status report z) stage l w called =
      told s 2 4 line (1 * steps) e x' status report z stage l called w
  by_outcome (Gives b x') (Halts status report z) stage l w called = absurd l
  by_outcome (Ended e x') (Continues z) stage l w called = absurd l
  by_outcome (Paused x') out stage l w called = absurd l

  abbrev P : State → Type 0
  P = λ f. IsFor g k IsGood x f × (f.values 0 ≡ x.stacked) × (f.values 1 ≡ block_bytes vs) × CanEnter m vs x

  at_one : IsToEnter m g k IsGood s x vs → ComesBehind m p s (steps + calling_steps) (Q (outcome_at line (enter_block set vs 1 x)))
  at_one ready =
      let top : s.first + 0 ≡ s.first = omega arith in
      let t = serves_in_runtime m p s fn r 2 4 h P (λ f. steps)
      (λ f. IsEntered g k IsGood entered_registers 7 x f (enter_block set vs 1 x))
      (does set sizes functions types k x vs) ready.words (
        begins_for s 2 g k IsGood x ready.stands,
        argument_is s 2 0 (omega arith) ∙ ap s.state.values top ∙ ready.top,
        argument_is s 2 1 (omega arith) ∙ ready.bytes,
        ready.can,
      ) in
      let work = t.work in
      let price : price_of r * steps ≤ 1 * steps = mul-le _ _ _ _ (price_alone r alone) (omega arith) in
      record {
        steps = t.comes.steps;
        within = t.comes.within;
        stage = t.comes.stage;
        comes = t.comes.comes;
        holds = by_outcome (enter_block set vs 1 x) t.outcome t.comes.stage t.holds (omega arith) t.comes.called;
      }

  pub entered_at_line : RunsAlikeAt line (enter_block set vs 1) (enter_block set vs line)
      → IsToEnter m g k IsGood s x vs → ServesBlock m p g k IsGood s set vs line x
  entered_at_line alike ready =
      let same = alike.by x in
      let work : work_of (enter_block set vs line) x ≡ work_of (enter_block set vs 1) x =
      ap (λ o. (state_of o).work - x.work) same
      ∙ ap (λ (y : Source). y.work - x.work) (same_state line (enter_block set vs 1 x)) in
      subst (λ o. ComesBehind m p s (entering_steps set vs line x + calling_steps) (IsBlockServed g k IsGood s
      (work_of_call 2 4 1 (entering_steps set vs line x)) line x o)) (sym same)
      (subst (λ w. ComesBehind m p s (100 + 40 * w + calling_steps) (IsBlockServed g k IsGood s
      (work_of_call 2 4 1 (100 + 40 * w)) line x (outcome_at line (enter_block set vs 1 x))))
      (sym work) (at_one ready))
