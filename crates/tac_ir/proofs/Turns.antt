-- A step begins at most one turn, and code that follows a source is never stuck.
use Rattle.std.proofs.Common.{◌≡◌, ℕ, ◌+◌, ◌-◌, ◌*◌, ◌≤◌, List, [], ◌∷◌, length, Option, Some, None, Bool, true, false}
use Rattle.std.proofs.Common.{refl, ap, ◌∙◌}
use Rattle.std.proofs.Common.{arith}
use Rattle.std.specs.Prelude.{◌==◌, slice_get, get_or}
use Rattle.behaviours.specs.Shown.{End}
use Rattle.behaviours.specs.Behaviour.{Behaviour, Follows, IsSource}
use Rattle.behaviours.specs.Steps.{run, IsStepping}
use Rattle.behaviours.proofs.Running.{never_stuck}
use Rattle.sb_base.specs.Budgets.{BudgetSizes}
use Rattle.obj_memory.specs.declared.value.Value.{Value}
use Rattle.obj_memory.specs.Objects.{Objects}
use Rattle.obj_memory.specs.Access.{scalar_size}
use Rattle.c_tree.specs.declared.expression.Kind.{Kind}
use Rattle.c_tree.specs.declared.expression.Kind.TheVariants.{Void, Scalar as OfScalar, Structure, Array}
use Rattle.c_tree.specs.Kinds.{size_of_kind}
use Rattle.source_meaning.specs.State.{State, Rvalue, NoObject, Outcome, Gives, Ended, Paused, Run, Setting}
use Rattle.source_meaning.specs.Actions.{updated, home_pointer}
use Rattle.source_meaning.specs.Structures.{as_rvalue, values_of}
use Rattle.source_meaning.specs.Initializers.{zero_variable}
use Rattle.source_meaning.specs.Expressions.{callee}
use Rattle.source_meaning.specs.Blocks.{pass_or_stop}
use Rattle.sb_base.specs.declared.ending.Ending.{Ending}
use Rattle.sb_base.specs.declared.ending.Ending.TheVariants as ending
use Rattle.source_meaning.specs.Calls.{set_up}
use Rattle.source_meaning.specs.Judging.{is_within}
use Rattle.source_meaning.specs.Acting.{at_work, Advances, ActsBy, IsAction}
use Rattle.source_meaning.proofs.Acting.{acts_then, acts_on, acts_done, acts_skip, acts_stop, acts_read, acts_tally}
use Rattle.source_meaning.proofs.ActionsAct.{acts_update_plain, acts_operate, acts_updated, acts_update}
use Rattle.source_meaning.proofs.ActionsAct.{acts_take_value, acts_read_rvalue, acts_write_rvalue, acts_callee}
use Rattle.source_meaning.proofs.ActionsAct.{acts_set_up, acts_enter_block, acts_zero_variable, acts_store_bytes}
use Rattle.source_meaning.proofs.LibraryActs.{acts_routine, acts_print}
use Rattle.tac_ir.specs.declared.instruction.Mode.{Mode}
use Rattle.tac_ir.specs.declared.instruction.Mode.TheVariants.{Named, Unchecked, Judged}
use Rattle.tac_ir.specs.declared.instruction.Test.{Test}
use Rattle.tac_ir.specs.declared.instruction.Test.TheVariants.{Spatial, Temporal}
use Rattle.tac_ir.specs.declared.instruction.Instruction.{Instruction}
use Rattle.tac_ir.specs.declared.instruction.Instruction.TheVariants.{SetPlain, UpdatePlain, Binary, Take, Read}
use Rattle.tac_ir.specs.declared.instruction.Instruction.TheVariants.{Write, Update, Judge, Zero, StorePart, StoreText}
use Rattle.tac_ir.specs.declared.instruction.Instruction.TheVariants.{Library, Print, Call, CallThrough, EnterBlock}
use Rattle.tac_ir.specs.declared.instruction.Instruction.TheVariants.{LeaveBlock, Return}
use Rattle.tac_ir.specs.declared.key.Key.{Key}
use Rattle.tac_ir.specs.declared.function.CodeFunction.{CodeFunction}
use Rattle.tac_ir.specs.declared.function.Tac.{Tac}
use Rattle.tac_ir.specs.Stage.{Temps, gathered, Frame, Waits, Entered, Stage, Begins, Stands, Over, Stuck, came, seen}
use Rattle.tac_ir.specs.Keys.{gives}
use Rattle.tac_ir.specs.Accesses.{only_if, can_check, is_live_at, is_there, is_place, admitted, moved_from, is_home}
use Rattle.tac_ir.specs.Accesses.{is_through}
use Rattle.tac_ir.specs.Costs.{cost, first_call, handing, spent, fourfold, heavier}
use Rattle.tac_ir.specs.Meaning.{objects_in, function_in, text_in, keyed_by, keyed, right_value, part_pointer, check}
use Rattle.tac_ir.specs.Meaning.{header_of_code, setting_of_code, given_to, left_for, called_at, called, fits, effect}
use Rattle.tac_ir.specs.Meaning.{act, act_at}
use Rattle.tac_ir.specs.Meaning.{at_node, step, first_stage, tac_meaning}

-- no more than so many turns are begun
abbrev pub Within : ℕ → Stage → Type 0
Within b x = (seen x).turns ≤ b

came_within : {A : Type 0} (b : ℕ) (o o' : Outcome A) (F : A → State → Stage) (k : ℕ) (s : State) → ActsBy k s o o'
    → s.turns ≤ b → ((a : A) (s' : State) → s'.turns ≤ b → Within b (F a s')) → Within b (came o F)
came_within b (Gives a s') o' F k s h le f = f a s' (let e = h.2.turns in omega arith)
came_within b (Ended e s') o' F k s h le f = let q = h.2.turns in omega arith
came_within b (Paused s') o' F k s h le f = absurd h

run_within : {A : Type 0} (b : ℕ) (r : Run A) (F : A → State → Stage) (s : State) → IsAction r → s.turns ≤ b
    → ((a : A) (s' : State) → s'.turns ≤ b → Within b (F a s')) → Within b (came (r s) F)
run_within b r F s h le f = came_within b (r s) (r (at_work 0 s)) F 0 s (h.acts s 0) le f

only_within : (b : ℕ) (q : Bool) (x : Stage) → Within b x → Within b (only_if q x)
only_within b true x h = h
only_within b false x h = omega arith

keyed_within : (b : ℕ) (keys : List Key) (key : Option ℕ) (s : State) (v : Value) (x : Stage) → Within b x
    → Within b (keyed keys key s v x)
keyed_within b keys None s v x h = h
keyed_within b keys (Some n) s v x h = by (slice_get keys n)
  where
    by : (key : Option Key) → Within b (keyed_by key s v x)
    by None = omega arith
    by (Some key) = only_within b (gives key s v) x h

admitted_within : (b : ℕ) (mode : Mode) (size : ℕ) (q : Rvalue) (objects : Objects) (x : Stage) → Within b x
    → Within b (admitted mode size q objects x)
admitted_within b Named size q objects x h = only_within b (is_there q.contents size q.value objects) x h
admitted_within b Unchecked size q objects x h = only_within b (is_place q.contents) x h
admitted_within b Judged size q objects x h = only_within b _ x h

moved_within : (b : ℕ) (kind : Kind) (v : Rvalue) (objects : Objects) (x : Stage) → Within b x
    → Within b (moved_from kind v objects x)
moved_within b Void v objects x h = h
moved_within b (OfScalar k) v objects x h = h
moved_within b (Structure n) v objects x h = only_within b (is_there v.contents n v.value objects) x h
moved_within b (Array n) v objects x h = h

given_within : (b : ℕ) (frames : List Frame) (v : Rvalue) (s : State) → s.turns ≤ b → Within b (given_to frames v s)
given_within b [] v s le = le
given_within b (Waits w ∷ frames) v s le = le
given_within b (Entered k q ∷ frames) v s le = omega arith

left_within : (b n u m : ℕ) (temps : Temps) (frames : List Frame) (s : State) → s.turns ≤ b
    → Within b (left_for n u m temps frames s)
left_within b n u m temps [] s le = omega arith
left_within b n u m temps (Waits w ∷ frames) s le = omega arith
left_within b n u m temps (Entered k q ∷ frames) s le = only_within b (k == n) _ le

pub acts_as : {r : Run Value} → IsAction r → IsAction (as_rvalue r)
acts_as h = acts_on h (λ v. acts_done)

spent_by : (k k' more : ℕ) (s s' : State) → Advances k k' s s'
    → Advances k (k' + more) s (record s' { work = s'.work + more })
spent_by k k' more s s' e = record {
  work = omega (arith, e.work);
  turns = e.turns;
  later = record {
    output = e.later.output;
    accesses = e.later.accesses;
    taken = e.later.taken;
    work = omega (arith, e.later.work);
    turns = e.later.turns;
    keys = e.later.keys;
    objects = e.later.objects;
  };
}

-- the code counts as much more as the source would
more_is_same : (k k' : ℕ) (s s' : State) → Advances k k' s s' → 3 * (k' - k) ≡ 3 * (s'.work - s.work)
more_is_same k k' s s' e = omega (arith, e.work, e.later.work)

heavier_by : {A : Type 0} (s : State) (k : ℕ) (o o' : Outcome A) → ActsBy k s o o'
    → ActsBy k s (fourfold s.work o) (fourfold k o')
heavier_by s k (Gives a s') o' h =
    let more = 3 * (s'.work - s.work) in (
      h.0 + more,
      ap (fourfold k) h.1
          ∙ ap (λ n. Gives a (record s' { work = h.0 + n })) (more_is_same k h.0 s s' h.2),
      spent_by k h.0 more s s' h.2,
    )
heavier_by s k (Ended e s') o' h =
    let more = 3 * (s'.work - s.work) in (
      h.0 + more,
      ap (fourfold k) h.1
          ∙ ap (λ n. Ended e (record s' { work = h.0 + n })) (more_is_same k h.0 s s' h.2),
      spent_by k h.0 more s s' h.2,
    )
heavier_by s k (Paused s') o' h = absurd h

-- a run that counts more is an action too
pub acts_heavier : {A : Type 0} {r : Run A} → IsAction r → IsAction (heavier r)
acts_heavier {r = r} h = record { acts = λ s k. heavier_by s k (r s) (r (at_work k s)) (h.acts s k) }

pub acts_pass_or_stop : (b : Bool) (e : Ending) → IsAction (pass_or_stop b e)
acts_pass_or_stop true e = acts_skip
acts_pass_or_stop false e = acts_stop

-- a check changes nothing
pub acts_check : (test : Test) (size : ℕ) (v : Value) (line : ℕ) → IsAction (check test size v line)
acts_check Spatial size v line = acts_pass_or_stop (is_within v.tag v.word size) (ending.Spatial line)
acts_check Temporal size v line = acts_on (acts_read (λ k s. refl)) (λ b. acts_pass_or_stop b (ending.Temporal line))

module _ (g : Setting) (t : Tac) where
  called_within : (b : ℕ) (c : Option CodeFunction) (f : ℕ) (vs : List Rvalue) (line : ℕ) (frames : List Frame)
      (s : State) → s.turns + 1 ≤ b → Within b (called_at g c f vs line frames s)
  called_within b None f vs line frames s le = omega arith
  called_within b (Some c) f vs line frames s le = run_within b (heavier (set_up g (header_of_code c) vs line)) _ _
      (acts_heavier (acts_set_up g (header_of_code c) vs line)) le (λ a s' le'. le')

  through_within : (b : ℕ) (s : State) (vs : List Rvalue) (line : ℕ) (frames : List Frame) (o o' : Outcome ℕ)
      → ActsBy 0 s o o' → s.turns + 1 ≤ b → Within b (came o (λ f s'. called g t f vs line frames s'))
  through_within b s vs line frames (Gives f s') o' h le = called_within b (function_in t f) f vs line frames s'
      (let e = h.2.turns in omega arith)
  through_within b s vs line frames (Ended e s') o' h le = let q = h.2.turns in omega arith
  through_within b s vs line frames (Paused s') o' h le = absurd h

  effect_within : (i : Instruction) (u : ℕ) (temps : Temps) (frames : List Frame) (s : State)
      → Within (s.turns + 1) (effect g t i u temps frames s)
  effect_within (SetPlain x a m) u temps frames s = omega arith
  effect_within (UpdatePlain w k f line d x right m) u temps frames s =
      run_within _ _ _ s (acts_as
      (acts_update_plain x (updated w k (right_value right temps) line) f
      (acts_updated w k (right_value right temps) line))) (omega arith) (λ v s' le. le)
  effect_within (Binary op ty line d a b m) u temps frames s =
      run_within _ _ _ s (acts_as (acts_operate op ty (temps a).value (temps b).value line)) (omega arith)
      (λ v s' le. le)
  effect_within (Take kind line d a m) u temps frames s =
      moved_within _ kind (temps a) s.objects _
      (run_within _ _ _ s (acts_heavier (acts_take_value kind line (temps a))) (omega arith) (λ v s' le. le))
  effect_within (Read kind mode line key d a m) u temps frames s =
      keyed_within _ _ key s (temps a).value _ (admitted_within _ mode (size_of_kind kind) (temps a) s.objects _
      (run_within _ _ _ s (acts_read_rvalue kind (is_through mode) (temps a) line) (omega arith) (λ v s' le. le)))
  effect_within (Write kind mode line key d a b m) u temps frames s =
      keyed_within _ _ key s (temps a).value _
      (admitted_within _ mode (size_of_kind kind) (temps a) s.objects _ (moved_within _ kind (temps b) s.objects _
      (run_within _ _ _ s (acts_heavier (acts_write_rvalue kind (is_through mode) (temps a).value line (temps b)))
      (omega arith) (λ v s' le. le))))
  effect_within (Update w k f mode line at key d a right m) u temps frames s =
      keyed_within _ _ key s (temps a).value _ (admitted_within _ mode (scalar_size k) (temps a) s.objects _
      (run_within _ _ _ s (acts_as
      (acts_update k (is_through mode) (temps a).value line w (right_value right temps) at f)) (omega arith)
      (λ v s' le. le)))
  effect_within (Judge test size line key a m) u temps frames s =
      keyed_within _ _ key s (temps a).value _ (only_within _ (can_check test size (temps a).value) _
      (run_within _ _ _ s (acts_check test size (temps a).value line) (omega arith) (λ v s' le. le)))
  effect_within (Zero x m) u temps frames s =
      only_within _ (is_home (get_or s.frame x NoObject) s.objects) _
      (run_within _ (heavier (zero_variable x)) _ s (acts_heavier (acts_zero_variable x)) (omega arith)
      (λ v s' le. le))
  effect_within (StorePart kind line x offset a m) u temps frames s =
      only_within _ (is_live_at (size_of_kind kind) (part_pointer x offset (size_of_kind kind) s) s.objects) _
      (moved_within _ kind (temps a) s.objects _
      (run_within _ _ _ s (acts_heavier
      (acts_write_rvalue kind false (part_pointer x offset (size_of_kind kind) s) line (temps a)))
      (omega arith) (λ v s' le. le)))
  effect_within (StoreText n x offset m) u temps frames s =
      only_within _ (is_live_at (offset + length (text_in t n)) (home_pointer x s) s.objects) _
      (run_within _ _ _ s (acts_heavier
      (acts_then (acts_tally _) (acts_store_bytes (home_pointer x s) offset (text_in t n)))) (omega arith)
      (λ v s' le. le))
  effect_within (Library r line d n m) u temps frames s =
      run_within _ _ _ s (acts_heavier (acts_as (acts_routine g r (values_of (gathered temps d n)) line)))
      (omega arith) (λ v s' le. le)
  effect_within (Print x line d n m) u temps frames s =
      run_within _ _ _ s (acts_heavier (acts_as (acts_print (text_in t x) (values_of (gathered temps d n)) line)))
      (omega arith) (λ v s' le. le)
  effect_within (Call f line d n m) u temps frames s = called_within (s.turns + 1) (function_in t f) f _ line _ s
      (omega arith)
  effect_within (CallThrough type_number line d n m) u temps frames s =
      through_within (s.turns + 1) s _ line _ (callee g.functions type_number (temps d).value line s) _
      ((acts_callee g.functions type_number (temps d).value line).acts s 0) (omega arith)
  effect_within (EnterBlock b line m) u temps frames s =
      run_within _ _ _ s (acts_heavier (acts_enter_block g (objects_in (function_in t u) b) line)) (omega arith)
      (λ v s' le. le)
  effect_within (LeaveBlock b m) u temps frames s = left_within (s.turns + 1) b u m temps frames s (omega arith)
  effect_within (Return a) u temps frames s = given_within (s.turns + 1) frames (temps a)
      (spent (handing (temps a)) s) (omega arith)
  effect_within i u temps frames s = omega arith

  act_within : (i : Instruction) (u : ℕ) (temps : Temps) (frames : List Frame) (s : State)
      → Within (s.turns + 1) (act g t i u temps frames s)
  act_within i u temps frames s = only_within _ (fits g t i u temps s) _ (effect_within i u temps frames s)

  act_at_within : (oi : Option Instruction) (u : ℕ) (temps : Temps) (frames : List Frame) (s : State)
      → Within (s.turns + 1) (act_at g t oi u temps frames s)
  act_at_within None u temps frames s = omega arith
  act_at_within (Some i) u temps frames s = act_within i u temps frames (spent (cost i) s)

  step_turns : (x : Stage) → (seen (step g t x)).turns ≤ (seen x).turns + 1
  step_turns (Begins s) = called_within (s.turns + 1) (function_in t t.main) t.main [] _ [] (spent first_call s)
      (omega arith)
  step_turns (Stands u n temps frames s) = act_at_within (at_node t u n) u temps frames s
  step_turns (Over e s) = omega arith
  step_turns Stuck = omega arith

  ended : (x : Stage) (e : End) → (seen x).shown.ending ≡ Some e → step g t x ≡ x
  ended (Begins s) e h = cc
  ended (Stands u n temps frames s) e h = cc
  ended (Over e' s) e h = refl
  ended Stuck e h = cc

  pub is_stepping : IsStepping (step g t) seen (λ (x : Stage). x ≡ Stuck)
  is_stepping = record {
    turns = step_turns;
    ended = ended;
    stays = λ x e. ap (step g t) e;
    shows_no_ending = λ x e. ap (λ (y : Stage). (seen y).shown.ending) e;
    has_no_turns = λ x e. ap (λ (y : Stage). (seen y).turns) e;
  }

pub follower_never_stuck : (t : Tac) (budgets : BudgetSizes) (input : List ℕ) (c : ℕ) (a : Behaviour) → IsSource a
    → Follows c a (tac_meaning t budgets input) → (k : ℕ)
    → run (step (setting_of_code t budgets) t) k (first_stage t budgets input) ≡ Stuck → ⊥
follower_never_stuck t budgets input c a source f k e =
    never_stuck (step (setting_of_code t budgets) t) seen (λ (x : Stage). x ≡ Stuck)
    (is_stepping (setting_of_code t budgets) t) c a (first_stage t budgets input) refl source f k e
