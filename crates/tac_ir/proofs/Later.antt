-- An instruction leads to a later state of the run.
use Rattle.std.proofs.Common.{ℕ, List, [], ◌∷◌, length, Option, Some, None, Bool, true, false, arith}
use Rattle.std.specs.Prelude.{slice_get, ◌==◌}
use Rattle.behaviours.proofs.Moments.{prefix_refl}
use Rattle.obj_memory.specs.declared.value.Value.{Value}
use Rattle.obj_memory.specs.Objects.{Objects}
use Rattle.obj_memory.proofs.Continuing.{continues_same}
use Rattle.c_tree.specs.declared.expression.Kind.{Kind}
use Rattle.c_tree.specs.declared.expression.Kind.TheVariants.{Void, Scalar as OfScalar, Structure, Array}
use Rattle.c_tree.specs.Kinds.{size_of_kind}
use Rattle.sb_base.specs.declared.ending.Ending.{Ending}
use Rattle.source_meaning.specs.State.{State, Rvalue, Outcome, Gives, Ended, Paused, Run, Setting}
use Rattle.source_meaning.specs.Actions.{with_plain, updated, home_pointer}
use Rattle.source_meaning.specs.Structures.{values_of}
use Rattle.source_meaning.specs.Acting.{at_work, Later, ActsBy, IsAction}
use Rattle.source_meaning.proofs.Acting.{later_same, later_then, acts_then, acts_tally}
use Rattle.source_meaning.proofs.ActionsAct.{acts_set_plain, acts_update_plain, acts_operate, acts_updated, acts_update}
use Rattle.source_meaning.proofs.ActionsAct.{acts_take_value, acts_read_rvalue, acts_write_rvalue, acts_callee}
use Rattle.source_meaning.proofs.ActionsAct.{acts_set_up, acts_enter_block, acts_leave_block, acts_zero_variable}
use Rattle.source_meaning.proofs.ActionsAct.{acts_store_bytes, acts_back_to, local_make_zero}
use Rattle.source_meaning.proofs.LibraryActs.{acts_routine, acts_print}
use Rattle.tac_ir.specs.declared.instruction.Mode.{Mode}
use Rattle.tac_ir.specs.declared.instruction.Mode.TheVariants.{Named, Unchecked, Judged}
use Rattle.tac_ir.specs.declared.instruction.Instruction.{Instruction}
use Rattle.tac_ir.specs.declared.instruction.Instruction.TheVariants.{UpdatePlain, Binary, Take, Read, Write, Update}
use Rattle.tac_ir.specs.declared.instruction.Instruction.TheVariants.{Judge, Zero, StorePart, StoreText, Library, Print}
use Rattle.tac_ir.specs.declared.instruction.Instruction.TheVariants.{CallThrough, EnterBlock, ZeroOf, Return}
use Rattle.tac_ir.specs.declared.key.Key.{Key}
use Rattle.tac_ir.specs.declared.function.CodeFunction.{CodeFunction}
use Rattle.tac_ir.specs.declared.function.Tac.{Tac}
use Rattle.tac_ir.specs.Stage.{Temps, gathered, Frame, Waits, Entered, Stage, Begins, Stands, Over}
use Rattle.tac_ir.specs.Stage.{Stuck, came}
use Rattle.tac_ir.specs.Costs.{handing, spent}
use Rattle.tac_ir.specs.Keys.{gives}
use Rattle.tac_ir.specs.Accesses.{only_if, admitted, moved_from, is_through}
use Rattle.tac_ir.specs.Later.{ComesLater}
use Rattle.tac_ir.specs.Meaning.{function_in, objects_in, text_in, keyed_by, keyed, right_value, part_pointer}
use Rattle.tac_ir.specs.Meaning.{header_of_code, begun, called_at, given_to, left_for, fits, effect, act}
use Rattle.tac_ir.proofs.Turns.{acts_as, acts_check, acts_heavier}

stuck_later : {s : State} → ComesLater s Stuck
stuck_later = record { by = tt }

over_later : {s : State} {e : Ending} → ComesLater s (Over e s)
over_later {s = s} = record { by = later_same s }

stands_later : {s z : State} {u n : ℕ} {temps : Temps} {frames : List Frame} → Later s z
    → ComesLater s (Stands u n temps frames z)
stands_later h = record { by = h }

after_later : {s : State} (z : State) (x : Stage) → Later s z → ComesLater z x → ComesLater s x
after_later z (Begins y) h k = record { by = tt }
after_later z (Stands u n temps frames y) h k = record { by = later_then h k.by }
after_later z (Over e y) h k = record { by = later_then h k.by }
after_later z Stuck h k = stuck_later

acts_later : {A : Type 0} (s : State) (o o' : Outcome A) (F : A → State → Stage) → ActsBy 0 s o o'
    → ((a : A) (z : State) → ComesLater z (F a z)) → ComesLater s (came o F)
acts_later s (Gives a z) o' F h f = after_later z (F a z) h.2.later (f a z)
acts_later s (Ended e z) o' F h f = record { by = h.2.later }
acts_later s (Paused z) o' F h f = absurd h

came_later : {A : Type 0} (s : State) {r : Run A} → IsAction r → (F : A → State → Stage)
    → ((a : A) (z : State) → ComesLater z (F a z)) → ComesLater s (came (r s) F)
came_later s {r = r} h F f = acts_later s (r s) (r (at_work 0 s)) F (h.acts s 0) f

only_later : {s : State} (b : Bool) (x : Stage) → ComesLater s x → ComesLater s (only_if b x)
only_later true x h = h
only_later false x h = stuck_later

keyed_later : {s : State} (keys : List Key) (key : Option ℕ) (z : State) (v : Value) (x : Stage) → ComesLater s x
    → ComesLater s (keyed keys key z v x)
keyed_later keys None z v x h = h
keyed_later {s = s} keys (Some n) z v x h = by (slice_get keys n)
  where
    by : (key : Option Key) → ComesLater s (keyed_by key z v x)
    by None = stuck_later
    by (Some key) = only_later (gives key z v) x h

admitted_later : {s : State} (mode : Mode) (size : ℕ) (q : Rvalue) (objects : Objects) (x : Stage) → ComesLater s x
    → ComesLater s (admitted mode size q objects x)
admitted_later Named size q objects x h = only_later _ x h
admitted_later Unchecked size q objects x h = only_later _ x h
admitted_later Judged size q objects x h = only_later _ x h

moved_later : {s : State} (kind : Kind) (v : Rvalue) (objects : Objects) (x : Stage) → ComesLater s x
    → ComesLater s (moved_from kind v objects x)
moved_later Void v objects x h = h
moved_later (OfScalar k) v objects x h = h
moved_later (Structure n) v objects x h = only_later _ x h
moved_later (Array n) v objects x h = h

later_begun : (s : State) → Later s (begun s)
later_begun s = record {
  output = prefix_refl s.output;
  accesses = prefix_refl s.accesses;
  taken = omega arith;
  work = omega arith;
  turns = omega arith;
  keys = omega arith;
  objects = continues_same s.objects;
}

later_spent : (n : ℕ) (s : State) → Later s (spent n s)
later_spent n s = record {
  output = prefix_refl s.output;
  accesses = prefix_refl s.accesses;
  taken = omega arith;
  work = omega arith;
  turns = omega arith;
  keys = omega arith;
  objects = continues_same s.objects;
}

later_plain : (x : ℕ) (v : Value) (s : State) → Later s (with_plain x v s)
later_plain x v s = ((acts_set_plain x v).acts s 0).2.later

given_later : (s : State) (frames : List Frame) (v : Rvalue) → ComesLater s (given_to frames v s)
given_later s [] v = over_later
given_later s (Waits w ∷ frames) v = stands_later ((acts_back_to w.caller).acts s 0).2.later
given_later s (Entered k q ∷ frames) v = stuck_later

left_later : (s : State) (n u m : ℕ) (temps : Temps) (frames : List Frame)
    → ComesLater s (left_for n u m temps frames s)
left_later s n u m temps [] = stuck_later
left_later s n u m temps (Waits w ∷ frames) = stuck_later
left_later s n u m temps (Entered k q ∷ frames) =
    only_later (k == n) _ (stands_later ((acts_leave_block q).acts s 0).2.later)

called_later : (g : Setting) (c : Option CodeFunction) (f : ℕ) (vs : List Rvalue) (line : ℕ) (frames : List Frame)
    (s : State) → ComesLater s (called_at g c f vs line frames s)
called_later g None f vs line frames s = over_later
called_later g (Some c) f vs line frames s =
    after_later (begun s) _ (later_begun s)
    (came_later (begun s) (acts_heavier (acts_set_up g (header_of_code c) vs line)) _ (λ _ z. stands_later
    (later_same z)))

ruleset later = (
  stuck_later,
  over_later,
  stands_later,
  only_later,
  keyed_later,
  admitted_later,
  moved_later,
  given_later,
  left_later,
  called_later,
  later_same,
  later_begun,
  later_plain,
)

effect_later : (g : Setting) (t : Tac) (i : Instruction) (u : ℕ) (temps : Temps) (frames : List Frame) (s : State)
    → ComesLater s (effect g t i u temps frames s)
effect_later g t (UpdatePlain w k f line d x right m) u temps frames s =
    let new = acts_updated w k (right_value right temps) line in
    search (later, came_later s (acts_as (acts_update_plain x (updated w k (right_value right temps) line) f new)))
    depth 9
effect_later g t (Binary op ty line d a b m) u temps frames s =
    search (later, came_later s (acts_as (acts_operate op ty (temps a).value (temps b).value line))) depth 9
effect_later g t (Take kind line d a m) u temps frames s =
    search (later, came_later s (acts_heavier (acts_take_value kind line (temps a)))) depth 9
effect_later g t (Read kind mode line key d a m) u temps frames s =
    search (later, came_later s (acts_read_rvalue kind (is_through mode) (temps a) line)) depth 9
effect_later g t (Write kind mode line key d a b m) u temps frames s =
    search (
      later,
      came_later s (acts_heavier (acts_write_rvalue kind (is_through mode) (temps a).value line
          (temps b))),
    ) depth 9
effect_later g t (Update w k f mode line at key d a right m) u temps frames s =
    let run = acts_update k (is_through mode) (temps a).value line w (right_value right temps) at f in
    search (later, came_later s (acts_as run)) depth 9
effect_later g t (Judge test size line key a m) u temps frames s =
    search (later, came_later s (acts_check test size (temps a).value line)) depth 9
effect_later g t (Zero x m) u temps frames s = search (
  later,
  came_later s (acts_heavier
      (acts_zero_variable x)),
) depth 9
effect_later g t (StorePart kind line x offset a m) u temps frames s =
    let run = acts_write_rvalue kind false (part_pointer x offset (size_of_kind kind) s) line (temps a) in
    search (later, came_later s (acts_heavier run)) depth 9
effect_later g t (StoreText n x offset m) u temps frames s =
    let run = acts_store_bytes (home_pointer x s) offset (text_in t n) in
    search (later, came_later s (acts_heavier (acts_then (acts_tally (length (text_in t n))) run))) depth 9
effect_later g t (Library r line d n m) u temps frames s =
    search (
      later,
      came_later s (acts_heavier (acts_as (acts_routine g r (values_of
          (gathered temps d n)) line))),
    ) depth 9
effect_later g t (Print x line d n m) u temps frames s =
    search (
      later,
      came_later s (acts_heavier (acts_as (acts_print (text_in t x) (values_of
          (gathered temps d n)) line))),
    ) depth 9
effect_later g t (CallThrough type_number line d n m) u temps frames s =
    search (later, came_later s (acts_callee g.functions type_number (temps d).value line)) depth 9
effect_later g t (EnterBlock b line m) u temps frames s =
    search (later, came_later s (acts_heavier (acts_enter_block g (objects_in (function_in t u) b) line))) depth 9
effect_later g t (ZeroOf kind d m) u temps frames s =
    search (later, came_later s (acts_heavier (local_make_zero kind).action)) depth 9
effect_later g t (Return a) u temps frames s =
    after_later (spent (handing (temps a)) s) _ (later_spent (handing (temps a)) s)
    (given_later (spent (handing (temps a)) s) frames (temps a))
effect_later g t i u temps frames s = search later depth 9

pub act_later : (g : Setting) (t : Tac) (i : Instruction) (u : ℕ) (temps : Temps) (frames : List Frame) (s : State)
    → ComesLater s (act g t i u temps frames s)
act_later g t i u temps frames s = only_later (fits g t i u temps s) _ (effect_later g t i u temps frames s)
