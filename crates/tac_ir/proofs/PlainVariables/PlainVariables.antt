-- Plain variables change only where they are set or updated, and where a function is called or returns.
use Rattle.std.proofs.Common.{◌≡◌, ℕ, List, [], ◌∷◌, length, Option, Some, None, Bool, true, false, refl, ap, ◌∙◌}
use Rattle.std.specs.Prelude.{slice_get, get_or, ◌==◌}
use Rattle.sb_base.specs.declared.ending.Ending.{Ending}
use Rattle.sb_base.specs.declared.ending.Ending.TheVariants as ending
use Rattle.obj_memory.specs.declared.value.Value.{Value}
use Rattle.obj_memory.specs.Objects.{Objects}
use Rattle.c_tree.specs.declared.expression.Kind.{Kind}
use Rattle.c_tree.specs.declared.expression.Kind.TheVariants.{Void, Scalar as OfScalar, Structure, Array}
use Rattle.c_tree.specs.declared.expression.Fixity.{Fixity}
use Rattle.c_tree.specs.declared.expression.Update.{Update as UpdateOf}
use Rattle.obj_memory.specs.declared.value.Scalar.{Scalar}
use Rattle.c_tree.specs.declared.program.Variable.{Variable}
use Rattle.c_tree.specs.Kinds.{size_of_kind}
use Rattle.source_meaning.specs.State.{State, Rvalue, Home, Outcome, Gives, Ended, Paused, Run, on, ◌>>=◌, done, change}
use Rattle.source_meaning.specs.State.{read_state, Setting}
use Rattle.source_meaning.specs.Actions.{integer, plain_value, given, updated, set_plain, update_plain, home_pointer}
use Rattle.source_meaning.specs.Structures.{rvalue, as_rvalue, values_of}
use Rattle.source_meaning.specs.Blocks.{pass_or_stop, test_space, test_keys, place_object, place_variables, place_block}
use Rattle.source_meaning.specs.Blocks.{enter_block, has_objects, homes_over}
use Rattle.source_meaning.specs.Judging.{is_within, is_live_tag}
use Rattle.source_meaning.specs.Staying.{KeepsBy, KeptBy, Stays}
use Rattle.source_meaning.proofs.Local.{IsLocal, local_on, local_then, local_done, local_skip, local_stop, local_choose}
use Rattle.source_meaning.proofs.Local.{local_read, local_tally, local_changes, local_basic}
use Rattle.source_meaning.proofs.ActionsAct.{local_operate, local_updated, local_update, local_take_value}
use Rattle.source_meaning.proofs.ActionsAct.{local_read_rvalue, local_write_rvalue, local_zero_variable}
use Rattle.source_meaning.proofs.ActionsAct.{local_store_bytes, local_as_rvalue, local_take_key, local_make_object}
use Rattle.source_meaning.proofs.LibraryActs.{local_routine, local_print}
use Rattle.source_meaning.proofs.Stays.{stays_on, stays_local, stays_done, stays_read, stays_set}
use Rattle.tac_ir.specs.declared.instruction.Mode.{Mode}
use Rattle.tac_ir.specs.declared.instruction.Mode.TheVariants.{Named, Unchecked, Judged}
use Rattle.tac_ir.specs.declared.instruction.Test.{Test}
use Rattle.tac_ir.specs.declared.instruction.Test.TheVariants.{Spatial, Temporal}
use Rattle.tac_ir.specs.declared.instruction.Instruction.{Instruction}
use Rattle.tac_ir.specs.declared.instruction.Instruction.TheVariants.{SetPlain, UpdatePlain, ZeroOf, Binary, Take, Read}
use Rattle.tac_ir.specs.declared.instruction.Instruction.TheVariants.{Write, Update, Judge, Zero, StorePart, StoreText}
use Rattle.tac_ir.specs.declared.instruction.Instruction.TheVariants.{Turn}
use Rattle.tac_ir.specs.declared.instruction.Instruction.TheVariants.{Library, Print, Call, CallThrough, EnterBlock}
use Rattle.tac_ir.specs.declared.instruction.Instruction.TheVariants.{LeaveBlock, Return, Reserved}
use Rattle.tac_ir.specs.declared.key.Key.{Key}
use Rattle.tac_ir.specs.declared.function.Tac.{Tac}
use Rattle.tac_ir.specs.Stage.{Temps, gathered, Frame, Waits, Entered, Stage, Begins, Stands, Over, Stuck, came}
use Rattle.tac_ir.specs.Costs.{fourfold, heavier}
use Rattle.tac_ir.specs.Keys.{gives}
use Rattle.tac_ir.specs.Accesses.{can_check, only_if, admitted, moved_from, is_through}
use Rattle.tac_ir.specs.Meaning.{function_in, objects_in, text_in, keyed_by, keyed, right_value, part_pointer, check}
use Rattle.tac_ir.specs.Meaning.{given_in, left_for, fits, effect, act}
use Rattle.tac_ir.specs.PlainVariables.PlainChanges.{changes_plain, KeepsPlainAt}

-- runs that give a value and keep a plain variable

abbrev PlainBy : {A : Type 0} → (y : ℕ) → State → Outcome A → Type 0
PlainBy y s (Gives a z) = plain_value y z ≡ plain_value y s
PlainBy y s (Ended e z) = Unit {0}
PlainBy y s (Paused z) = Unit {0}

record Keeps {A : Type 0} (y : ℕ) (r : Run A) : Type 0 where
  by : (s : State) → PlainBy y s (r s)

of_kept : {A : Type 0} (y : ℕ) (s : State) (o : Outcome A) → KeptBy y s o → PlainBy y s o
of_kept y s (Gives a z) h = h.plain
of_kept y s (Ended e z) h = tt
of_kept y s (Paused z) h = tt

of_local : {A : Type 0} (y : ℕ) (s : State) (o : Outcome A) → KeepsBy s o → PlainBy y s o
of_local y s (Gives a z) h = ap (λ vs. get_or vs y (integer 0)) h.plain
of_local y s (Ended e z) h = tt
of_local y s (Paused z) h = tt

keeps_stays : {A : Type 0} {r : Run A} (y : ℕ) → Stays y r → Keeps y r
keeps_stays {r = r} y h = record { by = λ s. of_kept y s (r s) (h.stays s) }

keeps_local : {A : Type 0} {r : Run A} (y : ℕ) → IsLocal r → Keeps y r
keeps_local {r = r} y h = record { by = λ s. of_local y s (r s) (h.keeps s) }

from_by : {A : Type 0} (y : ℕ) (s z : State) (o : Outcome A) → plain_value y z ≡ plain_value y s → PlainBy y z o
    → PlainBy y s o
from_by y s z (Gives a x) e h = h ∙ e
from_by y s z (Ended x w) e h = tt
from_by y s z (Paused w) e h = tt

on_by : {A B : Type 0} (y : ℕ) (s : State) (o : Outcome A) (f : A → Run B) → PlainBy y s o → ((a : A) → Keeps y (f a))
    → PlainBy y s (on o f)
on_by y s (Gives a z) f h g = from_by y s z (f a z) h ((g a).by z)
on_by y s (Ended e z) f h g = tt
on_by y s (Paused z) f h g = tt

keeps_on : {A B : Type 0} {r : Run A} {f : A → Run B} (y : ℕ) → Keeps y r → ((a : A) → Keeps y (f a))
    → Keeps y (r >>= f)
keeps_on {r = r} {f = f} y h g = record { by = λ s. on_by y s (r s) f (h.by s) g }

fourfold_by : {A : Type 0} (y from : ℕ) (s : State) (o : Outcome A) → PlainBy y s o → PlainBy y s (fourfold from o)
fourfold_by y from s (Gives a z) h = h
fourfold_by y from s (Ended e z) h = tt
fourfold_by y from s (Paused z) h = tt

keeps_heavier : {A : Type 0} {r : Run A} (y : ℕ) → Keeps y r → Keeps y (heavier r)
keeps_heavier {r = r} y h = record { by = λ s. fourfold_by y s.work s (r s) (h.by s) }

-- blocks

local_pass : (b : Bool) (e : Ending) → IsLocal (pass_or_stop b e)
local_pass true e = local_skip
local_pass false e = local_stop

local_test_space : (g : Setting) (vs : List Variable) (line : ℕ) → IsLocal (test_space g vs line)
local_test_space g vs line = local_on (local_read {f = λ s. s.stacked} (λ k s. refl))
    (λ top. local_pass _ (ending.Stack line))

local_test_keys : (g : Setting) (vs : List Variable) (line : ℕ) → IsLocal (test_keys g vs line)
local_test_keys g vs line = local_choose (has_objects vs) (local_take_key g line) local_skip

local_place_object : (size : ℕ) → IsLocal (place_object size)
local_place_object size = search (local_basic, local_changes, local_make_object) depth 9

local_place_variables : (vs : List Variable) → IsLocal (place_variables vs)
local_place_variables [] = local_done
local_place_variables (v ∷ vs) =
    local_on (local_choose v.is_object (local_place_object (size_of_kind v.kind)) local_done)
    (λ home. local_on (local_place_variables vs) (λ homes. local_done))

frame_keeps : (y : ℕ) (frame : List Home) (homes : List Home)
    → Keeps y (change (λ s. record s { frame = homes_over frame homes }))
frame_keeps y frame homes = record { by = λ s. refl }

done_keeps : {A : Type 0} (y : ℕ) (a : A) → Keeps y (done a)
done_keeps y a = record { by = λ s. refl }

read_keeps : {A : Type 0} (y : ℕ) (f : State → A) → Keeps y (read_state f)
read_keeps y f = record { by = λ s. refl }

place_keeps : (y : ℕ) (vs : List Variable) → Keeps y (place_block vs)
place_keeps y vs =
    keeps_on y (read_keeps y (λ s. s.frame)) (λ frame. keeps_on y (read_keeps y (λ s. s.stacked))
    (λ top. keeps_on y (keeps_local y (local_place_variables vs))
    (λ homes. keeps_on y (frame_keeps y frame homes)
    (λ _. done_keeps y (record { homes = homes; frame = frame; stacked = top })))))

enter_keeps : (y : ℕ) (g : Setting) (vs : List Variable) (line : ℕ) → Keeps y (enter_block g vs line)
enter_keeps y g vs line = keeps_on y (keeps_local y (local_test_space g vs line))
    (λ _. keeps_on y (keeps_local y (local_test_keys g vs line)) (λ _. place_keeps y vs))

-- stages

stuck_keeps : {y : ℕ} {s : State} → KeepsPlainAt y s Stuck
stuck_keeps = record { by = tt }

stands_keeps : {y : ℕ} {s : State} {u m : ℕ} {temps : Temps} {frames : List Frame}
    → KeepsPlainAt y s (Stands u m temps frames s)
stands_keeps = record { by = refl }

later_keeps : (y : ℕ) (s z : State) (x : Stage) → plain_value y z ≡ plain_value y s → KeepsPlainAt y z x
    → KeepsPlainAt y s x
later_keeps y s z (Begins w) e k = record { by = tt }
later_keeps y s z (Stands u n temps frames w) e k = record { by = k.by ∙ e }
later_keeps y s z (Over x w) e k = record { by = tt }
later_keeps y s z Stuck e k = record { by = tt }

came_by : {A : Type 0} (y : ℕ) (s : State) (o : Outcome A) (F : A → State → Stage) → PlainBy y s o
    → ((a : A) (z : State) → KeepsPlainAt y z (F a z)) → KeepsPlainAt y s (came o F)
came_by y s (Gives a z) F h f = later_keeps y s z (F a z) h (f a z)
came_by y s (Ended e z) F h f = record { by = tt }
came_by y s (Paused z) F h f = record { by = tt }

came_keeps : {A : Type 0} {y : ℕ} (s : State) (r : Run A) (F : A → State → Stage) → Keeps y r
    → ((a : A) (z : State) → KeepsPlainAt y z (F a z)) → KeepsPlainAt y s (came (r s) F)
came_keeps {y = y} s r F h f = came_by y s (r s) F (h.by s) f

only_keeps : {y : ℕ} (s : State) (b : Bool) (x : Stage) → KeepsPlainAt y s x → KeepsPlainAt y s (only_if b x)
only_keeps s true x h = h
only_keeps s false x h = stuck_keeps

keyed_keeps : {y : ℕ} (keys : List Key) (key : Option ℕ) (z : State) (v : Value) (s : State) (x : Stage)
    → KeepsPlainAt y s x → KeepsPlainAt y s (keyed keys key z v x)
keyed_keeps keys None z v s x h = h
keyed_keeps {y = y} keys (Some n) z v s x h = by (slice_get keys n)
  where
    by : (key : Option Key) → KeepsPlainAt y s (keyed_by key z v x)
    by None = stuck_keeps
    by (Some key) = only_keeps s (gives key z v) x h

admitted_keeps : {y : ℕ} (mode : Mode) (size : ℕ) (q : Rvalue) (objects : Objects) (s : State) (x : Stage)
    → KeepsPlainAt y s x → KeepsPlainAt y s (admitted mode size q objects x)
admitted_keeps Named size q objects s x h = only_keeps s _ x h
admitted_keeps Unchecked size q objects s x h = only_keeps s _ x h
admitted_keeps Judged size q objects s x h = only_keeps s _ x h

moved_keeps : {y : ℕ} (kind : Kind) (v : Rvalue) (objects : Objects) (s : State) (x : Stage) → KeepsPlainAt y s x
    → KeepsPlainAt y s (moved_from kind v objects x)
moved_keeps Void v objects s x h = h
moved_keeps (OfScalar k) v objects s x h = h
moved_keeps (Structure n) v objects s x h = only_keeps s _ x h
moved_keeps (Array n) v objects s x h = h

local_check : (of : Test) (size : ℕ) (v : Value) (line : ℕ) → (y : ℕ) → Keeps y (check of size v line)
local_check Spatial size v line y = keeps_local y (local_pass (is_within v.tag v.word size) (ending.Spatial line))
local_check Temporal size v line y = record
    { by = λ s. (keeps_local y (local_pass (is_live_tag v.tag s.objects) (ending.Temporal line))).by s }

left_keeps : (y n u m : ℕ) (temps : Temps) (frames : List Frame) (s : State)
    → KeepsPlainAt y s (left_for n u m temps frames s)
left_keeps y n u m temps [] s = stuck_keeps
left_keeps y n u m temps (Waits w ∷ frames) s = stuck_keeps
left_keeps y n u m temps (Entered k b ∷ frames) s = only_keeps s (k == n) _ (record { by = refl })

-- an update of another variable

stays_update : (x y : ℕ) → (x == y) ≡ false → (u : UpdateOf) (k : Scalar) (right : Value) (at : ℕ) (f : Fixity)
    → Stays y (as_rvalue (update_plain x (updated u k right at) f))
stays_update x y other u k right at f =
    stays_on (stays_on (stays_read {f = plain_value x})
    (λ old. stays_on (stays_local (local_updated u k right at old))
    (λ new. stays_on (stays_set x y new other) (λ _. stays_done {a = given f old new}))))
    (λ v. stays_done {a = rvalue v})

effect_keeps : (g : Setting) (t : Tac) (i : Instruction) (u : ℕ) (temps : Temps) (frames : List Frame) (s : State)
    (y : ℕ)
    → changes_plain i y ≡ false → KeepsPlainAt y s (effect g t i u temps frames s)
effect_keeps g t Reserved u temps frames s y e = stuck_keeps
effect_keeps g t (SetPlain x a m) u temps frames s y e = came_keeps s (set_plain x (temps a).value)
    (λ _ z. Stands u m temps frames z) (keeps_stays y (stays_set x y (temps a).value e)) (λ _ z. stands_keeps)
effect_keeps g t (UpdatePlain w k f line d x right m) u temps frames s y e =
    came_keeps s _ (given_in u m temps d frames)
    (keeps_stays y (stays_update x y e w k (right_value right temps) line f)) (λ _ z. stands_keeps)
effect_keeps g t (ZeroOf kind d m) u temps frames s y e = record { by = refl }
effect_keeps g t (Binary op ty line d a b m) u temps frames s y e =
    came_keeps s _ (given_in u m temps d frames) (keeps_local y (local_as_rvalue
    (local_operate op ty (temps a).value (temps b).value line)))
    (λ _ z. stands_keeps)
effect_keeps g t (Take kind line d a m) u temps frames s y e =
    moved_keeps kind (temps a) s.objects s _
    (came_keeps s _ (given_in u m temps d frames)
    (keeps_heavier y (keeps_local y (local_take_value kind line (temps a)))) (λ _ z. stands_keeps))
effect_keeps g t (Read kind mode line key d a m) u temps frames s y e =
    keyed_keeps _ key s _ s _
    (admitted_keeps mode _ (temps a) s.objects s _
    (came_keeps s _ (given_in u m temps d frames) (keeps_local y (local_read_rvalue kind (is_through mode) (temps a)
    line))
    (λ _ z. stands_keeps)))
effect_keeps g t (Write kind mode line key d a b m) u temps frames s y e =
    keyed_keeps _ key s _ s _ (admitted_keeps mode _ (temps a) s.objects s _ (moved_keeps kind (temps b) s.objects s _
    (came_keeps s _ (given_in u m temps d frames)
    (keeps_heavier y (keeps_local y (local_write_rvalue kind (is_through mode) (temps a).value line (temps b))))
    (λ _ z. stands_keeps))))
effect_keeps g t (Update w k f mode line at key d a right m) u temps frames s y e =
    keyed_keeps _ key s _ s _ (admitted_keeps mode _ (temps a) s.objects s _
    (came_keeps s _ (given_in u m temps d frames)
    (keeps_local y (local_as_rvalue (local_update k (is_through mode) (temps a).value line
    (updated w k (right_value right temps) at) f
    (local_updated w k (right_value right temps) at)))) (λ _ z. stands_keeps)))
effect_keeps g t (Judge of size line key a m) u temps frames s y e =
    keyed_keeps _ key s _ s _
    (only_keeps s (can_check of size (temps a).value) _
    (came_keeps s _ (λ _ z. Stands u m temps frames z) (local_check of size (temps a).value line y)
    (λ _ z. stands_keeps)))
effect_keeps g t (Zero x m) u temps frames s y e = only_keeps s _ _
    (came_keeps s _ (λ _ z. Stands u m temps frames z) (keeps_heavier y (keeps_local y (local_zero_variable x)))
    (λ _ z. stands_keeps))
effect_keeps g t (StorePart kind line x offset a m) u temps frames s y e =
    only_keeps s _ _ (moved_keeps kind (temps a) s.objects s _
    (came_keeps s _ (λ _ z. Stands u m temps frames z)
    (keeps_heavier y
    (keeps_local y (local_write_rvalue kind false (part_pointer x offset (size_of_kind kind) s) line (temps a))))
    (λ _ z. stands_keeps)))
effect_keeps g t (StoreText n x offset m) u temps frames s y e =
    only_keeps s _ _ (came_keeps s _ (λ _ z. Stands u m temps frames z)
    (keeps_heavier y (keeps_local y (local_then (local_tally (length (text_in t n)))
    (local_store_bytes (home_pointer x s) offset (text_in t n))))) (λ _ z. stands_keeps))
effect_keeps g t (Library r line d n m) u temps frames s y e = came_keeps s _ (given_in u m temps d frames)
    (keeps_heavier y (keeps_local y (local_as_rvalue (local_routine g r (values_of (gathered temps d n)) line))))
    (λ _ z. stands_keeps)
effect_keeps g t (Print x line d n m) u temps frames s y e = came_keeps s _ (given_in u m temps d frames)
    (keeps_heavier y
    (keeps_local y (local_as_rvalue (local_print (text_in t x) (values_of (gathered temps d n)) line))))
    (λ _ z. stands_keeps)
effect_keeps g t (Call f line d n m) u temps frames s y e = cc
effect_keeps g t (CallThrough type_number line d n m) u temps frames s y e = cc
effect_keeps g t (EnterBlock b line m) u temps frames s y e =
    came_keeps s _ (λ q z. Stands u m temps (Entered b q ∷ frames) z)
    (keeps_heavier y (enter_keeps y g (objects_in (function_in t u) b) line)) (λ _ z. stands_keeps)
effect_keeps g t (Turn counted m) u temps frames s y e = record { by = refl }
effect_keeps g t (LeaveBlock b m) u temps frames s y e = left_keeps y b u m temps frames s
effect_keeps g t (Return a) u temps frames s y e = cc
effect_keeps g t i u temps frames s y e = stands_keeps

pub act_keeps : (g : Setting) (t : Tac) (i : Instruction) (u : ℕ) (temps : Temps) (frames : List Frame) (s : State)
    (y : ℕ) → changes_plain i y ≡ false → KeepsPlainAt y s (act g t i u temps frames s)
act_keeps g t i u temps frames s y e =
    only_keeps s (fits g t i u temps s) _ (effect_keeps g t i u temps frames s y e)
