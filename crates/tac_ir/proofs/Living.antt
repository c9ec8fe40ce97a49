-- Objects die only where they are freed, and where a block or a call is left.
use Rattle.std.proofs.Common.{◌≡◌, ℕ, List, ◌∷◌, length, Option, Some, None, Bool, true, false}
use Rattle.std.specs.Prelude.{slice_get}
use Rattle.sb_base.specs.declared.ending.Ending.{Ending}
use Rattle.sb_base.specs.declared.ending.Ending.TheVariants as ending
use Rattle.obj_memory.specs.declared.value.Value.{Value}
use Rattle.obj_memory.specs.Objects.{Objects, object_at}
use Rattle.c_tree.specs.declared.expression.Kind.{Kind}
use Rattle.c_tree.specs.declared.expression.Kind.TheVariants.{Void, Scalar as OfScalar, Structure, Array}
use Rattle.c_tree.specs.Kinds.{size_of_kind}
use Rattle.source_meaning.specs.State.{State, Rvalue, Outcome, Gives, Ended, Paused, Run, tally, Setting}
use Rattle.source_meaning.specs.Actions.{updated, set_plain, home_pointer}
use Rattle.source_meaning.specs.Structures.{as_rvalue, values_of}
use Rattle.source_meaning.specs.Expressions.{callee}
use Rattle.source_meaning.specs.Blocks.{pass_or_stop}
use Rattle.source_meaning.specs.Calls.{set_up}
use Rattle.source_meaning.specs.Judging.{is_within, is_live_tag}
use Rattle.source_meaning.specs.Acting.{state_of}
use Rattle.tac_ir.specs.Costs.{fourfold, heavier}
use Rattle.source_meaning.specs.Staying.{KeepsLives}
use Rattle.source_meaning.proofs.Living.{lives_on, lives_then, lives_operate, lives_updated, lives_update}
use Rattle.source_meaning.proofs.Living.{lives_take_value, lives_read_rvalue, lives_write_rvalue, lives_set_plain}
use Rattle.source_meaning.proofs.Living.{lives_update_plain, lives_zero_variable, lives_store_bytes, lives_routine}
use Rattle.source_meaning.proofs.Living.{lives_print, lives_callee, lives_set_up, lives_enter_block}
use Rattle.tac_ir.specs.declared.instruction.Mode.{Mode}
use Rattle.tac_ir.specs.declared.instruction.Mode.TheVariants.{Named, Unchecked, Judged}
use Rattle.tac_ir.specs.declared.instruction.Test.{Test}
use Rattle.tac_ir.specs.declared.instruction.Test.TheVariants.{Spatial, Temporal}
use Rattle.tac_ir.specs.declared.instruction.Instruction.{Instruction}
use Rattle.tac_ir.specs.declared.instruction.Instruction.TheVariants.{SetPlain, UpdatePlain, ZeroOf, Binary, Take, Read}
use Rattle.tac_ir.specs.declared.instruction.Instruction.TheVariants.{Write, Update, Judge, Zero, StorePart, StoreText}
use Rattle.tac_ir.specs.declared.instruction.Instruction.TheVariants.{Turn}
use Rattle.tac_ir.specs.declared.instruction.Instruction.TheVariants.{Library, Print, Call, CallThrough, EnterBlock}
use Rattle.tac_ir.specs.declared.instruction.Instruction.TheVariants.{LeaveBlock, Return, Reserved}
use Rattle.tac_ir.specs.declared.key.Key.{Key}
use Rattle.tac_ir.specs.declared.function.CodeFunction.{CodeFunction}
use Rattle.tac_ir.specs.declared.function.Tac.{Tac}
use Rattle.tac_ir.specs.Stage.{Temps, gathered, Frame, Entered, Stage, Begins, Stands, Over, Stuck, came}
use Rattle.tac_ir.specs.Keys.{gives}
use Rattle.tac_ir.specs.Accesses.{can_check, only_if, admitted, moved_from, is_through}
use Rattle.tac_ir.specs.Changes.{ends_lives, KeepsLivesAt}
use Rattle.tac_ir.specs.Meaning.{function_in, objects_in, text_in, keyed_by, keyed, right_value, part_pointer, check}
use Rattle.tac_ir.specs.Meaning.{header_of_code, begun, called_at, given_in, fits, effect, act}

stuck_keeps : {s : State} → KeepsLivesAt s Stuck
stuck_keeps = record { by = tt }

stands_keeps : {s : State} {u m : ℕ} {temps : Temps} {frames : List Frame} → KeepsLivesAt s (Stands u m temps frames s)
stands_keeps = record { by = λ o l. l }

later_keeps : (s z : State) (x : Stage)
    → ((o : ℕ) → (object_at s.objects o).is_live ≡ true → (object_at z.objects o).is_live ≡ true) → KeepsLivesAt z x
    → KeepsLivesAt s x
later_keeps s z (Begins y) h k = record { by = tt }
later_keeps s z (Stands u n temps frames y) h k = record { by = λ o l. k.by o (h o l) }
later_keeps s z (Over e y) h k = record { by = tt }
later_keeps s z Stuck h k = record { by = tt }

came_by : {A : Type 0} (s : State) (o : Outcome A) (F : A → State → Stage)
    → ((n : ℕ) → (object_at s.objects n).is_live ≡ true → (object_at (state_of o).objects n).is_live ≡ true)
    → ((a : A) (z : State) → KeepsLivesAt z (F a z)) → KeepsLivesAt s (came o F)
came_by s (Gives a z) F h f = later_keeps s z (F a z) h (f a z)
came_by s (Ended e z) F h f = record { by = tt }
came_by s (Paused z) F h f = record { by = tt }

came_keeps : {A : Type 0} (s : State) (r : Run A) (F : A → State → Stage) → KeepsLives r
    → ((a : A) (z : State) → KeepsLivesAt z (F a z)) → KeepsLivesAt s (came (r s) F)
came_keeps s r F h f = came_by s (r s) F (h.live s) f

only_keeps : (s : State) (b : Bool) (x : Stage) → KeepsLivesAt s x → KeepsLivesAt s (only_if b x)
only_keeps s true x h = h
only_keeps s false x h = stuck_keeps

keyed_keeps : (keys : List Key) (key : Option ℕ) (z : State) (v : Value) (s : State) (x : Stage) → KeepsLivesAt s x
    → KeepsLivesAt s (keyed keys key z v x)
keyed_keeps keys None z v s x h = h
keyed_keeps keys (Some n) z v s x h = by (slice_get keys n)
  where
    by : (key : Option Key) → KeepsLivesAt s (keyed_by key z v x)
    by None = stuck_keeps
    by (Some key) = only_keeps s (gives key z v) x h

admitted_keeps : (mode : Mode) (size : ℕ) (q : Rvalue) (objects : Objects) (s : State) (x : Stage) → KeepsLivesAt s x
    → KeepsLivesAt s (admitted mode size q objects x)
admitted_keeps Named size q objects s x h = only_keeps s _ x h
admitted_keeps Unchecked size q objects s x h = only_keeps s _ x h
admitted_keeps Judged size q objects s x h = only_keeps s _ x h

moved_keeps : (kind : Kind) (v : Rvalue) (objects : Objects) (s : State) (x : Stage) → KeepsLivesAt s x
    → KeepsLivesAt s (moved_from kind v objects x)
moved_keeps Void v objects s x h = h
moved_keeps (OfScalar k) v objects s x h = h
moved_keeps (Structure n) v objects s x h = only_keeps s _ x h
moved_keeps (Array n) v objects s x h = h

lives_as : {r : Run Value} → KeepsLives r → KeepsLives (as_rvalue r)
lives_as h = lives_on h (λ v. record { live = λ s n l. l })

heavier_lives : {A : Type 0} (from n : ℕ) (o : Outcome A) → (object_at (state_of o).objects n).is_live ≡ true
    → (object_at (state_of (fourfold from o)).objects n).is_live ≡ true
heavier_lives from n (Gives a s) h = h
heavier_lives from n (Ended e s) h = h
heavier_lives from n (Paused s) h = h

lives_heavier : {A : Type 0} {r : Run A} → KeepsLives r → KeepsLives (heavier r)
lives_heavier {r = r} h = record { live = λ s n l. heavier_lives s.work n (r s) (h.live s n l) }

lives_pass : (b : Bool) (e : Ending) → KeepsLives (pass_or_stop b e)
lives_pass true e = record { live = λ s n l. l }
lives_pass false e = record { live = λ s n l. l }

lives_check : (of : Test) (size : ℕ) (v : Value) (line : ℕ) → KeepsLives (check of size v line)
lives_check Spatial size v line = lives_pass (is_within v.tag v.word size) (ending.Spatial line)
lives_check Temporal size v line = record
    { live = λ s n l. (lives_pass (is_live_tag v.tag s.objects) (ending.Temporal line)).live s n l }

called_keeps : (g : Setting) (c : Option CodeFunction) (f : ℕ) (vs : List Rvalue) (line : ℕ) (frames : List Frame)
    (s : State) → KeepsLivesAt s (called_at g c f vs line frames s)
called_keeps g None f vs line frames s = record { by = tt }
called_keeps g (Some c) f vs line frames s =
    later_keeps s (begun s) _ (λ o l. l)
    (came_keeps (begun s) (heavier (set_up g (header_of_code c) vs line)) _
    (lives_heavier (lives_set_up g (header_of_code c) vs line)) (λ _ z. stands_keeps))

effect_lives : (g : Setting) (t : Tac) (i : Instruction) (u : ℕ) (temps : Temps) (frames : List Frame) (s : State)
    → ends_lives i ≡ false → KeepsLivesAt s (effect g t i u temps frames s)
effect_lives g t Reserved u temps frames s e = stuck_keeps
effect_lives g t (SetPlain x a m) u temps frames s e = came_keeps s (set_plain x (temps a).value)
    (λ _ z. Stands u m temps frames z) (lives_set_plain x (temps a).value) (λ _ z. stands_keeps)
effect_lives g t (UpdatePlain w k f line d x right m) u temps frames s e =
    came_keeps s _ (given_in u m temps d frames)
    (lives_as (lives_update_plain x (updated w k (right_value right temps) line) f
    (lives_updated w k (right_value right temps) line))) (λ _ z. stands_keeps)
effect_lives g t (ZeroOf kind d m) u temps frames s e = record { by = λ o l. l }
effect_lives g t (Binary op ty line d a b m) u temps frames s e =
    came_keeps s _ (given_in u m temps d frames) (lives_as (lives_operate op ty (temps a).value (temps b).value line))
    (λ _ z. stands_keeps)
effect_lives g t (Take kind line d a m) u temps frames s e =
    moved_keeps kind (temps a) s.objects s _
    (came_keeps s _ (given_in u m temps d frames) (lives_heavier (lives_take_value kind line (temps a)))
    (λ _ z. stands_keeps))
effect_lives g t (Read kind mode line key d a m) u temps frames s e =
    keyed_keeps _ key s _ s _
    (admitted_keeps mode _ (temps a) s.objects s _
    (came_keeps s _ (given_in u m temps d frames) (lives_read_rvalue kind (is_through mode) (temps a) line)
    (λ _ z. stands_keeps)))
effect_lives g t (Write kind mode line key d a b m) u temps frames s e =
    keyed_keeps _ key s _ s _ (admitted_keeps mode _ (temps a) s.objects s _ (moved_keeps kind (temps b) s.objects s _
    (came_keeps s _ (given_in u m temps d frames)
    (lives_heavier (lives_write_rvalue kind (is_through mode) (temps a).value line (temps b))) (λ _ z. stands_keeps))))
effect_lives g t (Update w k f mode line at key d a right m) u temps frames s e =
    keyed_keeps _ key s _ s _ (admitted_keeps mode _ (temps a) s.objects s _
    (came_keeps s _ (given_in u m temps d frames)
    (lives_as (lives_update k (is_through mode) (temps a).value line (updated w k (right_value right temps) at) f
    (lives_updated w k (right_value right temps) at))) (λ _ z. stands_keeps)))
effect_lives g t (Judge of size line key a m) u temps frames s e =
    keyed_keeps _ key s _ s _
    (only_keeps s (can_check of size (temps a).value) _
    (came_keeps s _ (λ _ z. Stands u m temps frames z) (lives_check of size (temps a).value line)
    (λ _ z. stands_keeps)))
effect_lives g t (Zero x m) u temps frames s e = only_keeps s _ _
    (came_keeps s _ (λ _ z. Stands u m temps frames z) (lives_heavier (lives_zero_variable x)) (λ _ z. stands_keeps))
effect_lives g t (StorePart kind line x offset a m) u temps frames s e =
    only_keeps s _ _ (moved_keeps kind (temps a) s.objects s _
    (came_keeps s _ (λ _ z. Stands u m temps frames z)
    (lives_heavier (lives_write_rvalue kind false (part_pointer x offset (size_of_kind kind) s) line (temps a)))
    (λ _ z. stands_keeps)))
effect_lives g t (StoreText n x offset m) u temps frames s e =
    only_keeps s _ _ (came_keeps s _ (λ _ z. Stands u m temps frames z)
    (lives_heavier (lives_then {r = tally (length (text_in t n))} (record { live = λ s n l. l })
    (lives_store_bytes (home_pointer x s) offset (text_in t n)))) (λ _ z. stands_keeps))
effect_lives g t (Library r line d n m) u temps frames s e = came_keeps s _ (given_in u m temps d frames)
    (lives_heavier (lives_as (lives_routine g r (values_of (gathered temps d n)) line e))) (λ _ z. stands_keeps)
effect_lives g t (Print x line d n m) u temps frames s e = came_keeps s _ (given_in u m temps d frames)
    (lives_heavier (lives_as (lives_print (text_in t x) (values_of (gathered temps d n)) line)))
    (λ _ z. stands_keeps)
effect_lives g t (Call f line d n m) u temps frames s e = called_keeps g (function_in t f) f _ line _ s
effect_lives g t (CallThrough type_number line d n m) u temps frames s e =
    came_keeps s (callee g.functions type_number (temps d).value line) _
    (lives_callee g.functions type_number (temps d).value line)
    (λ f z. called_keeps g (function_in t f) f _ line _ z)
effect_lives g t (EnterBlock b line m) u temps frames s e =
    came_keeps s _ (λ q z. Stands u m temps (Entered b q ∷ frames) z)
    (lives_heavier (lives_enter_block g (objects_in (function_in t u) b) line)) (λ _ z. stands_keeps)
effect_lives g t (Turn counted m) u temps frames s e = record { by = λ o l. l }
effect_lives g t (LeaveBlock b m) u temps frames s e = cc
effect_lives g t (Return a) u temps frames s e = cc
effect_lives g t i u temps frames s e = stands_keeps

pub act_lives : (g : Setting) (t : Tac) (i : Instruction) (u : ℕ) (temps : Temps) (frames : List Frame) (s : State)
    → ends_lives i ≡ false → KeepsLivesAt s (act g t i u temps frames s)
act_lives g t i u temps frames s e = only_keeps s (fits g t i u temps s) _ (effect_lives g t i u temps frames s e)
