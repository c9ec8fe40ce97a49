-- The homes of variables, and the blocks that are entered, change only where a block is entered or left, and where a
-- function is called or returns.
use Rattle.std.proofs.Common.{◌≡◌, ℕ, ◌+◌, zero, suc, List, [], ◌∷◌, map, length, Option, Some, None, Bool, true, false}
use Rattle.std.proofs.Common.{refl, sym, ap, ◌∙◌, arith}
use Rattle.std.specs.Prelude.{slice_get, get_or, ◌==◌, if◌then◌else◌}
use Rattle.std.proofs.lemmas.Bool.{true≢false, eqb-true}
use Rattle.sb_base.specs.declared.ending.Ending.{Ending}
use Rattle.sb_base.specs.declared.ending.Ending.TheVariants as ending
use Rattle.obj_memory.specs.declared.value.Scalar.{Scalar}
use Rattle.obj_memory.specs.declared.value.Value.{Value}
use Rattle.obj_memory.specs.Objects.{Objects}
use Rattle.c_tree.specs.declared.expression.Fixity.{Fixity}
use Rattle.c_tree.specs.declared.expression.Kind.{Kind}
use Rattle.c_tree.specs.declared.expression.Kind.TheVariants.{Void, Scalar as OfScalar, Structure, Array}
use Rattle.c_tree.specs.declared.expression.Update.{Update as UpdateOf}
use Rattle.c_tree.specs.declared.program.Variable.{Variable}
use Rattle.c_tree.specs.Blocks.{no_variable, closed, is_among, opened}
use Rattle.c_tree.specs.Kinds.{size_of_kind}
use Rattle.source_meaning.specs.State.{State, Home, NoObject, Outcome, Gives, Ended, Paused, Run, on, ◌>>=◌, ◌>>◌}
use Rattle.source_meaning.specs.State.{Rvalue, done, change, choose, read_state, Setting}
use Rattle.source_meaning.specs.Actions.{plain_value, given, updated, set_plain, update_plain, home_pointer}
use Rattle.source_meaning.specs.Structures.{rvalue, as_rvalue, values_of}
use Rattle.source_meaning.specs.Blocks.{pass_or_stop, test_space, test_keys, place_object, place_variables}
use Rattle.source_meaning.specs.Blocks.{place_variable, over, homes_over, enter_block, has_objects, Block}
use Rattle.source_meaning.specs.Judging.{is_within, is_live_tag}
use Rattle.source_meaning.specs.Staying.{KeepsBy}
use Rattle.source_meaning.proofs.Local.{IsLocal, local_on, local_then, local_skip, local_stop, local_choose}
use Rattle.source_meaning.proofs.Local.{local_read, local_tally}
use Rattle.source_meaning.proofs.ActionsAct.{local_operate, local_updated, local_update, local_take_value}
use Rattle.source_meaning.proofs.ActionsAct.{local_read_rvalue, local_write_rvalue, local_zero_variable}
use Rattle.source_meaning.proofs.ActionsAct.{local_store_bytes, local_as_rvalue, local_take_key}
use Rattle.source_meaning.proofs.ActionsAct.{local_make_zero}
use Rattle.source_meaning.proofs.LibraryActs.{local_routine, local_print}
use Rattle.tac_ir.specs.declared.instruction.Mode.{Mode}
use Rattle.tac_ir.specs.declared.instruction.Mode.TheVariants.{Named, Unchecked, Judged}
use Rattle.tac_ir.specs.declared.instruction.Test.{Test}
use Rattle.tac_ir.specs.declared.instruction.Test.TheVariants.{Spatial, Temporal}
use Rattle.tac_ir.specs.declared.instruction.Instruction.{Instruction}
use Rattle.tac_ir.specs.declared.instruction.Instruction.TheVariants.{SetPlain, UpdatePlain, ZeroOf, Binary, Take, Read}
use Rattle.tac_ir.specs.declared.instruction.Instruction.TheVariants.{Write, Update, Judge, Zero, StorePart, StoreText}
use Rattle.tac_ir.specs.declared.instruction.Instruction.TheVariants.{Library, Print, Call, CallThrough, EnterBlock}
use Rattle.tac_ir.specs.declared.instruction.Instruction.TheVariants.{LeaveBlock, Return}
use Rattle.tac_ir.specs.declared.key.Key.{Key}
use Rattle.tac_ir.specs.declared.function.CodeFunction.{CodeFunction}
use Rattle.tac_ir.specs.declared.function.Tac.{Tac}
use Rattle.tac_ir.specs.Stage.{Temps, gathered, Frame, Waits, Entered, Stage, Begins, Stands, Over, Stuck, came}
use Rattle.tac_ir.specs.Costs.{fourfold, heavier}
use Rattle.tac_ir.specs.Keys.{gives}
use Rattle.tac_ir.specs.Accesses.{only_if, admitted, moved_from, is_through}
use Rattle.tac_ir.specs.Meaning.{function_in, variables_in, blocks_in, if_there, objects_in, text_in, keyed_by, keyed}
use Rattle.tac_ir.specs.Meaning.{right_value, part_pointer, check, left_for, fits, effect, act}

-- runs that keep the homes

abbrev FrameBy : {A : Type 0} → State → Outcome A → Type 0
FrameBy s (Gives a z) = z.frame ≡ s.frame
FrameBy s (Ended e z) = Unit {0}
FrameBy s (Paused z) = Unit {0}

record KeepsFrame {A : Type 0} (r : Run A) : Type 0 where
  by : (s : State) → FrameBy s (r s)

local_by : {A : Type 0} (s : State) (o : Outcome A) → KeepsBy s o → FrameBy s o
local_by s (Gives a z) h = h.frame
local_by s (Ended e z) h = tt
local_by s (Paused z) h = tt

of_local : {A : Type 0} {r : Run A} → IsLocal r → KeepsFrame r
of_local {r = r} h = record { by = λ s. local_by s (r s) (h.keeps s) }

from_by : {A : Type 0} (s z : State) (o : Outcome A) → z.frame ≡ s.frame → FrameBy z o → FrameBy s o
from_by s z (Gives a y) e h = h ∙ e
from_by s z (Ended x y) e h = tt
from_by s z (Paused y) e h = tt

on_by : {A B : Type 0} (s : State) (o : Outcome A) (f : A → Run B) → FrameBy s o → ((a : A) → KeepsFrame (f a))
    → FrameBy s (on o f)
on_by s (Gives a z) f h g = from_by s z (f a z) h ((g a).by z)
on_by s (Ended e z) f h g = tt
on_by s (Paused z) f h g = tt

keeps_on : {A B : Type 0} {r : Run A} {f : A → Run B} → KeepsFrame r → ((a : A) → KeepsFrame (f a))
    → KeepsFrame (r >>= f)
keeps_on {r = r} {f = f} h g = record { by = λ s. on_by s (r s) f (h.by s) g }

fourfold_by : {A : Type 0} (from : ℕ) (s : State) (o : Outcome A) → FrameBy s o → FrameBy s (fourfold from o)
fourfold_by from s (Gives a z) h = h
fourfold_by from s (Ended e z) h = tt
fourfold_by from s (Paused z) h = tt

keeps_heavier : {A : Type 0} {r : Run A} → KeepsFrame r → KeepsFrame (heavier r)
keeps_heavier {r = r} h = record { by = λ s. fourfold_by s.work s (r s) (h.by s) }

keeps_done : {A : Type 0} (a : A) → KeepsFrame (done a)
keeps_done a = record { by = λ s. refl }

keeps_set : (x : ℕ) (v : Value) → KeepsFrame (set_plain x v)
keeps_set x v = record { by = λ s. refl }

keeps_read : (x : ℕ) → KeepsFrame (read_state (plain_value x))
keeps_read x = record { by = λ s. refl }

keeps_update : (x : ℕ) (u : UpdateOf) (k : Scalar) (right : Value) (at : ℕ) (f : Fixity)
    → KeepsFrame (as_rvalue (update_plain x (updated u k right at) f))
keeps_update x u k right at f =
    keeps_on (keeps_on (keeps_read x)
    (λ old. keeps_on (of_local (local_updated u k right at old))
    (λ new. keeps_on (keeps_set x new) (λ _. keeps_done (given f old new)))))
    (λ v. keeps_done (rvalue v))

local_pass : (b : Bool) (e : Ending) → IsLocal (pass_or_stop b e)
local_pass true e = local_skip
local_pass false e = local_stop

keeps_check : (of : Test) (size : ℕ) (v : Value) (line : ℕ) → KeepsFrame (check of size v line)
keeps_check Spatial size v line = of_local (local_pass (is_within v.tag v.word size) (ending.Spatial line))
keeps_check Temporal size v line = record
    { by = λ s. (of_local (local_pass (is_live_tag v.tag s.objects) (ending.Temporal line))).by s }

-- stages

abbrev pub HomesBy : List Frame → State → Stage → Type 0
HomesBy frames s (Begins z) = Unit {0}
HomesBy frames s (Stands u n temps others z) = (others ≡ frames) × (z.frame ≡ s.frame)
HomesBy frames s (Over e z) = Unit {0}
HomesBy frames s Stuck = Unit {0}

pub record KeepsHomes (frames : List Frame) (s : State) (x : Stage) : Type 0 where
  pub by : HomesBy frames s x

stuck_keeps : {frames : List Frame} {s : State} → KeepsHomes frames s Stuck
stuck_keeps = record { by = tt }

stands_keeps : {frames : List Frame} {s z : State} {u m : ℕ} {temps : Temps} → z.frame ≡ s.frame
    → KeepsHomes frames s (Stands u m temps frames z)
stands_keeps e = record { by = (refl, e) }

later_keeps : (frames : List Frame) (s z : State) (x : Stage) → z.frame ≡ s.frame → KeepsHomes frames z x
    → KeepsHomes frames s x
later_keeps frames s z (Begins w) e k = record { by = tt }
later_keeps frames s z (Stands u n temps others w) e k = record { by = (k.by.0, k.by.1 ∙ e) }
later_keeps frames s z (Over x w) e k = record { by = tt }
later_keeps frames s z Stuck e k = record { by = tt }

came_by : {A : Type 0} (frames : List Frame) (s : State) (o : Outcome A) (F : A → State → Stage) → FrameBy s o
    → ((a : A) (z : State) → KeepsHomes frames z (F a z)) → KeepsHomes frames s (came o F)
came_by frames s (Gives a z) F h f = later_keeps frames s z (F a z) h (f a z)
came_by frames s (Ended e z) F h f = record { by = tt }
came_by frames s (Paused z) F h f = record { by = tt }

came_keeps : {A : Type 0} {frames : List Frame} (s : State) {r : Run A} → KeepsFrame r → (F : A → State → Stage)
    → ((a : A) (z : State) → KeepsHomes frames z (F a z)) → KeepsHomes frames s (came (r s) F)
came_keeps {frames = frames} s {r = r} h F f = came_by frames s (r s) F (h.by s) f

only_keeps : {frames : List Frame} {s : State} (b : Bool) (x : Stage) → KeepsHomes frames s x
    → KeepsHomes frames s (only_if b x)
only_keeps true x h = h
only_keeps false x h = stuck_keeps

keyed_keeps : {frames : List Frame} {s : State} (keys : List Key) (key : Option ℕ) (z : State) (v : Value) (x : Stage)
    → KeepsHomes frames s x → KeepsHomes frames s (keyed keys key z v x)
keyed_keeps keys None z v x h = h
keyed_keeps {frames = frames} {s = s} keys (Some n) z v x h = by (slice_get keys n)
  where
    by : (key : Option Key) → KeepsHomes frames s (keyed_by key z v x)
    by None = stuck_keeps
    by (Some key) = only_keeps (gives key z v) x h

admitted_keeps : {frames : List Frame} {s : State} (mode : Mode) (size : ℕ)
    (q : Rvalue) (objects : Objects) (x : Stage) → KeepsHomes frames s x
    → KeepsHomes frames s (admitted mode size q objects x)
admitted_keeps Named size q objects x h = only_keeps _ x h
admitted_keeps Unchecked size q objects x h = only_keeps _ x h
admitted_keeps Judged size q objects x h = only_keeps _ x h

moved_keeps : {frames : List Frame} {s : State} (kind : Kind) (v : Rvalue)
    (objects : Objects) (x : Stage) → KeepsHomes frames s x → KeepsHomes frames s (moved_from kind v objects x)
moved_keeps Void v objects x h = h
moved_keeps (OfScalar k) v objects x h = h
moved_keeps (Structure n) v objects x h = only_keeps _ x h
moved_keeps (Array n) v objects x h = h

ruleset homes = (stuck_keeps, stands_keeps, only_keeps, keyed_keeps, admitted_keeps, moved_keeps, refl)

-- neither a call nor a return, and no block is entered or left
abbrev pub keeps_homes : Instruction → Bool
keeps_homes (Call f line d n m) = false
keeps_homes (CallThrough type_number line d n m) = false
keeps_homes (EnterBlock b line m) = false
keeps_homes (LeaveBlock b m) = false
keeps_homes (Return a) = false
keeps_homes i = true

effect_homes : (g : Setting) (t : Tac) (i : Instruction) (u : ℕ) (temps : Temps) (frames : List Frame) (s : State)
    → keeps_homes i ≡ true → KeepsHomes frames s (effect g t i u temps frames s)
effect_homes g t (SetPlain x a m) u temps frames s e = stands_keeps refl
effect_homes g t (UpdatePlain w k f line d x right m) u temps frames s e =
    search (homes, came_keeps {frames = frames} s (keeps_update x w k (right_value right temps) line f)) depth 9
effect_homes g t (ZeroOf kind d m) u temps frames s e =
    search (homes, came_keeps {frames = frames} s (keeps_heavier (of_local (local_make_zero kind)))) depth 9
effect_homes g t (Binary op ty line d a b m) u temps frames s e =
    search (homes, came_keeps {frames = frames} s (of_local (local_as_rvalue (local_operate op ty (temps a).value (temps b).value line))))
    depth 9
effect_homes g t (Take kind line d a m) u temps frames s e =
    search (homes, came_keeps {frames = frames} s (keeps_heavier (of_local (local_take_value kind line (temps a))))) depth 9
effect_homes g t (Read kind mode line key d a m) u temps frames s e =
    search (homes, came_keeps {frames = frames} s (of_local (local_read_rvalue kind (is_through mode) (temps a) line))) depth 9
effect_homes g t (Write kind mode line key d a b m) u temps frames s e =
    let run = local_write_rvalue kind (is_through mode) (temps a).value line (temps b) in
    search (homes, came_keeps {frames = frames} s (keeps_heavier (of_local run))) depth 9
effect_homes g t (Update w k f mode line at key d a right m) u temps frames s e =
    let run = local_update k (is_through mode) (temps a).value line (updated w k (right_value right temps) at) f
    (local_updated w k (right_value right temps) at) in
    search (homes, came_keeps {frames = frames} s (of_local (local_as_rvalue run))) depth 9
effect_homes g t (Judge test size line key a m) u temps frames s e =
    search (homes, came_keeps {frames = frames} s (keeps_check test size (temps a).value line)) depth 9
effect_homes g t (Zero x m) u temps frames s e =
    search (homes, came_keeps {frames = frames} s (keeps_heavier (of_local (local_zero_variable x)))) depth 9
effect_homes g t (StorePart kind line x offset a m) u temps frames s e =
    let run = local_write_rvalue kind false (part_pointer x offset (size_of_kind kind) s) line (temps a) in
    search (homes, came_keeps {frames = frames} s (keeps_heavier (of_local run))) depth 9
effect_homes g t (StoreText n x offset m) u temps frames s e =
    let run = local_then (local_tally (length (text_in t n)))
    (local_store_bytes (home_pointer x s) offset (text_in t n)) in
    search (homes, came_keeps {frames = frames} s (keeps_heavier (of_local run))) depth 9
effect_homes g t (Library r line d n m) u temps frames s e =
    let run = local_as_rvalue (local_routine g r (values_of (gathered temps d n)) line) in
    search (homes, came_keeps {frames = frames} s (keeps_heavier (of_local run))) depth 9
effect_homes g t (Print x line d n m) u temps frames s e =
    let run = local_as_rvalue (local_print (text_in t x) (values_of (gathered temps d n)) line) in
    search (homes, came_keeps {frames = frames} s (keeps_heavier (of_local run))) depth 9
effect_homes g t (Call f line d n m) u temps frames s e = cc
effect_homes g t (CallThrough type_number line d n m) u temps frames s e = cc
effect_homes g t (EnterBlock b line m) u temps frames s e = cc
effect_homes g t (LeaveBlock b m) u temps frames s e = cc
effect_homes g t (Return a) u temps frames s e = cc
effect_homes g t i u temps frames s e = search homes depth 9

pub act_homes : (g : Setting) (t : Tac) (i : Instruction) (u : ℕ) (temps : Temps) (frames : List Frame) (s : State)
    → keeps_homes i ≡ true → KeepsHomes frames s (act g t i u temps frames s)
act_homes g t i u temps frames s e = only_keeps (fits g t i u temps s) _ (effect_homes g t i u temps frames s e)

-- A block that is entered gives homes to its own variables alone.

abbrev pub is_object_at : List Variable → ℕ → Bool
is_object_at vs x = (get_or vs x no_variable).is_object

abbrev pub home_at : List Home → ℕ → Home
home_at frame x = get_or frame x NoObject

-- what is no variable of the block has the home from before it
pub record KeepsOthers (vs : List Variable) (outer inner : List Home) : Type 0 where
  pub by : (x : ℕ) → is_object_at vs x ≡ false → home_at inner x ≡ home_at outer x

abbrev PlacedBy : List Variable → Outcome (List Home) → Type 0
PlacedBy vs (Gives homes z) = (x : ℕ) → is_object_at vs x ≡ false → home_at homes x ≡ NoObject
PlacedBy vs (Ended e z) = Unit {0}
PlacedBy vs (Paused z) = Unit {0}

abbrev HomeBy : Bool → Outcome Home → Type 0
HomeBy b (Gives home z) = b ≡ false → home ≡ NoObject
HomeBy b (Ended e z) = Unit {0}
HomeBy b (Paused z) = Unit {0}

of_object : (o : Outcome Home) → HomeBy true o
of_object (Gives home z) = λ e. absurd (true≢false e)
of_object (Ended e z) = tt
of_object (Paused z) = tt

placed_home : (b : Bool) (size : ℕ) (s : State) → HomeBy b (choose b (place_object size) (done NoObject) s)
placed_home true size s = of_object (place_object size s)
placed_home false size s = λ e. refl

joined_by : (v : Variable) (vs : List Variable) (home : Home) → (v.is_object ≡ false → home ≡ NoObject)
    → (o : Outcome (List Home)) → PlacedBy vs o → PlacedBy (v ∷ vs) (on o (λ homes. done (home ∷ homes)))
joined_by v vs home h (Gives homes z) p = at
  where
    at : (x : ℕ) → is_object_at (v ∷ vs) x ≡ false → home_at (home ∷ homes) x ≡ NoObject
    at zero e = h e
    at (suc x) e = p x e
joined_by v vs home h (Ended e z) p = tt
joined_by v vs home h (Paused z) p = tt

placed_from : (v : Variable) (vs : List Variable) → ((s : State) → PlacedBy vs (place_variables vs s))
    → (o : Outcome Home) → HomeBy v.is_object o
    → PlacedBy (v ∷ vs) (on o (λ home. place_variables vs >>= (λ homes. done (home ∷ homes))))
placed_from v vs all (Gives home z) h = joined_by v vs home h (place_variables vs z) (all z)
placed_from v vs all (Ended e z) h = tt
placed_from v vs all (Paused z) h = tt

placed : (vs : List Variable) (s : State) → PlacedBy vs (place_variables vs s)
placed [] s = λ x e. refl
placed (v ∷ vs) s = placed_from v vs (placed vs) (place_variable v s) (placed_home v.is_object (size_of_kind v.kind) s)

over_none : (outer inner : List Home) (x : ℕ) → home_at inner x ≡ NoObject
    → home_at (homes_over outer inner) x ≡ home_at outer x
over_none [] inner x e = e
over_none (o ∷ os) [] x e = refl
over_none (o ∷ os) (h ∷ hs) zero e = ap (over o) e
over_none (o ∷ os) (h ∷ hs) (suc x) e = over_none os hs x e

abbrev EnteredBy : List Variable → State → Outcome Block → Type 0
EnteredBy vs s (Gives q z) = (q.frame ≡ s.frame) × KeepsOthers vs s.frame z.frame
EnteredBy vs s (Ended e z) = Unit {0}
EnteredBy vs s (Paused z) = Unit {0}

block_by : (vs : List Variable) (frame : List Home) (top : ℕ) (s : State) → frame ≡ s.frame → (o : Outcome (List Home))
    → PlacedBy vs o
    → EnteredBy vs s (on o (λ homes. change (λ z. record z { frame = homes_over frame homes })
    >> done (record { homes = homes; frame = frame; stacked = top })))
block_by vs frame top s same (Gives homes z) p = (
  same,
  record { by = λ x e. over_none frame homes x (p x e) ∙ ap (λ f. home_at f x) same },
)
block_by vs frame top s same (Ended e z) p = tt
block_by vs frame top s same (Paused z) p = tt

entered_from : (vs : List Variable) (s z : State) (o : Outcome Block) → z.frame ≡ s.frame → EnteredBy vs z o
    → EnteredBy vs s o
entered_from vs s z (Gives q y) e h = (h.0 ∙ e, record { by = λ x n. h.1.by x n ∙ ap (λ f. home_at f x) e })
entered_from vs s z (Ended x y) e h = tt
entered_from vs s z (Paused y) e h = tt

entered_behind : {A : Type 0} (vs : List Variable) (s : State) (o : Outcome A) (r : A → Run Block) → FrameBy s o
    → ((a : A) (z : State) → EnteredBy vs z (r a z)) → EnteredBy vs s (on o r)
entered_behind vs s (Gives a z) r e h = entered_from vs s z (r a z) e (h a z)
entered_behind vs s (Ended x z) r e h = tt
entered_behind vs s (Paused z) r e h = tt

local_test_space : (g : Setting) (vs : List Variable) (line : ℕ) → IsLocal (test_space g vs line)
local_test_space g vs line = local_on (local_read {f = λ s. s.stacked} (λ k s. refl))
    (λ top. local_pass _ (ending.Stack line))

local_test_keys : (g : Setting) (vs : List Variable) (line : ℕ) → IsLocal (test_keys g vs line)
local_test_keys g vs line = local_choose (has_objects vs) (local_take_key g line) local_skip

entered : (g : Setting) (vs : List Variable) (line : ℕ) (s : State) → EnteredBy vs s (enter_block g vs line s)
entered g vs line s =
    entered_behind vs s (test_space g vs line s) _ ((of_local (local_test_space g vs line)).by s)
    (λ _ z. entered_behind vs z (test_keys g vs line z) _ ((of_local (local_test_keys g vs line)).by z)
    (λ _ y. block_by vs y.frame y.stacked y refl (place_variables vs y) (placed vs y)))

heavier_entered : (vs : List Variable) (from : ℕ) (s : State) (o : Outcome Block) → EnteredBy vs s o
    → EnteredBy vs s (fourfold from o)
heavier_entered vs from s (Gives q z) h = h
heavier_entered vs from s (Ended e z) h = tt
heavier_entered vs from s (Paused z) h = tt

-- a block of a function has no variables but those that it declares

closed_by : (d : Variable) (b : Bool) → d.is_object ≡ b → (if b then no_variable else d).is_object ≡ false
closed_by d true e = refl
closed_by d false e = e

not_opened : (xs : List ℕ) (n : ℕ) (ds : List Variable) (x k : ℕ) → k ≡ n + x → is_among xs k ≡ false
    → is_object_at (opened xs n ds (map closed ds)) x ≡ false
not_opened xs n [] x k e none = refl
not_opened xs n (d ∷ ds) zero k e none =
    let at : k ≡ n = omega (arith, e) in
    ap (λ b. (if b then d else closed d).is_object) (ap (is_among xs) (sym at) ∙ none) ∙ closed_by d d.is_object refl
not_opened xs n (d ∷ ds) (suc x) k e none = not_opened xs (suc n) ds x k (omega (arith, e)) none

abbrev pub declared_in : Option CodeFunction → (block : ℕ) → List ℕ
declared_in o b = if_there (slice_get (blocks_in o) b)

-- homes of what a block does not declare are as before it
pub record KeepsUndeclared (declared : List ℕ) (outer inner : List Home) : Type 0 where
  pub by : (x : ℕ) → is_among declared x ≡ false → home_at inner x ≡ home_at outer x

of_block : (o : Option CodeFunction) (b : ℕ) (outer inner : List Home) → KeepsOthers (objects_in o b) outer inner
    → KeepsUndeclared (declared_in o b) outer inner
of_block o b outer inner h = record
    { by = λ x none. h.by x (not_opened (declared_in o b) 0 (variables_in o) x x (omega arith) none) }

-- what stands behind an instruction that enters a block, or leaves one
pub record Enters (o : Option CodeFunction) (b : ℕ) (frames others : List Frame) (s z : State) : Type 0 where
  pub block : Block
  pub entered : others ≡ Entered b block ∷ frames
  pub outer : block.frame ≡ s.frame
  pub keeps : KeepsUndeclared (declared_in o b) s.frame z.frame

pub record Leaves (b : ℕ) (frames others : List Frame) (z : State) : Type 0 where
  pub block : Block
  pub entered : frames ≡ Entered b block ∷ others
  pub outer : z.frame ≡ block.frame

abbrev pub EntersBy : Option CodeFunction → (b : ℕ) → List Frame → State → Stage → Type 0
EntersBy o b frames s (Begins z) = Unit {0}
EntersBy o b frames s (Stands u n temps others z) = Enters o b frames others s z
EntersBy o b frames s (Over e z) = Unit {0}
EntersBy o b frames s Stuck = Unit {0}

abbrev pub LeavesBy : (b : ℕ) → List Frame → Stage → Type 0
LeavesBy b frames (Begins z) = Unit {0}
LeavesBy b frames (Stands u n temps others z) = Leaves b frames others z
LeavesBy b frames (Over e z) = Unit {0}
LeavesBy b frames Stuck = Unit {0}

module _ (g : Setting) (t : Tac) (b u m : ℕ) (temps : Temps) (frames : List Frame) (s : State) where
  enters_by : (o : Outcome Block) → EnteredBy (objects_in (function_in t u) b) s o
      → EntersBy (function_in t u) b frames s (came o (λ q z. Stands u m temps (Entered b q ∷ frames) z))
  enters_by (Gives q z) h = record {
    block = q;
    entered = refl;
    outer = h.0;
    keeps = of_block (function_in t u) b s.frame z.frame h.1;
  }
  enters_by (Ended e z) h = tt
  enters_by (Paused z) h = tt

  only_enters : (test : Bool) (x : Stage) → EntersBy (function_in t u) b frames s x
      → EntersBy (function_in t u) b frames s (only_if test x)
  only_enters true x h = h
  only_enters false x h = tt

  pub act_enters : (line : ℕ)
      → EntersBy (function_in t u) b frames s (act g t (EnterBlock b line m) u temps frames s)
  act_enters line =
      only_enters (fits g t (EnterBlock b line m) u temps s) _
      (enters_by (heavier (enter_block g (objects_in (function_in t u) b) line) s)
      (heavier_entered _ s.work s (enter_block g (objects_in (function_in t u) b) line s)
      (entered g (objects_in (function_in t u) b) line s)))

leaves_only : (b k u m : ℕ) (temps : Temps) (q : Block) (frames : List Frame) (s z : State) → (test : Bool)
    → (k == b) ≡ test → z.frame ≡ q.frame
    → LeavesBy b (Entered k q ∷ frames) (only_if test (Stands u m temps frames z))
leaves_only b k u m temps q frames s z true e outer = record {
  block = q;
  entered = ap (λ n. Entered n q ∷ frames) (eqb-true k b e);
  outer = outer;
}
leaves_only b k u m temps q frames s z false e outer = tt

leaves_by : (b u m : ℕ) (temps : Temps) (frames : List Frame) (s : State)
    → LeavesBy b frames (left_for b u m temps frames s)
leaves_by b u m temps [] s = tt
leaves_by b u m temps (Waits w ∷ frames) s = tt
leaves_by b u m temps (Entered k q ∷ frames) s = leaves_only b k u m temps q frames s _ (k == b) refl refl

pub act_leaves : (g : Setting) (t : Tac) (b u m : ℕ) (temps : Temps) (frames : List Frame) (s : State)
    → LeavesBy b frames (act g t (LeaveBlock b m) u temps frames s)
act_leaves g t b u m temps frames s = leaves_by b u m temps frames s
