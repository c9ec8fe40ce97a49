-- What three-address code means: steps from stage to stage. What an instruction does is a run of the source.
use Rattle.std.specs.Prelude.{ℕ, ◌+◌, true, false, cond, ◌==◌, List, [], ◌∷◌, ◌++◌, map, Option, Some, None, slice_get}
use Rattle.std.specs.Prelude.{Bool, ◌&&◌, get_or, length, nat_lt}
use Rattle.behaviours.specs.Behaviour.{Behaviour}
use Rattle.behaviours.specs.Steps.{seen_after}
use Rattle.sb_base.specs.declared.ending.Ending.TheVariants.{Exit, BadCall}
use Rattle.sb_base.specs.Budgets.{BudgetSizes}
use Rattle.obj_memory.specs.declared.object.Storage.TheVariants as storage
use Rattle.obj_memory.specs.declared.value.Value.{Value}
use Rattle.obj_memory.specs.Heap.{rounded_up}
use Rattle.obj_memory.specs.Access.{scalar_size}
use Rattle.obj_memory.specs.Objects.{Objects, pointer_to}
use Rattle.obj_memory.specs.Operators.{unary_value}
use Rattle.obj_memory.specs.Judgement.{narrowed}
use Rattle.c_tree.specs.declared.program.Variable.{Variable}
use Rattle.c_tree.specs.Format.{pieces}
use Rattle.c_tree.specs.Kinds.{size_of_kind, routine_signature}
use Rattle.c_tree.specs.Blocks.{block_objects}
use Rattle.source_meaning.specs.State.{State, Rvalue, NoObject, Run, ◌>>◌, tally, Header, Setting}
use Rattle.source_meaning.specs.Actions.{integer, is_zero, int_of, converted, offset_value, difference_value, operate}
use Rattle.source_meaning.specs.Actions.{updated, plain_value, set_plain, update_plain, update, home_pointer}
use Rattle.source_meaning.specs.Structures.{rvalue, as_rvalue, values_of, take_value, read_rvalue, write_rvalue}
use Rattle.source_meaning.specs.Structures.{member_of, make_zero}
use Rattle.source_meaning.specs.Library.{routine}
use Rattle.source_meaning.specs.Printing.{print_formatted}
use Rattle.source_meaning.specs.Initializers.{zero_variable, store_bytes}
use Rattle.source_meaning.specs.Expressions.{function_pointer, callee}
use Rattle.source_meaning.specs.Blocks.{has_objects, enter_block, leave_block}
use Rattle.source_meaning.specs.Calls.{caller, set_up, back_to, result_of}
use Rattle.source_meaning.specs.Good.{plain_type}
use Rattle.source_meaning.specs.Places.{statics_first}
use Rattle.source_meaning.specs.Judging.{test_bounds, test_life}
use Rattle.source_meaning.specs.Meaning.{fresh}
use Rattle.tac_ir.specs.declared.instruction.RightOperand.{RightOperand}
use Rattle.tac_ir.specs.declared.instruction.RightOperand.TheVariants.{Temporary, One}
use Rattle.tac_ir.specs.declared.instruction.Test.{Test}
use Rattle.tac_ir.specs.declared.instruction.Test.TheVariants.{Spatial, Temporal}
use Rattle.tac_ir.specs.declared.instruction.Instruction.{Instruction}
use Rattle.tac_ir.specs.declared.instruction.Instruction.TheVariants.{Reserved, Skip, Constant, FunctionPointer}
use Rattle.tac_ir.specs.declared.instruction.Instruction.TheVariants.{GetPlain}
use Rattle.tac_ir.specs.declared.instruction.Instruction.TheVariants.{SetPlain, UpdatePlain, HomePointer, StaticPointer}
use Rattle.tac_ir.specs.declared.instruction.Instruction.TheVariants.{ZeroOf, Convert, Unary, Binary, Offset}
use Rattle.tac_ir.specs.declared.instruction.Instruction.TheVariants.{Difference, Narrow, Member, Take, Read, Write}
use Rattle.tac_ir.specs.declared.instruction.Instruction.TheVariants.{Update, Judge, Zero, StorePart, StoreText, Branch}
use Rattle.tac_ir.specs.declared.instruction.Instruction.TheVariants.{Case, Turn, Library, Print, Call, CallThrough}
use Rattle.tac_ir.specs.declared.instruction.Instruction.TheVariants.{EnterBlock, LeaveBlock, Return}
use Rattle.tac_ir.specs.declared.key.Key.{Key}
use Rattle.tac_ir.specs.declared.function.CodeFunction.{CodeFunction}
use Rattle.tac_ir.specs.declared.function.CountedLoop.{CountedLoop}
use Rattle.tac_ir.specs.declared.function.StaticData.{StaticData}
use Rattle.tac_ir.specs.declared.function.Tac.{Tac}
use Rattle.tac_ir.specs.Stage.{Temps, no_temps, with_temp, gathered, Frame, Waits, Entered, Stage, Begins, Stands, Over}
use Rattle.tac_ir.specs.Stage.{Stuck, came, seen}
use Rattle.tac_ir.specs.Keys.{gives}
use Rattle.tac_ir.specs.Accesses.{only_if, can_check, is_live_at, admitted, moved_from, is_home, is_through}
use Rattle.tac_ir.specs.Fitting.{is_word, is_passed, are_passed, is_written, is_in_place, is_held, is_update_of}
use Rattle.tac_ir.specs.Fitting.{is_type}
use Rattle.tac_ir.specs.Fitting.{taken_by, fit_type, are_printed, is_of_key, is_counted, have_no_homes}
use Rattle.tac_ir.specs.Costs.{cost, first_call, handing, spent, heavier}

-- tables

abbrev pub code_of : Option CodeFunction → List Instruction
code_of None = []
code_of (Some c) = c.code

abbrev pub keys_of : Option CodeFunction → List Key
keys_of None = []
keys_of (Some c) = c.keys

abbrev pub variables_in : Option CodeFunction → List Variable
variables_in None = []
variables_in (Some c) = c.parameters ++ c.variables

abbrev pub blocks_in : Option CodeFunction → List (List ℕ)
blocks_in None = []
blocks_in (Some c) = c.blocks

abbrev pub loops_of : Option CodeFunction → List CountedLoop
loops_of None = []
loops_of (Some c) = c.loops

abbrev pub type_of : Option CodeFunction → ℕ
type_of None = 0
type_of (Some c) = c.type_number

abbrev pub if_there : Option (List ℕ) → List ℕ
if_there None = []
if_there (Some ns) = ns

-- the variables of a function, of which those alone are objects that one of its blocks declares
abbrev pub objects_in : Option CodeFunction → (block : ℕ) → List Variable
objects_in c b = block_objects (variables_in c) (if_there (slice_get (blocks_in c) b))

abbrev pub function_in : Tac → ℕ → Option CodeFunction
function_in t u = slice_get t.functions u

abbrev pub text_in : Tac → ℕ → List ℕ
text_in t n = if_there (slice_get t.texts n)

-- an access with a key is stuck unless the key gives its pointer
abbrev pub keyed_by : Option Key → State → Value → Stage → Stage
keyed_by None s v next = Stuck
keyed_by (Some key) s v next = only_if (gives key s v) next

abbrev pub keyed : List Key → Option ℕ → State → Value → Stage → Stage
keyed keys None s v next = next
keyed keys (Some n) s v next = keyed_by (slice_get keys n) s v next

-- values

abbrev pub right_value : RightOperand → Temps → Value
right_value (Temporary b) temps = (temps b).value
right_value One temps = integer 1

-- a part of the object of a variable, to which a value is moved
abbrev pub part_pointer : (variable offset size : ℕ) → State → Value
part_pointer x offset size s = narrowed offset size (home_pointer x s)

-- the run that a check is
abbrev pub check : Test → (size : ℕ) → Value → (line : ℕ) → Run (Unit {0})
check Spatial size v line = test_bounds size v line
check Temporal size v line = test_life v line

-- calls

abbrev pub header_of_code : CodeFunction → Header
header_of_code c = record {
  line = c.line;
  type_number = c.type_number;
  parameters = c.parameters;
  variables = c.variables;
  entered = c.entered;
  room = c.room;
}

abbrev pub setting_of_code : Tac → BudgetSizes → Setting
setting_of_code t budgets = record {
  functions = map header_of_code t.functions;
  results = t.results;
  sizes = record { budgets = budgets; global_bytes = t.global_bytes };
}

abbrev pub begun : State → State
begun s = record s { turns = s.turns + 1 }

-- a call of a function that is there, whose turn begins
abbrev pub called_at : Setting → Option CodeFunction → (function : ℕ) → List Rvalue → (line : ℕ) → List Frame → State
    → Stage
called_at g None f vs line frames s = Over (BadCall line) s
called_at g (Some c) f vs line frames s =
    came (heavier (set_up g (header_of_code c) vs line) (begun s)) (λ _ s. Stands f c.entry no_temps frames s)

abbrev pub called : Setting → Tac → (function : ℕ) → List Rvalue → (line : ℕ) → List Frame → State → Stage
called g t f vs line frames s = called_at g (function_in t f) f vs line frames s

-- a return goes to the caller that waits, or ends the run; no block may still be entered
abbrev pub given_to : List Frame → Rvalue → State → Stage
given_to [] v s = Over (Exit (int_of v.value.word)) s
given_to (Waits w ∷ frames) v s = Stands w.function w.node (with_temp w.temps w.place v) frames (back_to w.caller s)
given_to (Entered n b ∷ frames) v s = Stuck

-- the block that was entered last is left, if it has that number
abbrev pub left_for : (number : ℕ) → (function node : ℕ) → Temps → List Frame → State → Stage
left_for n u m temps [] s = Stuck
left_for n u m temps (Waits w ∷ frames) s = Stuck
left_for n u m temps (Entered k b ∷ frames) s = only_if (k == n) (Stands u m temps frames (leave_block b s))

-- steps

-- a temporary gets what a run gives
abbrev pub given_in : (function node : ℕ) → Temps → (to : ℕ) → List Frame → Rvalue → State → Stage
given_in u m temps d frames v s = Stands u m (with_temp temps d v) frames s

-- what an instruction of a function does, where what it is given fits
abbrev pub effect : Setting → Tac → Instruction → (function : ℕ) → Temps → List Frame → State → Stage
effect g t Reserved u temps frames s = Stuck
effect g t (Skip m) u temps frames s = Stands u m temps frames s
effect g t (Constant d w m) u temps frames s = Stands u m (with_temp temps d (rvalue (integer w))) frames s
effect g t (FunctionPointer d f m) u temps frames s = Stands u m (with_temp temps d
    (rvalue (function_pointer f))) frames s
effect g t (GetPlain d x m) u temps frames s = Stands u m (with_temp temps d (rvalue (plain_value x s))) frames s
effect g t (SetPlain x a m) u temps frames s = came (set_plain x (temps a).value s) (λ _ s. Stands u m temps frames s)
effect g t (UpdatePlain w k f line d x right m) u temps frames s =
    came (as_rvalue (update_plain x (updated w k (right_value right temps) line) f) s) (given_in u m temps d frames)
effect g t (HomePointer d x m) u temps frames s = Stands u m (with_temp temps d (rvalue (home_pointer x s))) frames s
effect g t (StaticPointer d n m) u temps frames s = Stands u m (with_temp temps d (rvalue (pointer_to n s.objects)))
    frames s
effect g t (ZeroOf kind d m) u temps frames s = came (heavier (make_zero kind) s) (given_in u m temps d frames)
effect g t (Convert kind d a m) u temps frames s = Stands u m (with_temp temps d
    (rvalue (converted kind (temps a).value)))
    frames s
effect g t (Unary op ty d a m) u temps frames s =
    Stands u m (with_temp temps d (rvalue (integer (unary_value op ty (temps a).value.word)))) frames s
effect g t (Binary op ty line d a b m) u temps frames s =
    came (as_rvalue (operate op ty (temps a).value (temps b).value line) s) (given_in u m temps d frames)
effect g t (Offset form size d a b m) u temps frames s =
    Stands u m (with_temp temps d (rvalue (offset_value form size (temps a).value (temps b).value))) frames s
effect g t (Difference size d a b m) u temps frames s =
    Stands u m (with_temp temps d (rvalue (difference_value size (temps a).value (temps b).value))) frames s
effect g t (Narrow offset size d a m) u temps frames s =
    Stands u m (with_temp temps d (rvalue (narrowed offset size (temps a).value))) frames s
effect g t (Member offset size d a m) u temps frames s = Stands u m (with_temp temps d
    (member_of offset size (temps a)))
    frames s
effect g t (Take kind line d a m) u temps frames s =
    moved_from kind (temps a) s.objects
    (came (heavier (take_value kind line (temps a)) s) (given_in u m temps d frames))
effect g t (Read kind mode line key d a m) u temps frames s =
    keyed (keys_of (function_in t u)) key s (temps a).value (admitted mode (size_of_kind kind) (temps a) s.objects
    (came (read_rvalue kind (is_through mode) (temps a) line s) (given_in u m temps d frames)))
effect g t (Write kind mode line key d a b m) u temps frames s =
    keyed (keys_of (function_in t u)) key s (temps a).value (admitted mode (size_of_kind kind) (temps a) s.objects
    (moved_from kind (temps b) s.objects
    (came (heavier (write_rvalue kind (is_through mode) (temps a).value line (temps b)) s)
    (given_in u m temps d frames))))
effect g t (Update w k f mode line at key d a right m) u temps frames s =
    keyed (keys_of (function_in t u)) key s (temps a).value (admitted mode (scalar_size k) (temps a) s.objects
    (came (as_rvalue (update k (is_through mode) (temps a).value line (updated w k (right_value right temps) at) f) s)
    (given_in u m temps d frames)))
effect g t (Judge test size line key a m) u temps frames s =
    keyed (keys_of (function_in t u)) key s (temps a).value (only_if (can_check test size (temps a).value)
    (came (check test size (temps a).value line s) (λ _ s. Stands u m temps frames s)))
effect g t (Zero x m) u temps frames s =
    only_if (is_home (get_or s.frame x NoObject) s.objects)
    (came (heavier (zero_variable x) s) (λ _ s. Stands u m temps frames s))
effect g t (StorePart kind line x offset a m) u temps frames s =
    only_if (is_live_at (size_of_kind kind) (part_pointer x offset (size_of_kind kind) s) s.objects)
    (moved_from kind (temps a) s.objects
    (came (heavier (write_rvalue kind false (part_pointer x offset (size_of_kind kind) s) line (temps a)) s)
    (λ _ s. Stands u m temps frames s)))
effect g t (StoreText n x offset m) u temps frames s =
    only_if (is_live_at (offset + length (text_in t n)) (home_pointer x s) s.objects)
    (came (heavier (tally (length (text_in t n)) >> store_bytes (home_pointer x s) offset (text_in t n)) s)
    (λ _ s. Stands u m temps frames s))
effect g t (Branch a x y) u temps frames s = Stands u (cond (is_zero (temps a).value) y x) temps frames s
effect g t (Case a w x y) u temps frames s = Stands u (cond ((temps a).value.word == w) x y) temps frames s
effect g t (Turn counted m) u temps frames s = Stands u m temps frames (begun s)
effect g t (Library r line d n m) u temps frames s =
    came (heavier (as_rvalue (routine g r (values_of (gathered temps d n)) line)) s) (given_in u m temps d frames)
effect g t (Print x line d n m) u temps frames s =
    came (heavier (as_rvalue (print_formatted (text_in t x) (values_of (gathered temps d n)) line)) s)
    (given_in u m temps d frames)
effect g t (Call f line d n m) u temps frames s =
    called g t f (gathered temps d n) line
    (Waits (record { function = u; node = m; place = d; caller = caller s; temps = temps }) ∷ frames) s
effect g t (CallThrough type_number line d n m) u temps frames s =
    came (callee g.functions type_number (temps d).value line s) (λ f s'.
    called g t f (gathered temps (d + 1) n) line
    (Waits (record { function = u; node = m; place = d; caller = caller s; temps = temps }) ∷ frames) s')
effect g t (EnterBlock b line m) u temps frames s =
    came (heavier (enter_block g (objects_in (function_in t u) b) line) s)
    (λ q s. Stands u m temps (Entered b q ∷ frames) s)
effect g t (LeaveBlock b m) u temps frames s = left_for b u m temps frames s
effect g t (Return a) u temps frames s = given_to frames (temps a) (spent (handing (temps a)) s)

-- what a function takes; of one that is not there nothing is asked
abbrev pub fit_call : Option CodeFunction → List Rvalue → Bool
fit_call None vs = true
fit_call (Some c) vs = are_passed (taken_by (header_of_code c)) vs

-- whether the pointer of an access or a check is one that its key may be of
abbrev pub fits_key : Tac → (function : ℕ) → Option ℕ → State → Value → Bool
fits_key t u None s v = true
fits_key t u (Some n) s v =
    is_of_key (variables_in (function_in t u)) t.statics (slice_get (keys_of (function_in t u)) n) s v

-- whether what an instruction of a function is given is what it can be asked of
abbrev pub fits : Setting → Tac → Instruction → (function : ℕ) → Temps → State → Bool
fits g t (Constant d w m) u temps s = is_word w
fits g t (FunctionPointer d f m) u temps s = nat_lt f (length g.functions)
fits g t (SetPlain x a m) u temps s = is_held (plain_type (variables_in (function_in t u)) x) (temps a)
fits g t (UpdatePlain w k f line d x right m) u temps s =
    is_type (plain_type (variables_in (function_in t u)) x) k && is_update_of w k
fits g t (HomePointer d x m) u temps s = is_home (get_or s.frame x NoObject) s.objects
fits g t (StaticPointer d n m) u temps s = nat_lt n (length t.statics)
fits g t (Convert kind d a m) u temps s = is_in_place (temps a).contents d a
fits g t (Member offset size d a m) u temps s = is_in_place (temps a).contents d a
fits g t (Take kind line d a m) u temps s = is_in_place (temps a).contents d a
fits g t (Read kind mode line key d a m) u temps s = is_in_place (temps a).contents d a && fits_key t u key s
    (temps a).value
fits g t (Write kind mode line key d a b m) u temps s = is_written kind (temps b) && fits_key t u key s (temps a).value
fits g t (Update w k f mode line at key d a right m) u temps s = is_update_of w k && fits_key t u key s (temps a).value
fits g t (Judge test size line key a m) u temps s = fits_key t u key s (temps a).value
fits g t (StorePart kind line x offset a m) u temps s = is_written kind (temps a)
fits g t (Turn (Some n) m) u temps s = is_counted (slice_get (loops_of (function_in t u)) n) s
fits g t (Library r line d n m) u temps s = are_passed (routine_signature r).parameters (gathered temps d n)
fits g t (Print x line d n m) u temps s = are_printed (pieces (text_in t x)) (gathered temps d n)
fits g t (Call f line d n m) u temps s = fit_call (function_in t f) (gathered temps d n)
fits g t (CallThrough type_number line d n m) u temps s = fit_type g.functions type_number (gathered temps (d + 1) n)
fits g t (EnterBlock b line m) u temps s =
    has_objects (objects_in (function_in t u) b)
    && have_no_homes s.frame (if_there (slice_get (blocks_in (function_in t u)) b))
fits g t (Return a) u temps s = is_passed (result_of g (type_of (function_in t u))) (temps a)
fits g t i u temps s = true

-- What an instruction of a function does, once its cost is paid. It is stuck unless what it is given fits.
abbrev pub act : Setting → Tac → Instruction → (function : ℕ) → Temps → List Frame → State → Stage
act g t i u temps frames s = only_if (fits g t i u temps s) (effect g t i u temps frames s)

abbrev pub act_at : Setting → Tac → Option Instruction → (function : ℕ) → Temps → List Frame → State → Stage
act_at g t None u temps frames s = Stuck
act_at g t (Some i) u temps frames s = act g t i u temps frames (spent (cost i) s)

abbrev pub line_in : Option CodeFunction → ℕ
line_in None = 0
line_in (Some c) = c.line

-- the instruction at a node
abbrev pub at_node : Tac → (function node : ℕ) → Option Instruction
at_node t u n = slice_get (code_of (function_in t u)) n

-- the first step calls `main`, at the line of its name, which costs too
abbrev pub step : Setting → Tac → Stage → Stage
step g t (Begins s) = called g t t.main [] (line_in (function_in t t.main)) [] (spent first_call s)
step g t (Stands u n temps frames s) = act_at g t (at_node t u n) u temps frames s
step g t (Over e s) = Over e s
step g t Stuck = Stuck

-- the meaning

-- the static objects before the run, each at a multiple of 16 from an address on
abbrev pub placed_data : (first : ℕ) → List StaticData → (offset : ℕ) → Objects
placed_data first [] offset = []
placed_data first (d ∷ ds) offset =
    record {
      storage = storage.Static;
      address = first + rounded_up 16 offset;
      size = d.size;
      is_live = true;
      bytes = d.bytes;
      tags = d.tags;
    } ∷ placed_data first ds (rounded_up 16 offset + d.size)

abbrev pub objects_before : Tac → Setting → Objects
objects_before t g = placed_data (statics_first g) t.statics 0

abbrev pub first_stage : Tac → BudgetSizes → (input : List ℕ) → Stage
first_stage t budgets input = let g = setting_of_code t budgets in Begins (fresh g (objects_before t g) input)

-- what is seen after so many steps
abbrev pub tac_meaning : Tac → BudgetSizes → (input : List ℕ) → Behaviour
tac_meaning t budgets input = seen_after (step (setting_of_code t budgets) t) seen (first_stage t budgets input)
