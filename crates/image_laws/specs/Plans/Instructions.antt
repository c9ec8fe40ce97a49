-- The registers that the block of an instruction makes and those of homes that it reads, of which instructions it is shown
-- that their blocks assign what they read, and what is asked of a function and its program for that.
use Rattle.std.specs.Prelude.{◌≡◌, ℕ, zero, suc, ◌+◌, ◌^◌, ◌<◌, Bool, true, false, ◌&&◌, ◌==◌, nat_le, if◌then◌else◌}
use Rattle.std.specs.Prelude.{List, [], ◌∷◌}
use Rattle.std.specs.Prelude.{◌++◌, length, Option, Some, None, slice_get}
use Rattle.obj_memory.specs.declared.value.Scalar.{Scalar}
use Rattle.obj_memory.specs.declared.value.Scalar.TheVariants.{Integer, Pointer}
use Rattle.c_tree.specs.declared.expression.Kind.{Kind}
use Rattle.c_tree.specs.declared.expression.Kind.TheVariants.{Scalar as OfScalar, Structure}
use Rattle.c_tree.specs.declared.program.Variable.{Variable}
use Rattle.c_tree.specs.Format.{pieces, directives}
use Rattle.c_tree.specs.Kinds.{routine_signature}
use Rattle.source_meaning.specs.Blocks.{has_objects}
use Rattle.source_meaning.specs.Good.{plain_type}
use Rattle.source_meaning.specs.Printing.{pieces_or_none}
use Rattle.tac_ir.specs.declared.instruction.Instruction.{Instruction}
use Rattle.tac_ir.specs.declared.instruction.Instruction.TheVariants as tac
use Rattle.tac_ir.specs.declared.instruction.Test.{Test}
use Rattle.tac_ir.specs.declared.instruction.Test.TheVariants.{Spatial, Temporal}
use Rattle.tac_ir.specs.declared.key.Base.{Base}
use Rattle.tac_ir.specs.declared.key.Base.TheVariants.{Plain, Automatic, Static}
use Rattle.tac_ir.specs.declared.key.Key.{Key}
use Rattle.tac_ir.specs.declared.function.CodeFunction.{CodeFunction}
use Rattle.tac_ir.specs.declared.function.Tac.{Tac}
use Rattle.tac_ir.specs.Edges.{LeadsTo}
use Rattle.tac_ir.specs.Fitting.{is_update_of}
use Rattle.tac_ir.specs.Meaning.{function_in, objects_in, text_in}
use Rattle.flat_code.specs.declared.function.FlatProgram.{FlatProgram}
use Rattle.flat_code.specs.Calls.{function_in as flat_function}
use Rattle.flat_code.specs.Meaning.{parameters_of, results_of}
use Rattle.flat_code.specs.Routines.Metadata.{entry_registers}
use Rattle.runtime_functions.specs.declared.runtime.RuntimeFunction.{RuntimeFunction}
use Rattle.runtime_functions.specs.Library.{held_from}
use Rattle.runtime_functions.specs.Runtime.{runtime_list, argument_count, result_count}
use Rattle.metadata_plan.specs.Registers.{all_variables}
use Rattle.metadata_plan.specs.Entries.{AreClosed, can_compare, key_in}
use Rattle.metadata_relation.specs.FunctionTypes.{first_of_type}
use Rattle.metadata_relation.specs.Homes.{register_count}
use Rattle.metadata_relation.specs.Laid.{function_of}
use Rattle.metadata_relation.specs.Registers.{temporary_register, variable_register, home_entry, lock_register}
use Rattle.metadata_relation.specs.Registers.{top_register}
use Rattle.metadata_relation.specs.Registers.{first_free, parameters_end, result_words}
use Rattle.metadata_relation.specs.Registers.{total, variable_words}
use Rattle.metadata_relation.specs.Blocks.{Expansion, objects_of_body, result_of, runtime_number}
use Rattle.c_lower.specs.Liveness.Liveness.{IsLive}
use Rattle.image_laws.specs.Plans.Assignment.{IsOneOf, IsBegun, IsAssignedAt, HasOwnHomes}

-- ---- what blocks make

-- the registers of an entry, where it is kept, and those of a value
abbrev pub entry_of : (with_entry : Bool) → (register : ℕ) → List ℕ
entry_of false r = []
entry_of true r = entry_registers (held_from r).tag

abbrev pub value_of : (with_entry : Bool) → (register : ℕ) → List ℕ
value_of b r = r ∷ entry_of b r

-- the result of a call: a pointer with its entry, whether or not that is kept
abbrev pub result_made : Kind → (with_entry : Bool) → (register : ℕ) → List ℕ
result_made (OfScalar Pointer) b r = value_of true r
result_made kind b r = value_of b r

abbrev pub call_made : Tac → Option CodeFunction → (with_entry : Bool) → (register : ℕ) → List ℕ
call_made t None b r = value_of b r
call_made t (Some callee) b r = result_made (result_of t callee) b r

-- the homes of the objects among all variables of a function from one on
abbrev pub homes_from : CodeFunction → (variable : ℕ) → List Variable → List ℕ
homes_from c x [] = []
homes_from c x (v ∷ vs) =
    if v.is_object then entry_registers (home_entry c x) ++ homes_from c (suc x) vs else homes_from c (suc x) vs

-- those of a block that is entered, and the end of the object stack from before it
abbrev pub entered_registers : CodeFunction → (entered : List Variable) → List ℕ
entered_registers c vs = top_register c vs ∷ homes_from c 0 vs

-- Those of the temporary that gets a value, of which the next node tells whether it has an entry there, and those of a
-- block that is entered. The functions that make bytes zero and move structures give a status, which nothing reads.
abbrev pub made_registers : Expansion → (function : ℕ) → CodeFunction → Instruction → List ℕ
made_registers e u c (tac.Constant d w m) = value_of (e.entries u m d) (temporary_register c d)
made_registers e u c (tac.FunctionPointer d f m) = value_of (e.entries u m d) (temporary_register c d)
made_registers e u c (tac.GetPlain d x m) = value_of (e.entries u m d) (temporary_register c d)
made_registers e u c (tac.UpdatePlain w k f line d x right m) = value_of (e.entries u m d) (temporary_register c d)
made_registers e u c (tac.HomePointer d x m) = value_of (e.entries u m d) (temporary_register c d)
made_registers e u c (tac.StaticPointer d n m) = value_of (e.entries u m d) (temporary_register c d)
made_registers e u c (tac.ZeroOf kind d m) = value_of (e.entries u m d) (temporary_register c d)
made_registers e u c (tac.Convert kind d a m) = value_of (e.entries u m d) (temporary_register c d)
made_registers e u c (tac.Unary op ty d a m) = value_of (e.entries u m d) (temporary_register c d)
made_registers e u c (tac.Binary op ty line d a b m) = value_of (e.entries u m d) (temporary_register c d)
made_registers e u c (tac.Offset form size d a b m) = value_of (e.entries u m d) (temporary_register c d)
made_registers e u c (tac.Difference size d a b m) = value_of (e.entries u m d) (temporary_register c d)
made_registers e u c (tac.Narrow offset size d a m) = value_of (e.entries u m d) (temporary_register c d)
made_registers e u c (tac.Member offset size d a m) = value_of (e.entries u m d) (temporary_register c d)
made_registers e u c (tac.Take kind line d a m) = value_of (e.entries u m d) (temporary_register c d)
made_registers e u c (tac.Read kind mode line key d a m) = value_of (e.entries u m d) (temporary_register c d)
made_registers e u c (tac.Write kind mode line key d a b m) = value_of (e.entries u m d) (temporary_register c d)
made_registers e u c (tac.Update w k f mode line at key d a right m) = value_of (e.entries u m d) (temporary_register c d)
made_registers e u c (tac.Library r line d n m) = value_of (e.entries u m d) (temporary_register c d)
made_registers e u c (tac.Print x line d n m) = value_of (e.entries u m d) (temporary_register c d)
made_registers e u c (tac.Call f line d n m) =
    call_made e.code (function_in e.code f) (e.entries u m d) (temporary_register c d)
made_registers e u c (tac.CallThrough type_number line d n m) =
    call_made e.code (slice_get e.code.functions (first_of_type e.code.functions type_number)) (e.entries u m d)
    (temporary_register c d)
made_registers e u c (tac.Zero x m) = (first_free c + 2) ∷ []
made_registers e u c (tac.StorePart (Structure size) line x offset a m) = (first_free c + 3) ∷ []
made_registers e u c (tac.EnterBlock b line m) = entered_registers c (objects_in (Some c) b)
made_registers e u c _ = []

-- ---- what is made where a function begins

-- so many from one on
abbrev pub numbers_from : (first count : ℕ) → List ℕ
numbers_from x zero = []
numbers_from x (suc n) = x ∷ numbers_from (x + 1) n

-- a parameter that is a structure is put to its home by a function, which gives a status that nothing reads
abbrev pub stored_register : CodeFunction → Kind → List ℕ
stored_register c (Structure size) = (first_free c + 7) ∷ []
stored_register c kind = []

abbrev pub stored_registers : CodeFunction → (parameters : List Variable) → List ℕ
stored_registers c [] = []
stored_registers c (v ∷ vs) = (if v.is_object then stored_register c v.kind else []) ++ stored_registers c vs

-- the registers of the objects of the body, among which parameters are stored
abbrev pub body_made : CodeFunction → List ℕ
body_made c =
    if has_objects (objects_of_body c) then entered_registers c (objects_of_body c) ++ stored_registers c c.parameters
    else []

-- the registers of the plain variables behind the parameters, and those
abbrev pub begin_made : CodeFunction → List ℕ
begin_made c = numbers_from (parameters_end c + 1) (total variable_words c.variables) ++ body_made c

-- ---- what blocks read of homes

abbrev pub home_of_base : CodeFunction → Base → List ℕ
home_of_base c (Plain x) = []
home_of_base c (Automatic x) = entry_registers (home_entry c x)
home_of_base c (Static n) = []

-- a check of the bounds of a pointer with the key of a named object compares with where that stands
abbrev pub home_compared : CodeFunction → Test → Option Key → List ℕ
home_compared c test None = []
home_compared c Temporal (Some key) = []
home_compared c Spatial (Some key) = if can_compare Spatial key then home_of_base c key.base else []

-- the lock word of a block that is left, and the end of the object stack from before it
abbrev pub left_registers : CodeFunction → (entered : List Variable) → List ℕ
left_registers c vs = lock_register c vs ∷ top_register c vs ∷ []

abbrev pub homes_read : CodeFunction → Instruction → List ℕ
homes_read c (tac.HomePointer d x m) = entry_registers (home_entry c x)
homes_read c (tac.Zero x m) = entry_registers (home_entry c x)
homes_read c (tac.StorePart kind line x offset a m) = entry_registers (home_entry c x)
homes_read c (tac.StoreText n x offset m) = entry_registers (home_entry c x)
homes_read c (tac.Judge test size line key a m) = home_compared c test (key_in c key)
homes_read c (tac.LeaveBlock b m) = left_registers c (objects_in (Some c) b)
homes_read c (tac.Return a) = if has_objects (objects_of_body c) then left_registers c (objects_of_body c) else []
homes_read c _ = []

-- ---- which instructions

abbrev pub is_plain : Option Scalar → Bool
is_plain None = false
is_plain (Some k) = true

-- a plain variable of a type is updated as one of a scalar
abbrev pub is_updated_as : Option Scalar → Scalar → Bool
is_updated_as None k = false
is_updated_as (Some Pointer) k = true
is_updated_as (Some (Integer t)) (Integer k) = true
is_updated_as (Some (Integer t)) Pointer = false

-- These name plain variables where they read one, update what the update is of, and hand over as many arguments as are
-- taken.
abbrev pub assigns_alone : Tac → CodeFunction → Instruction → Bool
assigns_alone t c (tac.GetPlain d x m) = is_plain (plain_type (all_variables c) x)
assigns_alone t c (tac.UpdatePlain w k f line d x right m) =
    is_updated_as (plain_type (all_variables c) x) k && is_update_of w k
assigns_alone t c (tac.Update w k f mode line at key d a right m) = is_update_of w k
assigns_alone t c (tac.Library r line d n m) = length (routine_signature r).parameters == n
assigns_alone t c (tac.Print x line d n m) = nat_le (length (directives (pieces_or_none (pieces (text_in t x))))) n
assigns_alone t c _ = true

-- What coverage does not test of these: updates are of what they are of, and calls hand over what is taken.
abbrev pub hands_over : Tac → CodeFunction → Instruction → Bool
hands_over t c (tac.UpdatePlain w k f line d x right m) =
    is_updated_as (plain_type (all_variables c) x) k && is_update_of w k
hands_over t c (tac.Update w k f mode line at key d a right m) = is_update_of w k
hands_over t c (tac.Library r line d n m) = length (routine_signature r).parameters == n
hands_over t c (tac.Print x line d n m) = nat_le (length (directives (pieces_or_none (pieces (text_in t x))))) n
hands_over t c _ = true

-- ---- what is asked of the function

-- how many registers a plain variable has
abbrev pub plain_count : Scalar → ℕ
plain_count (Integer t) = 1
plain_count Pointer = 5

-- The function has its number. The sets of temporaries with entries are closed; where the function is entered no value of
-- a temporary is needed; the registers of plain variables are those of parameters, or made where the function begins; and
-- a home that the block of a node reads was made there, or where a block was entered on each path to the node.
pub record IsSetOut (e : Expansion) (number : ℕ) (function : CodeFunction) (parameters : ℕ)
    (begins : List ℕ) : Type 0 where
  pub here : function_in e.code number ≡ Some function
  pub closed : AreClosed e.code function (e.entries number)
  pub unneeded : (z : ℕ) → IsLive function.code function.entry z → ⊥
  pub variables : (x j : ℕ) (k : Scalar) → plain_type (all_variables function) x ≡ Some k → j < plain_count k
      → IsBegun parameters begins (variable_register function x + j)
  pub homes : (n y : ℕ) (i : Instruction) → slice_get function.code n ≡ Some i → IsOneOf (homes_read function i) y
      → IsAssignedAt (IsBegun parameters begins) function (made_registers e number function) n y

-- Each home that the block of a node reads is that of an object of the body, or a block that has it was entered on each
-- path to the node.
abbrev pub entered_by : CodeFunction → Instruction → List ℕ
entered_by c (tac.EnterBlock b line m) = entered_registers c (objects_in (Some c) b)
entered_by c i = []

abbrev pub body_registers : CodeFunction → List ℕ
body_registers c = if has_objects (objects_of_body c) then entered_registers c (objects_of_body c) else []

pub record HasHomesEntered (function : CodeFunction) : Type 0 where
  pub homes : (n y : ℕ) (i : Instruction) → slice_get function.code n ≡ Some i → IsOneOf (homes_read function i) y
      → IsAssignedAt (IsOneOf (body_registers function)) function (entered_by function) n y

-- A function of the code, all of whose nodes lead to nodes: its instructions are ones whose blocks assign what they read, no
-- temporary is needed where it is entered, and homes are read in their blocks.
pub record IsDefinite (code : Tac) (number : ℕ) (function : CodeFunction) : Type 0 where
  pub here : function_in code number ≡ Some function
  pub entry : function.entry < length function.code
  pub nodes : (n m : ℕ) (i : Instruction) → slice_get function.code n ≡ Some i → LeadsTo i m → m < length function.code
  pub assigned : (n : ℕ) (i : Instruction) → slice_get function.code n ≡ Some i → assigns_alone code function i ≡ true
  pub unneeded : (z : ℕ) → IsLive function.code function.entry z → ⊥
  pub homes : HasHomesEntered function

-- ---- what is asked of the program

-- The functions of the text take and give what those of the code do, and behind them stand those of the runtime.
pub record HasCallees (program : FlatProgram) (code : Tac) : Type 0 where
  pub functions : (f : ℕ) (callee : CodeFunction) → function_in code f ≡ Some callee
      → (parameters_of (flat_function program f) ≡ parameters_end callee)
      × (results_of (flat_function program f) ≡ result_words (result_of code callee))
  pub runtime : (k : ℕ) (callee : RuntimeFunction) → slice_get runtime_list k ≡ Some callee
      → (parameters_of (flat_function program (runtime_number code k)) ≡ argument_count callee)
      × (results_of (flat_function program (runtime_number code k)) ≡ 1 + result_count callee)

-- Each function of the code is definite, has fewer than 2^32 instructions, and has a home of its own for each register.
pub record HasDefiniteFunctions (e : Expansion) (homes : CodeFunction → List ℕ) : Type 0 where
  pub each : (u : ℕ) (c : CodeFunction) → function_in e.code u ≡ Some c
      → IsDefinite e.code u c × (length (function_of e u c (homes c)).body < 2 ^ 32)
      × HasOwnHomes (function_of e u c (homes c)) (register_count c)

-- Each instruction of a function, whether or not a path from the entry comes to it, leads to nodes, and hands over what is
-- taken.
pub record IsWhole (code : Tac) (function : CodeFunction) : Type 0 where
  pub nodes : (n m : ℕ) (i : Instruction) → slice_get function.code n ≡ Some i → LeadsTo i m → m < length function.code
  pub handed : (n : ℕ) (i : Instruction) → slice_get function.code n ≡ Some i → hands_over code function i ≡ true
