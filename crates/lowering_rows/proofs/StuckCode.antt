-- Code that is stuck by one of the tests of three-address code, an instruction each.
use Rattle.std.proofs.Common.{◌≡◌, ℕ, ◌+◌, ◌-◌, ◌*◌, ◌^◌, List, [], ◌∷◌, get_or, Option, Some, None, Bool, true, false}
use Rattle.std.proofs.Common.{◌&&◌, refl}
use Rattle.std.specs.Prelude.{codes, not}
use Rattle.std.specs.List.{list_all}
use Rattle.sb_base.specs.Budgets.{default_sizes}
use Rattle.obj_memory.specs.declared.int_type.IntType.TheVariants.{Int, UnsignedLong}
use Rattle.obj_memory.specs.declared.object.Storage.TheVariants as storage
use Rattle.obj_memory.specs.declared.operator.BinaryOperator.TheVariants.{Add}
use Rattle.obj_memory.specs.declared.value.Scalar.{Scalar}
use Rattle.obj_memory.specs.declared.value.Scalar.TheVariants.{Integer, Pointer}
use Rattle.obj_memory.specs.declared.value.Tag.TheVariants.{OfObject}
use Rattle.obj_memory.specs.declared.value.Value.{Value}
use Rattle.obj_memory.specs.Objects.{ObjectState, new_object}
use Rattle.c_tree.specs.declared.expression.Fixity.TheVariants.{Postfix}
use Rattle.c_tree.specs.declared.expression.Kind.TheVariants.{Structure}
use Rattle.c_tree.specs.declared.expression.Routine.TheVariants.{Putchar}
use Rattle.c_tree.specs.declared.expression.Update.{Update}
use Rattle.c_tree.specs.declared.expression.Update.TheVariants.{Arithmetic, Forward}
use Rattle.source_meaning.specs.State.{State, Setting, Rvalue, NoObject, InObject}
use Rattle.source_meaning.specs.Actions.{integer}
use Rattle.source_meaning.specs.Structures.{rvalue, zero_of}
use Rattle.source_meaning.specs.Expressions.{function_pointer}
use Rattle.source_meaning.specs.Blocks.{Block}
use Rattle.source_meaning_rows.proofs.Samples.{int, pointer, plain_variable, object_variable, computing}
use Rattle.tac_ir.specs.declared.instruction.Mode.{Mode}
use Rattle.tac_ir.specs.declared.instruction.Mode.TheVariants.{Named, Unchecked}
use Rattle.tac_ir.specs.declared.instruction.Test.TheVariants.{Spatial, Temporal}
use Rattle.tac_ir.specs.declared.instruction.RightOperand.TheVariants.{One}
use Rattle.tac_ir.specs.declared.instruction.Instruction.{Instruction}
use Rattle.tac_ir.specs.declared.instruction.Instruction.TheVariants.{Constant, FunctionPointer, SetPlain, UpdatePlain}
use Rattle.tac_ir.specs.declared.instruction.Instruction.TheVariants.{HomePointer, StaticPointer, Convert, Member, Take}
use Rattle.tac_ir.specs.declared.instruction.Instruction.TheVariants.{Read, Write, Update as UpdateObject, Judge}
use Rattle.tac_ir.specs.declared.instruction.Instruction.TheVariants.{StorePart, Turn, Library, Print, Call}
use Rattle.tac_ir.specs.declared.instruction.Instruction.TheVariants.{CallThrough, EnterBlock, LeaveBlock, Return}
use Rattle.tac_ir.specs.declared.key.Base.{Base}
use Rattle.tac_ir.specs.declared.key.Base.TheVariants as base
use Rattle.tac_ir.specs.declared.key.Key.{Key}
use Rattle.tac_ir.specs.declared.function.CodeFunction.{CodeFunction}
use Rattle.tac_ir.specs.declared.function.CountedLoop.{CountedLoop}
use Rattle.tac_ir.specs.Bodies.{no_nodes}
use Rattle.tac_ir.specs.declared.function.StaticData.{StaticData}
use Rattle.tac_ir.specs.declared.function.Tac.{Tac}
use Rattle.tac_ir.specs.Stage.{Temps, no_temps, with_temp, Frame, Entered, Stage, Begins, Stands, Over, Stuck}
use Rattle.tac_ir.specs.Meaning.{setting_of_code, effect, act}

-- ---- tests of what an instruction does

-- a pointer just behind its object of four bytes
behind : Value
behind = record { word = 20; tag = OfObject 0 (record { base = 16; bound = 20 }) }

-- block 1 is left where block 0 was entered
another_block_is_left : (g : Setting) (t : Tac) (u m : ℕ) (temps : Temps) (b : Block) (frames : List Frame) (s : State)
    → act g t (LeaveBlock 1 m) u temps (Entered 0 b ∷ frames) s ≡ Stuck
another_block_is_left g t u m temps b frames s = refl

-- the life of an object is asked for where the bounds do not allow the access
life_is_asked_for_outside : (g : Setting) (t : Tac) (u m : ℕ) (frames : List Frame) (s : State)
    → act g t (Judge Temporal 4 1 None 0 m) u (with_temp no_temps 0 (rvalue behind)) frames s ≡ Stuck
unfolding behind
life_is_asked_for_outside g t u m frames s = refl

-- ---- tests of what it is given: a program of two functions

abbrev key : Base → Key
key b = record { base = b; path = []; constant = 0; scaled = None }

abbrev counted : (start bound : ℕ) → CountedLoop
counted start bound = record {
  variable = 0;
  start = start;
  bound = bound;
  setting = 0;
  condition = 0;
  turn = 0;
  step = 0;
  body = no_nodes;
  added = no_nodes;
}

-- An int and a pointer are plain; of four objects of an int one is as it is declared, one is dead, one has another size
-- and one has no home. The first block declares the last of them, the second the first.
abbrev first_function : CodeFunction
first_function = record {
  line = 1;
  type_number = 0;
  parameters = [];
  variables = plain_variable int
      ∷ plain_variable pointer
      ∷ object_variable int
      ∷ object_variable int
      ∷ object_variable int
      ∷ object_variable int
      ∷ [];
  entered = [];
  room = 0;
  entry = 0;
  code = [];
  keys = key (base.Automatic 2)
      ∷ key (base.Automatic 3)
      ∷ key (base.Automatic 4)
      ∷ key (base.Automatic 5)
      ∷ key (base.Static 0)
      ∷ key (base.Static 1)
      ∷ [];
  blocks = (5 ∷ []) ∷ (2 ∷ []) ∷ [];
  loops = counted 2 4 ∷ counted 4 5 ∷ counted 2 3 ∷ [];
}

-- it takes an int and a structure of four bytes
abbrev second_function : CodeFunction
second_function = record first_function {
  type_number = 1;
  parameters = plain_variable int ∷ plain_variable (Structure 4) ∷ [];
  variables = [];
}

abbrev static_data : StaticData
static_data = record { size = 4; bytes = 0 ∷ 0 ∷ 0 ∷ 0 ∷ []; tags = [] }

abbrev program : Tac
program = record {
  functions = first_function ∷ second_function ∷ [];
  results = int ∷ int ∷ [];
  main = 0;
  statics = static_data ∷ record static_data { size = 8 } ∷ [];
  global_bytes = 12;
  texts = codes "%d" ∷ [];
}

abbrev stored : (number size : ℕ) → ObjectState
stored number size = new_object storage.Automatic (16 + 16 * number) size

abbrev state : State
state = record {
  objects = stored 0 4 ∷ stored 1 4 ∷ stored 2 4 ∷ record (stored 3 4) { is_live = false } ∷ stored 4 8 ∷ [];
  frame = NoObject ∷ NoObject ∷ InObject 2 ∷ InObject 3 ∷ InObject 4 ∷ NoObject ∷ [];
  plain = integer 3 ∷ integer 0 ∷ [];
  input = [];
  taken = 0;
  output = [];
  accesses = [];
  work = 0;
  turns = 0;
  charged = 0;
  stacked = 0;
  keys = 0;
}

-- ---- values

abbrev seven : Rvalue
seven = rvalue (integer 7)

-- a word that is no int, and no word
abbrev large : Rvalue
large = rvalue (integer (2 ^ 40))

abbrev wide : Rvalue
wide = rvalue (integer (2 ^ 64))

abbrev structure : Rvalue
structure = zero_of (Structure 4)

-- the pointer to an object, the same where it is no word, and that to the second function
abbrev to : (number size : ℕ) → Rvalue
to number size =
    let a = 16 + 16 * number in
    rvalue (record { word = a; tag = OfObject number (record { base = a; bound = a + size }) })

abbrev wrapped : Rvalue
wrapped = rvalue (record (to 0 4).value { word = 2 ^ 64 + 16 })

abbrev to_second : Rvalue
to_second = rvalue (function_pointer 1)

-- ---- rows

abbrev update_plain : Update → Scalar → (variable : ℕ) → Instruction
update_plain w k x = UpdatePlain w k Postfix 1 0 x One 1

abbrev update : Mode → (key : Option ℕ) → Update → Scalar → Instruction
update mode key w k = UpdateObject w k Postfix mode 1 1 key 1 0 One 1

-- an int is read, and checked, through a pointer that has a key
abbrev read : (key : ℕ) → Instruction
read k = Read int Unchecked 1 (Some k) 1 0 1

abbrev judge : (key : ℕ) → Instruction
judge k = Judge Spatial 4 1 (Some k) 0 1

abbrev is_stuck : Stage → Bool
is_stuck (Begins s) = false
is_stuck (Stands u n temps frames s) = false
is_stuck (Over e s) = false
is_stuck Stuck = true

-- an instruction that is stuck and one that is not, each with the values of its temporaries
data Row : Type 0 where
  row : (wrong : Instruction) → (given : List Rvalue) → (right : Instruction) → (fitting : List Rvalue) → Row

-- by the instruction, and by what it is given
abbrev instructions : (wrong right : Instruction) → List Rvalue → Row
instructions i j vs = row i vs j vs

abbrev values : Instruction → (wrong right : List Rvalue) → Row
values i vs ws = row i vs i ws

abbrev temporaries : List Rvalue → Temps
temporaries vs d = get_or vs d (rvalue (integer 0))

abbrev g : Setting
g = setting_of_code program default_sizes

-- it is not stuck, with its test and without
abbrev is_right : Instruction → List Rvalue → Bool
is_right i vs = not (is_stuck (act g program i 0 (temporaries vs) [] state))

abbrev can_be_done : Instruction → List Rvalue → Bool
can_be_done i vs = not (is_stuck (effect g program i 0 (temporaries vs) [] state))

-- the one is stuck by its test alone
abbrev holds : Row → Bool
holds (row i vs j ws) = not (is_right i vs) && (can_be_done i vs && is_right j ws)

abbrev rows : List Row
rows =
    -- a constant that is no word
    instructions (Constant 0 (2 ^ 64) 1) (Constant 0 (2 ^ 64 - 1) 1) []
    -- a function and a static object that are not there
    ∷ instructions (FunctionPointer 0 2 1) (FunctionPointer 0 1 1) []
    ∷ instructions (StaticPointer 0 2 1) (StaticPointer 0 1 1) []
    -- the pointer to an object whose block is not entered, and to one that is dead
    ∷ instructions (HomePointer 0 5 1) (HomePointer 0 2 1) []
    ∷ instructions (HomePointer 0 3 1) (HomePointer 0 2 1) []
    -- a plain int set to a pointer, to a word that is no int and to a structure; a pointer to what is no word
    ∷ values (SetPlain 0 0 1) (to 0 4 ∷ []) (seven ∷ [])
    ∷ values (SetPlain 0 0 1) (large ∷ []) (seven ∷ [])
    ∷ values (SetPlain 0 0 1) (structure ∷ []) (seven ∷ [])
    ∷ values (SetPlain 1 0 1) (wide ∷ []) (large ∷ [])
    -- an object set as a plain variable is
    ∷ instructions (SetPlain 2 0 1) (SetPlain 0 0 1) (seven ∷ [])
    -- a plain int updated in another type, and one moved by elements
    ∷ instructions (update_plain (Arithmetic Add UnsignedLong) (Integer UnsignedLong) 0)
    (update_plain (Arithmetic Add Int) (Integer Int) 0) []
    ∷ instructions (update_plain (Forward 4) (Integer Int) 0) (update_plain (Forward 4) Pointer 1) []
    -- an int in an object moved by elements, and a pointer added to
    ∷ instructions (update Named None (Forward 4) (Integer Int))
    (update Named None (Arithmetic Add Int) (Integer Int)) (to 0 4 ∷ [])
    ∷ instructions (update Named None (Arithmetic Add Int) Pointer)
    (update Named None (Forward 4) Pointer) (to 4 8 ∷ [])
    -- contents that move to another temporary
    ∷ instructions (Member 0 4 1 0 1) (Member 0 4 0 0 1) (structure ∷ [])
    ∷ instructions (Convert (Structure 4) 1 0 1) (Convert (Structure 4) 0 0 1) (structure ∷ [])
    ∷ instructions (Take (Structure 4) 1 1 0 1) (Take (Structure 4) 1 0 0 1) (structure ∷ [])
    ∷ instructions (Read int Named 1 None 1 0 1) (Read int Named 1 None 0 0 1) (structure ∷ [])
    -- a structure written where an int is
    ∷ values (Write int Named 1 None 2 0 1 1) (to 0 4 ∷ structure ∷ []) (to 0 4 ∷ seven ∷ [])
    ∷ values (StorePart int 1 2 0 0 1) (structure ∷ []) (seven ∷ [])
    -- a key whose pointer is no word
    ∷ values (read 4) (wrapped ∷ []) (to 0 4 ∷ [])
    ∷ values (Write int Unchecked 1 (Some 4) 2 0 1 1) (wrapped ∷ seven ∷ []) (to 0 4 ∷ seven ∷ [])
    ∷ values (update Unchecked (Some 4) (Arithmetic Add Int) (Integer Int)) (wrapped ∷ []) (to 0 4 ∷ [])
    ∷ values (judge 4) (wrapped ∷ []) (to 0 4 ∷ [])
    -- one whose object is dead, has another size or is not there; the same of a static object
    ∷ row (read 1) (to 3 4 ∷ []) (read 0) (to 2 4 ∷ [])
    ∷ row (read 2) (to 4 8 ∷ []) (read 0) (to 2 4 ∷ [])
    ∷ row (judge 3) [] (judge 0) (to 2 4 ∷ [])
    ∷ row (judge 5) (to 1 4 ∷ []) (judge 4) (to 0 4 ∷ [])
    -- a turn of a counted loop below its start, at its bound, and of none
    ∷ instructions (Turn (Some 1) 1) (Turn (Some 0) 1) []
    ∷ instructions (Turn (Some 2) 1) (Turn (Some 0) 1) []
    ∷ instructions (Turn (Some 3) 1) (Turn None 1) []
    -- an argument of another kind; a structure that has too few bytes, too many, or begins behind its first; and an
    -- argument too few
    ∷ values (Call 1 1 0 2 1) (to 0 4 ∷ structure ∷ []) (seven ∷ structure ∷ [])
    ∷ values (Call 1 1 0 2 1) (seven ∷ zero_of (Structure 3) ∷ []) (seven ∷ structure ∷ [])
    ∷ values (Call 1 1 0 2 1) (seven ∷ zero_of (Structure 5) ∷ []) (seven ∷ structure ∷ [])
    ∷ values (Call 1 1 0 2 1) (seven ∷ record structure { value = integer 1 } ∷ []) (seven ∷ structure ∷ [])
    ∷ instructions (Call 1 1 0 1 1) (Call 1 1 0 2 1) (seven ∷ structure ∷ [])
    -- the same through a pointer
    ∷ values (CallThrough 1 1 0 2 1) (to_second ∷ seven ∷ seven ∷ []) (to_second ∷ seven ∷ structure ∷ [])
    ∷ instructions (CallThrough 1 1 0 1 1) (CallThrough 1 1 0 2 1) (to_second ∷ seven ∷ structure ∷ [])
    -- of a routine, and of printf
    ∷ values (Library Putchar 1 0 1 1) (to 0 4 ∷ []) (seven ∷ [])
    ∷ instructions (Library Putchar 1 0 2 1) (Library Putchar 1 0 1 1) (seven ∷ [])
    ∷ values (Print 0 1 0 1 1) (to 0 4 ∷ []) (seven ∷ [])
    ∷ instructions (Print 0 1 0 0 1) (Print 0 1 0 1 1) (seven ∷ [])
    -- a block that is entered already
    ∷ instructions (EnterBlock 1 1 1) (EnterBlock 0 1 1) []
    -- a result of another kind
    ∷ values (Return 0) (to 0 4 ∷ []) (seven ∷ [])
    ∷ values (Return 0) (structure ∷ []) (seven ∷ [])
    ∷ []

each_is_stuck : list_all holds rows ≡ true
unfolding computing
each_is_stuck = refl
