-- What instructions cost, in units of work, beside what their runs count. A unit pays for some ten operations on words,
-- each of which reads and writes values that stand in memory; for that many each number here is enough.
use Rattle.std.specs.Prelude.{ℕ, ◌+◌, ◌-◌, ◌*◌, Option, Some, None}
use Rattle.obj_memory.specs.declared.value.Scalar.TheVariants.{Pointer}
use Rattle.obj_memory.specs.Objects.{ObjectState}
use Rattle.c_tree.specs.declared.expression.Kind.{Kind}
use Rattle.c_tree.specs.declared.expression.Kind.TheVariants.{Scalar as OfScalar, Structure}
use Rattle.source_meaning.specs.State.{State, Rvalue, Outcome, Gives, Ended, Paused, Run}
use Rattle.tac_ir.specs.declared.instruction.Mode.{Mode}
use Rattle.tac_ir.specs.declared.instruction.Mode.TheVariants.{Named, Unchecked, Judged}
use Rattle.tac_ir.specs.declared.instruction.Instruction.{Instruction}
use Rattle.tac_ir.specs.declared.instruction.Instruction.TheVariants.{UpdatePlain, Offset, Narrow, Member, Take, Read}
use Rattle.tac_ir.specs.declared.instruction.Instruction.TheVariants.{Write, Update, Zero, StorePart, Library, Print}
use Rattle.tac_ir.specs.declared.instruction.Instruction.TheVariants.{Call, CallThrough, EnterBlock, LeaveBlock, Return}

-- an operator on one value or two, a word that is made, moved or tested, one of the two checks of an access
abbrev pub operation : ℕ
operation = 1

-- a pointer that is moved or narrowed: its size or offset may need instructions of its own, and the narrowed range is
-- the meet of two
abbrev pub pointer_operation : ℕ
pointer_operation = 2

-- a plain variable that is updated: both operands are converted, and so is the result
abbrev pub variable_update : ℕ
variable_update = 2

-- an access through a pointer that is not checked counts the two checks that it will get
abbrev pub checks_of : Mode → ℕ
checks_of Named = 0
checks_of Unchecked = 2
checks_of Judged = 0

-- what a value that is read costs beside its access: of a pointer the entry of its metadata is looked up
abbrev pub entries_of : Kind → ℕ
entries_of (OfScalar Pointer) = 2
entries_of _ = 0

-- and one that is written: the entry of a pointer is looked up and written, and a structure is moved by a routine
abbrev pub stores_of : Kind → ℕ
stores_of (OfScalar Pointer) = 3
stores_of (Structure n) = 5
stores_of _ = 0

-- the same of a part of an object, whose place is known
abbrev pub parts_of : Kind → ℕ
parts_of (OfScalar Pointer) = 2
parts_of (Structure n) = 5
parts_of _ = 0

-- an update reads, computes and writes: of a pointer its entry is read and written
abbrev pub updates_of : Kind → ℕ
updates_of (OfScalar Pointer) = 6
updates_of _ = 1

-- the contents of a structure are found by a routine, which a place in an object or other contents are handed to
abbrev pub taking : ℕ
taking = 5

-- an object is zeroed by a routine, bytes and entries
abbrev pub zeroing : ℕ
zeroing = 3

-- a routine of the library is called with its arguments, and judges, seeks or takes keys before it touches a byte
abbrev pub routine_call : ℕ
routine_call = 12

-- `printf` begins and ends; each argument is a number that is written out, or a string that is judged
abbrev pub printing : (arguments : ℕ) → ℕ
printing arguments = 2 + 3 * arguments

-- a call saves what the caller needs, and its function is entered; through a pointer it is found and tested too
abbrev pub call : ℕ
call = 6

abbrev pub call_through : ℕ
call_through = 8

-- the first call has no caller
abbrev pub first_call : ℕ
first_call = 4

-- the objects of a block get places, a lock and a key, and the lock is taken back
abbrev pub block_entry : ℕ
block_entry = 7

abbrev pub block_exit : ℕ
block_exit = 2

-- a return leaves the body's block, hands on a value and restores what the caller needs
abbrev pub returning : ℕ
returning = 3

abbrev pub cost : Instruction → ℕ
cost (UpdatePlain w k f line d x right m) = variable_update
cost (Offset form size d a b m) = pointer_operation
cost (Narrow offset size d a m) = pointer_operation
cost (Member offset size d a m) = pointer_operation
cost (Take kind line d a m) = taking
cost (Read kind mode line key d a m) = operation + entries_of kind + checks_of mode
cost (Write kind mode line key d a b m) = operation + stores_of kind + checks_of mode
cost (Update u k f mode line at key d a b m) = operation + updates_of (OfScalar k) + checks_of mode
cost (Zero x m) = zeroing
cost (StorePart kind line x offset a m) = operation + parts_of kind
cost (Library r line d n m) = routine_call
cost (Print x line d n m) = printing n
cost (Call f line d n m) = call
cost (CallThrough ty line d n m) = call_through
cost (EnterBlock b line m) = block_entry
cost (LeaveBlock b m) = block_exit
cost (Return a) = returning
cost i = operation

-- what a return counts for handing contents on: a routine moves them, and each byte counts as one that a run counts itself
abbrev pub contents_handing : Option ObjectState → ℕ
contents_handing None = 0
contents_handing (Some contents) = 1 + 4 * contents.size

abbrev pub handing : Rvalue → ℕ
handing v = contents_handing v.contents

-- so much work is done
abbrev pub spent : ℕ → State → State
spent n s = record s { work = s.work + n }

-- What a run counts itself counts four times: a byte that a routine moves or looks at, a variable that is set and an
-- object that is placed take more than a unit pays for, and less than four.
abbrev pub fourfold : {A : Type 0} → (from : ℕ) → Outcome A → Outcome A
fourfold from (Gives a s) = Gives a (spent (3 * (s.work - from)) s)
fourfold from (Ended e s) = Ended e (spent (3 * (s.work - from)) s)
fourfold from (Paused s) = Paused s

abbrev pub heavier : {A : Type 0} → Run A → Run A
heavier r = λ s. fourfold s.work (r s)
