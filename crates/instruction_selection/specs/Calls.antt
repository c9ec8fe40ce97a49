-- How values are handed over, and what calls name.
use Rattle.std.specs.Prelude.{ℕ, ◌+◌, ◌-◌, ◌^◌, Bool, List, [], ◌∷◌, ◌++◌, Option, Some, None, length}
use Rattle.sb_base.specs.declared.ending.Ending.TheVariants.{Abort as AbortAt}
use Rattle.obj_memory.specs.declared.int_type.IntType.TheVariants.{UnsignedChar}
use Rattle.c_tree.specs.declared.expression.Routine.{Routine}
use Rattle.c_tree.specs.declared.expression.Routine.TheVariants as routine
use Rattle.flat_code.specs.declared.instruction.FlatInstruction.{FlatInstruction}
use Rattle.flat_code.specs.declared.instruction.FlatInstruction.TheVariants.{Operate, Branch, Put, Get, Exit, End}
use Rattle.flat_code.specs.declared.instruction.RightOperand.TheVariants.{Register, Number}
use Rattle.rv_isa.specs.declared.instruction.RegOp.TheVariants.{Add, And, Sll, Srl}
use Rattle.rv_isa.specs.declared.instruction.BranchOp.TheVariants.{Beq}
use Rattle.addr_map.specs.Places.{MapSizes}
use Rattle.lib_wrappers.specs.AllocatingRoutines.Entering.{round_code}
use Rattle.flat_operators.specs.Operators.{conversion_code}
use Rattle.runtime_functions.specs.declared.library.LibraryFunction.{LibraryFunction}
use Rattle.runtime_functions.specs.declared.library.LibraryFunction.TheVariants as library
use Rattle.runtime_functions.specs.Library.{Passed, NoValue, OneWord, WithEntry, signature}
use Rattle.metadata_relation.specs.Blocks.{read_top, untagged}
use Rattle.instruction_selection.specs.declared.handing.Handed.{Handed}
use Rattle.instruction_selection.specs.declared.handing.Handed.TheVariants.{Word, Held}

abbrev pub passed_by : Handed → Passed
passed_by Word = OneWord
passed_by Held = WithEntry

abbrev pub given_by : Option Handed → Passed
given_by None = NoValue
given_by (Some h) = passed_by h

-- the function of the runtime that does what a routine does, where one does
abbrev pub function_of : Routine → Option LibraryFunction
function_of routine.Putchar = None
function_of routine.Getchar = None
function_of routine.Exit = None
function_of routine.Abort = None
function_of routine.Malloc = Some library.Malloc
function_of routine.Calloc = Some library.Calloc
function_of routine.Free = Some library.Free
function_of routine.Realloc = Some library.Realloc
function_of routine.Memcpy = Some library.Memcpy
function_of routine.Memmove = Some library.Memmove
function_of routine.Memset = Some library.Memset
function_of routine.Memcmp = Some library.Memcmp
function_of routine.Strlen = Some library.Strlen
function_of routine.Strcmp = Some library.Strcmp
function_of routine.Strcpy = Some library.Strcpy
function_of routine.Strncpy = Some library.Strncpy
function_of routine.Strcat = Some library.Strcat
function_of routine.Strchr = Some library.Strchr
function_of routine.Puts = Some library.Puts

-- how many arguments that takes
abbrev pub taken_count : Option LibraryFunction → ℕ
taken_count None = 0
taken_count (Some f) = length (signature f).takes

abbrev pub argument_count : Routine → ℕ
argument_count r = taken_count (function_of r)

-- what is code of the program, over the register that has the argument and gets the result
abbrev pub own_code : Routine → (line : ℕ) → (with_entry : Bool) → (register : ℕ) → List FlatInstruction
own_code routine.Putchar line b r = Put r ∷ (conversion_code UnsignedChar r r ++ untagged b r)
own_code routine.Getchar line b r = Get r ∷ untagged b r
own_code routine.Exit line b r = Exit r ∷ []
own_code routine.Abort line b r = End (AbortAt line) ∷ []
own_code r line b x = []

-- where objects of so many units of 16 bytes, a number in the register behind the first, end on the object stack
abbrev pub units_end : MapSizes → (scratch : ℕ) → List FlatInstruction
units_end m s =
    Operate Sll (s + 1) (s + 1) (Number 4) ∷ (read_top m s ++ (round_code s s ++ (Operate Add s s (Register (s + 1)) ∷ [])))

-- tests that are passed over where a number out of a key is 0
abbrev pub unless_none : (key register : ℕ) → (tests : List FlatInstruction) → List FlatInstruction
unless_none key r tests =
    Operate Srl r key (Number 12)
    ∷ Operate And r r (Number (2 ^ 19 - 1))
    ∷ Branch Beq r (Number 0) (length tests)
    ∷ tests
