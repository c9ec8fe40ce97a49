-- The functions of the runtime, in the order of their numbers.
use Rattle.std.specs.Prelude.{ℕ, List, [], ◌∷◌}
use Rattle.addr_map.specs.Places.{MapSizes}
use Rattle.c_tree.specs.declared.format.Directive.TheVariants as directive
use Rattle.source_meaning.specs.Strings.{scan}
use Rattle.flat_code.specs.declared.instruction.FlatInstruction.{FlatInstruction}
use Rattle.flat_code.specs.declared.function.FlatFunction.{FlatFunction}
use Rattle.flat_code.specs.Memory.{Bytes}
use Rattle.flat_code.specs.Routines.InputOutput.{IsWithoutInputOutput}
use Rattle.flat_code.specs.Routines.Metadata.{View}
use Rattle.flat_code.specs.Routines.Shape.{HasShape}
use Rattle.flat_actions.specs.Actions.{runtime_basis}
use Rattle.flat_actions.specs.Scanning.{IsScanRoutine}
use Rattle.flat_actions.specs.Ranges.{IsTaggedMoveRoutine}
use Rattle.lib_wrappers.specs.StringRoutines.Putting.{IsPutRoutine as IsPutBytesRoutine}
use Rattle.lib_wrappers.specs.PrintingRoutines.Numbers.{IsNumberRoutine}
use Rattle.lib_wrappers.specs.declared.allocating.entering.EntryRegisters.{EntryRegisters}
use Rattle.lib_wrappers.specs.AllocatingRoutines.Entering.{IsEnterRoutine}
use Rattle.lib_wrappers.specs.AllocatingRoutines.Zeroing.{IsZeroRoutine}
use Rattle.lib_wrappers.specs.AreaRoutines.Values.{IsMakeZeroRoutine, IsTakeRoutine, IsPutRoutine}
use Rattle.lib_wrappers.specs.AreaRoutines.Parts.{IsTakePartRoutine}
use Rattle.runtime_functions.specs.declared.library.LibraryFunction.TheVariants as library
use Rattle.runtime_functions.specs.declared.runtime.RuntimeFunction.{RuntimeFunction}
use Rattle.runtime_functions.specs.declared.runtime.RuntimeFunction.TheVariants.{Library, Scan, PutBytes, PutNumber}
use Rattle.runtime_functions.specs.declared.runtime.RuntimeFunction.TheVariants.{Zero, CopyTagged, Enter}
use Rattle.runtime_functions.specs.declared.runtime.RuntimeFunction.TheVariants.{ZeroArea, TakeArea, PutArea, MoveArea}
use Rattle.runtime_functions.specs.Functions.{IsRuntimeFunction}
use Rattle.runtime_functions.specs.Sizes.{most_registers}
use Rattle.runtime_functions.specs.Library.{IsLibraryCode, held_from, parameters_of, results_of}

-- the fixed list: the number of a function is its place in it, behind the functions of the text
abbrev pub runtime_list : List RuntimeFunction
runtime_list =
    Library library.Malloc
    ∷ Library library.Calloc
    ∷ Library library.Free
    ∷ Library library.Realloc
    ∷ Library library.Memcpy
    ∷ Library library.Memmove
    ∷ Library library.Memset
    ∷ Library library.Memcmp
    ∷ Library library.Strlen
    ∷ Library library.Strcmp
    ∷ Library library.Strcpy
    ∷ Library library.Strncpy
    ∷ Library library.Strcat
    ∷ Library library.Strchr
    ∷ Library library.Puts
    ∷ Scan
    ∷ PutBytes
    ∷ PutNumber directive.Int
    ∷ PutNumber directive.UnsignedInt
    ∷ PutNumber directive.Hexadecimal
    ∷ PutNumber directive.Character
    ∷ PutNumber directive.Long
    ∷ PutNumber directive.UnsignedLong
    ∷ Zero
    ∷ CopyTagged
    ∷ Enter
    ∷ ZeroArea
    ∷ TakeArea
    ∷ PutArea
    ∷ MoveArea
    ∷ []

-- how many arguments each takes and how many results it gives behind the status
abbrev pub argument_count : RuntimeFunction → ℕ
argument_count (Library f) = parameters_of f
argument_count Scan = 5
argument_count PutBytes = 2
argument_count (PutNumber d) = 1
argument_count Zero = 2
argument_count CopyTagged = 3
argument_count Enter = 2
argument_count ZeroArea = 2
argument_count TakeArea = 3
argument_count PutArea = 7
argument_count MoveArea = 7

abbrev pub result_count : RuntimeFunction → ℕ
result_count (Library f) = results_of f
result_count Scan = 1
result_count PutBytes = 0
result_count (PutNumber d) = 1
result_count Zero = 0
result_count CopyTagged = 0
result_count Enter = 4
result_count ZeroArea = 0
result_count TakeArea = 0
result_count PutArea = 0
result_count MoveArea = 0

-- how many instructions its routine has at most
abbrev pub most_instructions : RuntimeFunction → ℕ
most_instructions (Library library.Realloc) = 384
most_instructions f = 192

-- what a block is entered with: where its first object begins, where the last ends, its key and its lock word
abbrev pub entered_registers : EntryRegisters
entered_registers = record { first = 3; end = 4; key = 5; lock = 6 }

-- What the code of each does, built for a line. `Scan` takes a pointer and gives the address of the 0 byte; `PutBytes`
-- takes where bytes begin and where they end; `PutNumber` takes a word and gives how many bytes were put, since its count
-- begins with 0; `Zero` takes the first address and how many bytes; `CopyTagged` to where, from where and how many;
-- `Enter` the end of the object stack and the bytes of the block's objects. Of those on areas, `ZeroArea` takes where the
-- area begins and how many bytes, `TakeArea` where the area begins, the address of the structure and how many bytes, and
-- `PutArea` and `MoveArea` where to, how many bytes and the registers of the part. Those that move or make zero, and
-- `Enter`, take no input and put no output.
abbrev pub IsRuntimeCode : MapSizes → View → (Bytes → Type 0) → RuntimeFunction → (line : ℕ) → List FlatInstruction
    → Type 0
IsRuntimeCode map entry IsGood (Library f) line r = IsLibraryCode map entry IsGood f line r
IsRuntimeCode map entry IsGood Scan line r =
    IsScanRoutine (runtime_basis map entry IsGood) (λ v. scan v line) (held_from 0) (λ s. Unit {0}) 6 7 r
IsRuntimeCode map entry IsGood PutBytes line r = IsPutBytesRoutine map 0 1 3 r
IsRuntimeCode map entry IsGood (PutNumber d) line r = IsNumberRoutine map d 0 2 3 r
IsRuntimeCode map entry IsGood Zero line r = IsZeroRoutine map entry IsGood 0 1 3 r × IsWithoutInputOutput r
IsRuntimeCode map entry IsGood CopyTagged line r =
    IsTaggedMoveRoutine map entry IsGood 0 1 2 4 r × IsWithoutInputOutput r
IsRuntimeCode map entry IsGood Enter line r =
    IsEnterRoutine map entry IsGood 0 1 entered_registers line 7 r × IsWithoutInputOutput r
IsRuntimeCode map entry IsGood ZeroArea line r = IsMakeZeroRoutine map entry IsGood 0 1 3 r × IsWithoutInputOutput r
IsRuntimeCode map entry IsGood TakeArea line r = IsTakeRoutine map entry IsGood 0 1 2 4 r × IsWithoutInputOutput r
IsRuntimeCode map entry IsGood PutArea line r =
    IsPutRoutine map entry IsGood 0 (held_from 2) 1 8 r × IsWithoutInputOutput r
IsRuntimeCode map entry IsGood MoveArea line r =
    IsTakePartRoutine map entry IsGood 0 (held_from 2) 1 8 r × IsWithoutInputOutput r

-- a function of the list, whose code is built for line 1, and no longer than a function of the runtime may be
pub record IsOfRuntime (map : MapSizes) (entry : View) (IsGood : Bytes → Type 0) (f : RuntimeFunction)
    (function : FlatFunction) : Type 0 where
  pub routine : List FlatInstruction
  pub is : IsRuntimeFunction routine (argument_count f) (result_count f) function
  pub code : IsRuntimeCode map entry IsGood f 1 routine
  pub shape : HasShape routine (most_instructions f) most_registers

-- the functions of a list, in its order
abbrev pub AreOfRuntime : MapSizes → View → (Bytes → Type 0) → List RuntimeFunction → List FlatFunction → Type 0
AreOfRuntime map entry IsGood [] [] = Unit {0}
AreOfRuntime map entry IsGood (f ∷ fs) (g ∷ gs) =
    IsOfRuntime map entry IsGood f g × AreOfRuntime map entry IsGood fs gs
AreOfRuntime map entry IsGood _ _ = ⊥
