-- The functions of the runtime for the library: for each routine its registers, its cost and what its code does.
use Rattle.std.specs.Prelude.{◌≡◌, ℕ, ◌+◌, List, [], ◌∷◌}
use Rattle.addr_map.specs.Places.{MapSizes}
use Rattle.c_tree.specs.declared.expression.Routine.{Routine}
use Rattle.c_tree.specs.declared.expression.Routine.TheVariants as library
use Rattle.source_meaning.specs.State.{Setting}
use Rattle.source_meaning.specs.Library.{routine}
use Rattle.flat_code.specs.declared.instruction.FlatInstruction.{FlatInstruction}
use Rattle.flat_code.specs.Memory.{Bytes}
use Rattle.flat_code.specs.declared.registers.Held.{Held}
use Rattle.flat_code.specs.Routines.Metadata.{View}
use Rattle.flat_actions.specs.Actions.{Holder, Nowhere, Word, Pointer, IsActionIn, runtime_basis}
use Rattle.lib_wrappers.specs.AllocatingRoutines.Premises.{AreStanding}
use Rattle.runtime_functions.specs.declared.library.LibraryFunction.{LibraryFunction}
use Rattle.runtime_functions.specs.declared.library.LibraryFunction.TheVariants.{Malloc, Calloc, Free, Realloc, Memcpy}
use Rattle.runtime_functions.specs.declared.library.LibraryFunction.TheVariants.{Memmove, Memset, Memcmp, Strlen}
use Rattle.runtime_functions.specs.declared.library.LibraryFunction.TheVariants.{Strcmp}
use Rattle.runtime_functions.specs.declared.library.LibraryFunction.TheVariants.{Strcpy, Strncpy, Strcat, Strchr, Puts}
use Rattle.runtime_functions.specs.Actions.{Interface}

-- ---- registers one behind the other

-- a value that is handed over: in one register, or with the four words of its entry behind it; or there is none
pub data Passed : Type 0 where
  NoValue : Passed
  OneWord : Passed
  WithEntry : Passed

abbrev pub register_count : Passed → ℕ
register_count NoValue = 0
register_count OneWord = 1
register_count WithEntry = 5

abbrev pub total_count : List Passed → ℕ
total_count [] = 0
total_count (v ∷ vs) = register_count v + total_count vs

-- a pointer in five registers from one on
abbrev pub held_from : (first : ℕ) → Held
held_from r = record { value = r; tag = record { base = r + 1; bound = r + 2; key = r + 3; lock = r + 4 } }

abbrev pub holder_from : (first : ℕ) → Passed → Holder
holder_from r NoValue = Nowhere
holder_from r OneWord = Word r
holder_from r WithEntry = Pointer (held_from r)

abbrev pub holders_from : (first : ℕ) → List Passed → List Holder
holders_from r [] = []
holders_from r (v ∷ vs) = holder_from r v ∷ holders_from (r + register_count v) vs

-- ---- the routines of the library

-- what a routine takes and gives, and its cost: so many steps, and so many for each unit of the work of the run
pub record Signature : Type 0 where
  pub takes : List Passed
  pub gives : Passed
  pub constant : ℕ
  pub factor : ℕ

abbrev pub routine_of : LibraryFunction → Routine
routine_of Malloc = library.Malloc
routine_of Calloc = library.Calloc
routine_of Free = library.Free
routine_of Realloc = library.Realloc
routine_of Memcpy = library.Memcpy
routine_of Memmove = library.Memmove
routine_of Memset = library.Memset
routine_of Memcmp = library.Memcmp
routine_of Strlen = library.Strlen
routine_of Strcmp = library.Strcmp
routine_of Strcpy = library.Strcpy
routine_of Strncpy = library.Strncpy
routine_of Strcat = library.Strcat
routine_of Strchr = library.Strchr
routine_of Puts = library.Puts

abbrev pub signature : LibraryFunction → Signature
signature Malloc =
    record { takes = OneWord ∷ []; gives = WithEntry; constant = 60; factor = 20 }
signature Calloc =
    record { takes = OneWord ∷ OneWord ∷ []; gives = WithEntry; constant = 70; factor = 20 }
signature Free =
    record { takes = WithEntry ∷ []; gives = NoValue; constant = 20; factor = 26 }
signature Realloc =
    record { takes = WithEntry ∷ OneWord ∷ []; gives = WithEntry; constant = 100; factor = 30 }
signature Memcpy =
    record { takes = WithEntry ∷ WithEntry ∷ OneWord ∷ []; gives = WithEntry; constant = 66; factor = 16 }
signature Memmove =
    record { takes = WithEntry ∷ WithEntry ∷ OneWord ∷ []; gives = WithEntry; constant = 66; factor = 16 }
signature Memset =
    record { takes = WithEntry ∷ OneWord ∷ OneWord ∷ []; gives = WithEntry; constant = 24; factor = 5 }
signature Memcmp =
    record { takes = WithEntry ∷ WithEntry ∷ OneWord ∷ []; gives = OneWord; constant = 26; factor = 4 }
signature Strlen =
    record { takes = WithEntry ∷ []; gives = OneWord; constant = 17; factor = 8 }
signature Strcmp =
    record { takes = WithEntry ∷ WithEntry ∷ []; gives = OneWord; constant = 24; factor = 5 }
signature Strcpy =
    record { takes = WithEntry ∷ WithEntry ∷ []; gives = WithEntry; constant = 49; factor = 8 }
signature Strncpy =
    record { takes = WithEntry ∷ WithEntry ∷ OneWord ∷ []; gives = WithEntry; constant = 60; factor = 8 }
signature Strcat =
    record { takes = WithEntry ∷ WithEntry ∷ []; gives = WithEntry; constant = 65; factor = 8 }
signature Strchr =
    record { takes = WithEntry ∷ OneWord ∷ []; gives = WithEntry; constant = 20; factor = 6 }
signature Puts =
    record { takes = WithEntry ∷ []; gives = OneWord; constant = 21; factor = 8 }

-- how many parameters the function has: its arguments are the first registers, the status stands behind them, and the
-- result behind it
abbrev pub parameters_of : LibraryFunction → ℕ
parameters_of r = total_count (signature r).takes

abbrev pub results_of : LibraryFunction → ℕ
results_of r = register_count (signature r).gives

abbrev pub library_interface : LibraryFunction → Interface
library_interface r = record {
  arguments = holders_from 0 (signature r).takes;
  result = holder_from (parameters_of r + 1) (signature r).gives;
  scratch = parameters_of r + 1 + results_of r;
  constant = (signature r).constant;
  factor = (signature r).factor;
  price = 2;
}

-- its code at a line: it does what the routine does under every setting with the sizes of the map
pub record IsLibraryCode (map : MapSizes) (entry : View) (IsGood : Bytes → Type 0) (f : LibraryFunction) (line : ℕ)
    (items : List FlatInstruction) : Type 0 where
  pub does : (set : Setting) → set.sizes ≡ map
      → IsActionIn (runtime_basis map entry IsGood) (λ x vs. AreStanding map x) (λ vs. routine set (routine_of f) vs line)
      (library_interface f).arguments (library_interface f).result (library_interface f).scratch
      (signature f).constant (signature f).factor items
