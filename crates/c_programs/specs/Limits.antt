-- What there is too much of in a program.
use Rattle.std.specs.Prelude.{◌≡◌, ℕ, List, [], ◌∷◌, Option, Some, None}
use Rattle.c_syntax.specs.Statements.{External}
use Rattle.c_tree.specs.Programs.{Program}
use Rattle.c_counts.specs.Counts.{counts_of}
use Rattle.c_counts.specs.Excess.{first_above}
use Rattle.c_unit_typing.specs.declared.limits.Limited.{Limited}
use Rattle.c_unit_typing.specs.declared.limits.Limited.TheVariants as limited
use Rattle.c_unit_typing.specs.Typed.{TypedUnit, a_program, limited_program, most_bytes, most_functions, too_large}
use Rattle.c_programs.specs.Outlines.{Outline, program_in}

-- what is typed where there is too much of this, or else of nothing
abbrev pub unless_large : Option (Limited × ℕ) → Program → TypedUnit
unless_large None p = a_program p
unless_large (Some l) p = too_large l.0 l.1

-- of a file with these external declarations
abbrev pub IsExcess : List External → Outline → Option (Limited × ℕ) → Type 0
IsExcess es o large = limited_program (counts_of es) (program_in o) ≡ unless_large large (program_in o)

-- the first that is too large, of so many functions, a list of parameters, a list of members and so many bytes

abbrev pub large_or : Limited → (count : Option ℕ) → Option (Limited × ℕ) → Option (Limited × ℕ)
large_or which None other = other
large_or which (Some n) other = Some (which, n)

abbrev pub first_large : (functions : ℕ) → (parameters members : Option ℕ) → (bytes : ℕ) → Option (Limited × ℕ)
first_large functions parameters members bytes =
    large_or limited.Functions (first_above most_functions (functions ∷ []))
    (large_or limited.Parameters parameters (large_or limited.Members members
    (large_or limited.Globals (first_above most_bytes (bytes ∷ [])) None)))
