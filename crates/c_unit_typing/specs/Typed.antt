-- What the typing of a file gives (C99 6.9): the typed program; the first rule that it violates; where it violates
-- none, the line of the first expression that an initializer of a static object stores and that is not constant (6.7.8
-- paragraph 4); or, where there is none either, what it has too much of and how much.
use Rattle.std.specs.Prelude.{◌≡◌, ◌≤◌, ℕ, ◌+◌, List, [], ◌∷◌, length, Option, Some, None, Ok, Err}
use Rattle.obj_memory.specs.Heap.{rounded_up}
use Rattle.c_syntax.specs.Statements.{Unit, External}
use Rattle.c_tree.specs.Kinds.{size_of_kind}
use Rattle.c_tree.specs.Programs.{Program, StaticObject}
use Rattle.c_const.specs.Initializers.{first_not_constant}
use Rattle.c_faults.specs.declared.fault.Fault.{Fault}
use Rattle.c_faults.specs.Answer.{Answer}
use Rattle.c_counts.specs.Counts.{Count, counts_of}
use Rattle.c_counts.specs.Excess.{first_above, members_among, most_members, most_parameters, parameters_among}
use Rattle.c_unit_typing.specs.declared.limits.Limited.{Limited}
use Rattle.c_unit_typing.specs.declared.limits.Limited.TheVariants as limited
use Rattle.c_unit_typing.specs.Files.{File}
use Rattle.c_unit_typing.specs.Programs.{program_of}
use Rattle.c_unit_typing.specs.Units.{file_in}

pub data TypedUnit : Type 0 where
  a_program : Program → TypedUnit
  a_fault : Fault → TypedUnit
  not_constant : (line : ℕ) → TypedUnit
  too_large : Limited → (count : ℕ) → TypedUnit

-- The limits, in their order. Of the lists of parameters that are too long the first counts, and of those of members.

abbrev pub most_functions : ℕ
most_functions = 4096

abbrev pub most_bytes : ℕ
most_bytes = 4194304

-- static objects stand in their order, each at the next multiple of 16, and all of them take whole pages
abbrev pub end_behind : (place : ℕ) → List StaticObject → ℕ
end_behind at [] = at
end_behind at (o ∷ os) = end_behind (rounded_up 16 at + size_of_kind o.kind) os

abbrev pub global_bytes : Program → ℕ
global_bytes p = rounded_up 4096 (end_behind 0 p.statics)

abbrev pub when_large : Limited → (count : Option ℕ) → TypedUnit → TypedUnit
when_large which None other = other
when_large which (Some n) other = too_large which n

abbrev pub limited_program : List Count → Program → TypedUnit
limited_program counts p =
    when_large limited.Functions (first_above most_functions (length p.functions ∷ []))
    (when_large limited.Parameters (first_above most_parameters (parameters_among counts))
    (when_large limited.Members (first_above most_members (members_among counts))
    (when_large limited.Globals (first_above most_bytes (global_bytes p ∷ [])) (a_program p))))

abbrev pub unless_not_constant : Option ℕ → TypedUnit → TypedUnit
unless_not_constant (Some line) other = not_constant line
unless_not_constant None other = other

-- that an initializer is not constant comes before the limits
abbrev pub within_limits : List External → Program → TypedUnit
within_limits es p = unless_not_constant (first_not_constant p) (limited_program (counts_of es) p)

-- the program that is given is the one that is typed; its initializers are constant, and it is within the limits, as
-- no list of parameters is too long
pub record IsWithin (counts : List Count) (typed given : Program) : Type 0 where
  pub same : typed ≡ given
  pub constant : first_not_constant typed ≡ None
  pub functions : length typed.functions ≤ most_functions
  pub parameters : first_above most_parameters (parameters_among counts) ≡ None
  pub bytes : global_bytes typed ≤ most_bytes

abbrev pub typed_as : List External → Answer File → TypedUnit
typed_as es (Err f) = a_fault f
typed_as es (Ok f) = within_limits es (program_of f)

-- a file whose text ends on a line
unfoldable pub typed_unit : (end : ℕ) → Unit → TypedUnit
typed_unit end u = typed_as u.externals (file_in end u.externals)
