-- What comes of a typed file: its program, or why there is none.
use Rattle.std.specs.Prelude.{ℕ, Option, Some, None, Result, Ok, Err}
use Rattle.c_tree.specs.Programs.{Program}
use Rattle.c_unit_typing.specs.declared.limits.Limited.{Limited}
use Rattle.c_unit_typing.specs.declared.limits.Limited.TheVariants as limited
use Rattle.c_unit_typing.specs.Typed.{TypedUnit, a_program, a_fault, not_constant, too_large}
use Rattle.c_programs.specs.Rooms.{first_without_room}
use Rattle.sbcets_core.specs.declared.refusal.Counted.{Counted}
use Rattle.sbcets_core.specs.declared.refusal.Counted.TheVariants as counted
use Rattle.sbcets_core.specs.declared.refusal.SourceRefusal.{SourceRefusal}
use Rattle.sbcets_core.specs.declared.refusal.SourceRefusal.TheVariants.{Typing, Const, TooLarge}
use Rattle.sbcets_core.specs.declared.refusal.SourceRefusal.TheVariants.{RoomTooLarge}

-- the program of a source, or why it is refused
abbrev pub Judged : Type 0
Judged = Result Program SourceRefusal

-- a typed program is tested for the room of its functions
abbrev pub unless_large : Option ℕ → Program → Judged
unless_large (Some number) p = Err (RoomTooLarge number)
unless_large None p = Ok p

unfoldable pub judged_program : Program → Judged
judged_program p = unless_large (first_without_room 0 p.functions) p

abbrev pub counted_as : Limited → Counted
counted_as limited.Functions = counted.Functions
counted_as limited.Parameters = counted.Parameters
counted_as limited.Members = counted.Members
counted_as limited.Globals = counted.Globals

abbrev pub judged_unit : TypedUnit → Judged
judged_unit (a_program p) = judged_program p
judged_unit (a_fault f) = Err (Typing f)
judged_unit (not_constant line) = Err (Const line)
judged_unit (too_large which n) = Err (TooLarge (counted_as which) n)
