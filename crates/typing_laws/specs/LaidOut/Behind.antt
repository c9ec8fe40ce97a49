-- A file behind declarations and statements.
use Rattle.std.specs.Prelude.{Ok, Err}
use Rattle.c_faults.specs.Answer.{Answer}
use Rattle.c_unit_typing.specs.Files.{File}
use Rattle.typing_laws.specs.Layouts.Listed.{IsLaidOut}
use Rattle.typing_laws.specs.Scopes.Leaving.{FileLeads}

-- its scopes are those of the file before, and it is laid out
abbrev pub IfLaid : {A : Type 0} → File → Answer (File × A) → Type 0
IfLaid f (Ok r) = FileLeads f r.0 × IsLaidOut r.0.state
IfLaid f (Err e) = Unit {0}

abbrev pub IsLaidIf : {A : Type 0} → Answer (File × A) → Type 0
IsLaidIf (Ok r) = IsLaidOut r.0.state
IsLaidIf (Err e) = Unit {0}
