-- What the outside has of a run.
use Rattle.std.specs.Prelude.{ℕ, Bool, if◌then◌else◌, List, ◌++◌, Option, Some, None}
use Rattle.behaviours.specs.Shown.{Access, AccessKind, Read, Write}
use Rattle.source_interp.specs.declared.trace.Access.{Access as OfCode}

abbrev pub kind_by : (written : Bool) → AccessKind
kind_by written = if written then Write else Read

abbrev pub access_of : OfCode → Access
access_of a = record { address = a.address; size = a.size; kind = kind_by a.written }

-- what was told, and then more; what was not told stays untold
abbrev pub more : {A : Type 0} → Option (List A) → List A → Option (List A)
more None xs = None
more (Some before) xs = Some (before ++ xs)

-- What the output and the trace tell that they have, and the input that may still come.
pub record Outside : Type 0 where
  pub output : Option (List ℕ)
  pub accesses : Option (List Access)
  pub input : List ℕ

abbrev pub outside : (output : Option (List ℕ)) → (accesses : Option (List Access)) → (input : List ℕ) → Outside
outside output accesses input = record { output = output; accesses = accesses; input = input }
