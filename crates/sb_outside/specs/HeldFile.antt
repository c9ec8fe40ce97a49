-- Files in memory by their names.
use Rattle.std.specs.Prelude.{ℕ, max, List, [], ◌∷◌, length, Option, Some, None, if◌then◌else◌, bytes_eq, String}
use Rattle.std.specs.Prelude.{string_bytes, Vec}
use Rattle.std.specs.declared.alloc.Global.{Global}

-- a file's name, its bytes, and how many it has room for
pub record HeldFile : Type 0 where
  pub name : List ℕ
  pub bytes : List ℕ
  pub room : ℕ

-- the bytes of the first file of this name
abbrev pub held_in : List HeldFile → List ℕ → Option (List ℕ)
held_in [] name = None
held_in (f ∷ fs) name = if bytes_eq f.name name then Some f.bytes else held_in fs name

-- the files, of which the first of this name now holds these bytes
abbrev pub written_in : List HeldFile → List ℕ → List ℕ → List HeldFile
written_in [] name bytes = []
written_in (f ∷ fs) name bytes = if bytes_eq f.name name then record f { bytes = bytes } ∷ fs
    else f ∷ written_in fs name bytes

-- a pair of a name and bytes as a file with room for them and for so many
abbrev pub file_of : ℕ → (String Global × Vec ℕ Global) → HeldFile
file_of room pair = record { name = string_bytes pair.0; bytes = pair.1.items; room = max room (length pair.1.items) }
