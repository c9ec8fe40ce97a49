-- What is stored of a literal.
use Rattle.std.specs.Prelude.{ℕ, ◌+◌, List, length}
use Rattle.obj_memory.specs.declared.value.Value.{Value}
use Rattle.source_meaning.specs.State.{Run, ◌>>◌, tally}
use Rattle.source_meaning.specs.Initializers.{store_bytes}

-- its bytes from an offset of an object on, each of which is work
abbrev pub store_literal : (object : Value) → (offset : ℕ) → (bytes : List ℕ) → Run (Unit {0})
store_literal object offset bytes = tally (1 + length bytes) >> store_bytes object offset bytes
