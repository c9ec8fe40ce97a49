-- The assignment of structures.
use Rattle.std.specs.Prelude.{ℕ, false, List, [], ◌∷◌}
use Rattle.obj_memory.specs.declared.value.Value.{Value}
use Rattle.source_meaning.specs.State.{State as Source, ◌>>◌, done}
use Rattle.source_meaning.specs.Actions.{integer, copy_structure}
use Rattle.source_meaning.specs.Library.{argument}
use Rattle.source_meaning.specs.Keeping.{IsDirect}
use Rattle.flat_code.specs.declared.instruction.FlatInstruction.{FlatInstruction}
use Rattle.flat_code.specs.declared.registers.Held.{Held}
use Rattle.flat_actions.specs.Actions.{Basis, Nowhere, Pointer, IsActionIn}

-- both pointers are to so many bytes of live objects
pub record AreDirect (size : ℕ) (source : Source) (vs : List Value) : Type 0 where
  pub to : IsDirect source.objects (argument 0 vs) size
  pub from : IsDirect source.objects (argument 1 vs) size

-- A structure of so many bytes is moved from one object that its pointer names to another, within 41 steps and 16 for
-- each byte. Nothing is judged: at no line can the run end.
abbrev pub CopiesStructure : Basis → (size : ℕ) → (to from : Held) → (scratch : ℕ) → List FlatInstruction → Type 0
CopiesStructure basis size to from t r =
    (line : ℕ)
    → IsActionIn basis (AreDirect size)
    (λ vs. copy_structure size false (argument 0 vs) line (argument 1 vs) >> done (integer 0))
    (Pointer to ∷ Pointer from ∷ []) Nowhere t 41 16 r
