-- The call of the function that moves a range with its entries, in the source's terms: a structure is assigned (C99
-- 6.5.16.1) from one object to another.
use Rattle.std.specs.Prelude.{ℕ, false, List, [], ◌∷◌}
use Rattle.obj_memory.specs.declared.value.Value.{Value}
use Rattle.source_meaning.specs.State.{State as Source, Run, ◌>>◌, done}
use Rattle.source_meaning.specs.Actions.{integer, copy_structure}
use Rattle.source_meaning.specs.Library.{argument}
use Rattle.flat_actions.specs.Actions.{Nowhere, Word}
use Rattle.lib_wrappers.specs.MovingRoutines.Structures.{AreDirect}
use Rattle.runtime_functions.specs.Actions.{Interface}

-- a structure of as many bytes as the third word says is moved to where the first points, from where the second does
abbrev pub copying : (line : ℕ) → List Value → Run Value
copying line vs =
    copy_structure (argument 2 vs).word false (argument 0 vs) line (argument 1 vs) >> done (integer 0)

-- both are bytes of live objects that the pointers name
abbrev pub AreToCopy : Source → List Value → Type 0
AreToCopy x vs = AreDirect (argument 2 vs).word x vs

abbrev pub copying_interface : Interface
copying_interface = record {
  arguments = Word 0 ∷ Word 1 ∷ Word 2 ∷ [];
  result = Nowhere;
  scratch = 4;
  constant = 40;
  factor = 16;
  price = 1;
}
