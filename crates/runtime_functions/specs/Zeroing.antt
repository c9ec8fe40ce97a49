-- The call of the function that makes a range zero, in the source's terms: an object is set to zero bytes and no tags,
-- as where it has an initializer (C99 6.7.8).
use Rattle.std.specs.Prelude.{◌≡◌, ℕ, true, List, [], ◌∷◌}
use Rattle.obj_memory.specs.declared.value.Value.{Value}
use Rattle.obj_memory.specs.Objects.{object_at}
use Rattle.source_meaning.specs.State.{State as Source, Run, ◌>>◌, done}
use Rattle.source_meaning.specs.Actions.{integer}
use Rattle.source_meaning.specs.Initializers.{zero_object}
use Rattle.source_meaning.specs.Library.{argument}
use Rattle.flat_actions.specs.Actions.{Nowhere, Word}
use Rattle.runtime_functions.specs.Actions.{Interface}

-- the object of a number is set to zero, at any line
abbrev pub zeroing : (object line : ℕ) → List Value → Run Value
zeroing n line vs = zero_object n >> done (integer 0)

-- it lives, and the words are its address and its bytes
pub record IsToZeroObject (object : ℕ) (source : Source) (vs : List Value) : Type 0 where
  pub live : (object_at source.objects object).is_live ≡ true
  pub address : (argument 0 vs).word ≡ (object_at source.objects object).address
  pub size : (argument 1 vs).word ≡ (object_at source.objects object).size

abbrev pub zeroing_interface : Interface
zeroing_interface = record {
  arguments = Word 0 ∷ Word 1 ∷ [];
  result = Nowhere;
  scratch = 3;
  constant = 16;
  factor = 4;
  price = 1;
}
