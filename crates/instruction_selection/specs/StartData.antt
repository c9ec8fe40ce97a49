-- What is asked of static objects whose entries are put into a table.
use Rattle.std.specs.Prelude.{◌≡◌, ℕ, ◌*◌, ◌<◌, ◌≤◌, ◌^◌, List, length, get_or}
use Rattle.obj_memory.specs.declared.value.Tag.{Tag}
use Rattle.obj_memory.specs.declared.value.Tag.TheVariants.{Untagged, OfFunction}
use Rattle.tac_ir.specs.declared.function.StaticData.{StaticData}

-- what the key of a pointer to a function tells of its type, by a table
unfoldable pub type_in : (types : List ℕ) → (function : ℕ) → ℕ
type_in types f = get_or types f 0

-- the functions that some tags name have addresses in the jump table
abbrev pub NameFunctions : List Tag → Type 0
NameFunctions ts = (k f : ℕ) → get_or ts k Untagged ≡ OfFunction f → f ≤ 2 ^ 12

-- an object has no more tags than words, and these name such functions
pub record HasWords (object : StaticData) : Type 0 where
  pub words : 8 * length object.tags ≤ object.size
  pub functions : NameFunctions object.tags

pub record HaveWords (statics : List StaticData) : Type 0 where
  pub each : (n : ℕ) (d : StaticData) → n < length statics → HasWords (get_or statics n d)
