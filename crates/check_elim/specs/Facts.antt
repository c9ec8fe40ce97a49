-- What a check makes known, and what ends it.
use Rattle.std.specs.Prelude.{◌≡◌, ◌≤◌, ℕ, Bool, true, false, ◌||◌, ◌==◌, List, [], ◌∷◌, Option, Some, None, slice_get}
use Rattle.c_tree.specs.Blocks.{is_among}
use Rattle.source_meaning.specs.Staying.{frees}
use Rattle.tac_ir.specs.declared.instruction.Test.{Test}
use Rattle.tac_ir.specs.declared.instruction.Test.TheVariants.{Spatial, Temporal}
use Rattle.tac_ir.specs.declared.instruction.Instruction.{Instruction}
use Rattle.tac_ir.specs.declared.instruction.Instruction.TheVariants.{SetPlain, UpdatePlain, Judge, Library, Call}
use Rattle.tac_ir.specs.declared.instruction.Instruction.TheVariants.{CallThrough, LeaveBlock, EnterBlock}
use Rattle.tac_ir.specs.declared.key.Base.{Base}
use Rattle.tac_ir.specs.declared.key.Base.TheVariants.{Plain, Automatic, Static}
use Rattle.tac_ir.specs.declared.key.Scaled.{Scaled}
use Rattle.tac_ir.specs.declared.key.Member.{Member}
use Rattle.tac_ir.specs.declared.key.Key.{Key}
use Rattle.tac_ir.specs.declared.function.CodeFunction.{CodeFunction}
use Rattle.tac_ir.specs.Meaning.{if_there}

-- that a check of a kind was passed by what a key gives, for so many bytes
pub record Fact : Type 0 where
  pub test : Test
  pub key : Key
  pub size : ℕ

-- the plain variables of a key

abbrev pub is_base : Base → (variable : ℕ) → Bool
is_base (Plain y) x = y == x
is_base (Automatic y) x = false
is_base (Static n) x = false

abbrev pub is_scaled : Option Scaled → (variable : ℕ) → Bool
is_scaled None x = false
is_scaled (Some v) x = v.variable == x

abbrev pub is_in_path : List Member → (variable : ℕ) → Bool
is_in_path [] x = false
is_in_path (m ∷ ms) x = is_scaled m.scaled x || is_in_path ms x

abbrev pub is_of : Key → (variable : ℕ) → Bool
is_of key x = is_base key.base x || (is_scaled key.scaled x || is_in_path key.path x)

-- a check of the same kind and key, and of at least the size
abbrev pub Checks : CodeFunction → Fact → Instruction → Type 0
Checks function f (Judge test size line (Some n) a m) =
    (test ≡ f.test) × (slice_get function.keys n ≡ Some f.key) × (f.size ≤ size)
Checks function f i = ⊥

-- The life of an object is not known behind what may end one: the call of a function of the program, of `free` or
-- `realloc`, and where a block that has objects is left.
abbrev pub ends_life : Test → Instruction → Bool
ends_life Spatial i = false
ends_life Temporal (Call g line d n m) = true
ends_life Temporal (CallThrough type_number line d n m) = true
ends_life Temporal (Library r line d n m) = frees r
ends_life Temporal (LeaveBlock b m) = true
ends_life Temporal i = false

-- a key begins with an object that a block declares
abbrev pub is_declared : List ℕ → Base → Bool
is_declared xs (Plain y) = false
is_declared xs (Automatic x) = is_among xs x
is_declared xs (Static n) = false

abbrev pub is_of_block : CodeFunction → (block : ℕ) → Base → Bool
is_of_block function b base = is_declared (if_there (slice_get function.blocks b)) base

-- a plain variable of the key is assigned, the life of its object may end, or the block of the object with which the
-- key begins is entered or left, so that it is another object
abbrev pub ends : CodeFunction → Fact → Instruction → Bool
ends function f (SetPlain x a m) = is_of f.key x
ends function f (UpdatePlain w k form line d x right m) = is_of f.key x
ends function f (EnterBlock b line m) = is_of_block function b f.key.base
ends function f (LeaveBlock b m) = ends_life f.test (LeaveBlock b m) || is_of_block function b f.key.base
ends function f i = ends_life f.test i

abbrev pub Ends : CodeFunction → Fact → Instruction → Type 0
Ends function f i = ends function f i ≡ true
