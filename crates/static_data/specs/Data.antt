-- Static objects before a run, as three-address code has them.
use Rattle.std.specs.Prelude.{◌≡◌, ℕ, zero, suc, ◌+◌, List, [], ◌∷◌, length}
use Rattle.obj_memory.specs.declared.value.Value.{Value}
use Rattle.obj_memory.specs.declared.value.Tag.TheVariants.{OfObject}
use Rattle.obj_memory.specs.Heap.{rounded_up}
use Rattle.addr_map.specs.Places.{objects_begin}
use Rattle.sb_base.specs.Budgets.{BudgetSizes}
use Rattle.c_tree.specs.Kinds.{size_of_kind}
use Rattle.c_tree.specs.Programs.{StaticObject, Program}
use Rattle.c_const.specs.Addresses.{Pointers}
use Rattle.source_meaning.specs.Constants.Leaving.{IsConstant}
use Rattle.source_meaning.specs.Expressions.{function_pointer}
use Rattle.source_meaning.specs.Places.{statics_first}
use Rattle.source_meaning.specs.Meaning.{setting_of, initial_objects}
use Rattle.tac_ir.specs.declared.function.StaticData.{StaticData}
use Rattle.tac_ir.specs.Meaning.{placed_data}

-- the pointer to a whole static object
abbrev pub pointer_at : (number address size : ℕ) → Value
pointer_at n a size = record { word = a; tag = OfObject n (record { base = a; bound = a + size }) }

-- those to objects from a number on, each at the next multiple of 16 from an offset on
abbrev pub static_pointers : List StaticObject → (number offset : ℕ) → List Value
static_pointers [] n offset = []
static_pointers (o ∷ os) n offset =
    pointer_at n (objects_begin + rounded_up 16 offset) (size_of_kind o.kind)
    ∷ static_pointers os (suc n) (rounded_up 16 offset + size_of_kind o.kind)

-- those to so many functions from a number on
abbrev pub function_pointers : (first count : ℕ) → List Value
function_pointers f zero = []
function_pointers f (suc n) = function_pointer f ∷ function_pointers (suc f) n

abbrev pub program_pointers : Program → Pointers
program_pointers p = record {
  statics = static_pointers p.statics 0 0;
  functions = function_pointers 0 (length p.functions);
}

-- a static object with what its initializer leaves
pub record IsData (ps : Pointers) (object : StaticObject) (made : StaticData) : Type 0 where
  pub size : made.size ≡ size_of_kind object.kind
  pub constant : IsConstant ps object (record { bytes = made.bytes; tags = made.tags })

abbrev pub AreData : Pointers → List StaticObject → List StaticData → Type 0
AreData ps [] [] = Unit {0}
AreData ps (o ∷ os) (d ∷ ds) = IsData ps o d × AreData ps os ds
AreData ps _ _ = ⊥

-- they are the objects before the run, whatever the budgets
pub record AreInitial (program : Program) (ds : List StaticData) : Type 0 where
  pub by : (budgets : BudgetSizes)
      → placed_data (statics_first (setting_of program budgets)) ds 0 ≡ initial_objects program
      (setting_of program budgets)
