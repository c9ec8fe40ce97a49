-- What the registers of a function hold: words, pointers with their metadata, the homes of objects, and the contents of
-- structures in areas.
use Rattle.std.specs.Prelude.{◌≡◌, ℕ, ◌+◌, ◌-◌, ◌*◌, ◌%◌, ◌^◌, ◌<◌, ◌≤◌, Bool, true, false, List, [], ◌∷◌, length}
use Rattle.std.specs.Prelude.{get_or}
use Rattle.std.specs.Prelude.{Option, Some, None}
use Rattle.std.specs.Prelude.{zero, suc}
use Rattle.addr_map.specs.declared.region.Region.TheVariants.{StructureValues}
use Rattle.addr_map.specs.Places.{MapSizes, region_end, region_start}
use Rattle.obj_memory.specs.declared.object.Storage.TheVariants.{Automatic}
use Rattle.obj_memory.specs.declared.value.Tag.TheVariants.{Untagged}
use Rattle.obj_memory.specs.declared.value.Value.{Value}
use Rattle.obj_memory.specs.declared.value.Scalar.{Scalar}
use Rattle.obj_memory.specs.declared.value.Scalar.TheVariants.{Integer, Pointer}
use Rattle.obj_memory.specs.Heap.{is_allocated}
use Rattle.obj_memory.specs.Objects.{ObjectState, Objects, object_at, pointer_to}
use Rattle.obj_memory.specs.Sound.{Continues, IsSoundTag, IsSoundObject}
use Rattle.c_tree.specs.declared.program.Variable.{Variable}
use Rattle.c_tree.specs.Kinds.{size_of_kind}
use Rattle.c_tree.specs.Valid.{at_number}
use Rattle.source_meaning.specs.State.{Rvalue, Home, NoObject, InObject}
use Rattle.source_meaning.specs.Actions.{integer}
use Rattle.source_meaning.specs.Good.{plain_type}
use Rattle.tac_ir.specs.declared.function.CodeFunction.{CodeFunction}
use Rattle.tac_ir.specs.declared.function.Tac.{Tac}
use Rattle.tac_ir.specs.Stage.{Temps}
use Rattle.tac_ir.specs.Structures.{greatest_structure, structures_below}
use Rattle.flat_code.specs.Memory.{Bytes}
use Rattle.flat_code.specs.State.{Values}
use Rattle.flat_code.specs.declared.registers.Entry.{Entry}
use Rattle.flat_code.specs.Routines.Metadata.{metadata_in}
use Rattle.flat_code.specs.Routines.Objects.StandsFor.{Views, Keys, Spells, spell}
use Rattle.flat_actions.specs.Actions.{KeepsHeld}
use Rattle.lib_wrappers.specs.AreaRoutines.Areas.{IsArea, IsAreaPlace, entries_begin}
use Rattle.runtime_functions.specs.Library.{held_from}
use Rattle.metadata_plan.specs.Registers.{all_variables, most_temporaries}
use Rattle.metadata_relation.specs.Registers.{entry_from, variable_register, home_register, temporary_register}

-- What registers hold something of: the views of the memory, the keys of objects, the objects, and the memory.
pub record World : Type 0 where
  pub views : Views
  pub keys : Keys
  pub objects : Objects
  pub memory : Bytes

abbrev pub world_of : Views → Keys → Objects → Bytes → World
world_of g k objects m = record { views = g; keys = k; objects = objects; memory = m }

-- objects go on and keep their keys, and the space of structure values stays
pub record GoesOn (g : Views) (k k' : Keys) (old new : Objects) (m m' : Bytes) : Type 0 where
  pub held : KeepsHeld old k k'
  pub continues : Continues old new
  pub behind : (b : ℕ) → region_start g.sizes StructureValues ≤ b → b < region_end g.sizes StructureValues → m' b ≡ m b

-- ---- values

-- a value is held: its word in the first of some registers, behind it its entry where that is kept, and its tag is sound
pub record IsHeldAt (w : World) (with_entry : Bool) (v : Value) (register : ℕ) (values : Values) : Type 0 where
  pub word : values register ≡ v.word
  pub entry : with_entry ≡ true → Spells w.views w.keys v (held_from register) values
  pub sound : IsSoundTag w.views.functions w.objects v.tag

-- ---- contents

-- the area of a temporary, in a function for which the calls are charged so much: behind those of the functions that wait,
-- and of the temporaries before
abbrev pub area_of : MapSizes → Tac → CodeFunction → (charged temporary : ℕ) → ℕ
area_of m t c charged i = region_start m StructureValues + (charged - c.room) + 5 * structures_below t c.code i

-- The entry of a part of contents: where the area begins, and where its entries do. There is no lock word, which each place
-- has.
pub record IsPartEntry (entry : Entry) (size area : ℕ) (values : Values) : Type 0 where
  pub base : values entry.base ≡ area
  pub bound : values entry.bound ≡ entries_begin area size
  pub no_lock : values entry.lock ≡ 0

-- Contents stand in an area, and registers hold the part of them that the value is, which is moved to a member as a
-- pointer is; they are no greater than the area is for.
pub record IsContentsAt (w : World) (with_entry : Bool) (v : Value) (contents : ObjectState) (greatest area register : ℕ)
    (values : Values) : Type 0 where
  pub word : values register ≡ (area + v.word) % 2 ^ 64
  pub entry : with_entry ≡ true → IsPartEntry (held_from register).tag contents.size area values
  pub place : IsAreaPlace w.views.sizes contents.size area
  pub small : contents.size ≤ greatest
  pub area_is : IsArea w.views w.keys contents area w.memory
  pub sound : IsSoundObject w.views.functions w.objects contents
  pub tagged : IsSoundTag w.views.functions w.objects v.tag

abbrev pub IsRvalueAt : World → (with_entry : Bool) → Value → Option ObjectState → (greatest area register : ℕ)
    → Values → Type 0
IsRvalueAt w b v None greatest a r values = IsHeldAt w b v r values
IsRvalueAt w b v (Some c) greatest a r values = IsContentsAt w b v c greatest a r values

-- a temporary, which may have contents, or has none
pub record IsTemporary (w : World) (with_entry may_have : Bool) (v : Rvalue) (greatest area register : ℕ)
    (values : Values) : Type 0 where
  pub by : IsRvalueAt w with_entry v.value v.contents greatest area register values
  pub none : may_have ≡ false → v.contents ≡ None

-- ---- variables

abbrev pub is_pointer_type : Scalar → Bool
is_pointer_type (Integer t) = false
is_pointer_type Pointer = true

-- an integer has no tag
abbrev pub HasNoTag : Scalar → Value → Type 0
HasNoTag (Integer t) v = v.tag ≡ Untagged
HasNoTag Pointer v = Unit {0}

-- a plain variable of a type
pub record IsPlain (w : World) (type : Scalar) (v : Value) (register : ℕ) (values : Values) : Type 0 where
  pub value : IsHeldAt w (is_pointer_type type) v register values
  pub no_tag : HasNoTag type v

-- whether a variable is an object
abbrev pub is_object_in : List Variable → (variable : ℕ) → Bool
is_object_in [] x = false
is_object_in (v ∷ vs) zero = v.is_object
is_object_in (v ∷ vs) (suc x) = is_object_in vs x

-- the object of a variable lives, and registers hold the entry of a pointer to it, whose base is its address
pub record IsHome (w : World) (object register : ℕ) (values : Values) : Type 0 where
  pub live : (object_at w.objects object).is_live ≡ true
  pub held : is_allocated (object_at w.objects object).storage ≡ false
  pub entry : metadata_in values (entry_from register) ≡ spell w.views w.keys (pointer_to object w.objects).tag

-- the homes of variables: their objects are automatic, each as large as the kind of its variable
pub record HasHomes (w : World) (c : CodeFunction) (frame : List Home) (values : Values) : Type 0 where
  pub declared : (x o : ℕ) → get_or frame x NoObject ≡ InObject o → is_object_in (all_variables c) x ≡ true
  pub homes : (x o : ℕ) → get_or frame x NoObject ≡ InObject o → IsHome w o (home_register c x) values
  pub automatic : (x o : ℕ) → get_or frame x NoObject ≡ InObject o → (object_at w.objects o).storage ≡ Automatic
  pub sizes : (x o : ℕ) → get_or frame x NoObject ≡ InObject o
      → (object_at w.objects o).size ≡ size_of_kind (at_number (all_variables c) x).kind

-- ---- a function

-- where a function of a program runs: how much the calls are charged, which temporaries have entries at its node, which may
-- have contents, and of which nothing is known
pub record Activation : Type 0 where
  pub tac : Tac
  pub code : CodeFunction
  pub charged : ℕ
  pub entries : ℕ → Bool
  pub contents : ℕ → Bool
  pub unknown : ℕ → Bool

-- the registers of a function
pub record Holds (w : World) (a : Activation) (temps : Temps) (plain : List Value) (frame : List Home)
    (values : Values) : Type 0 where
  pub temporaries : (i : ℕ) → i < most_temporaries a.code.code → a.unknown i ≡ false
      → IsTemporary w (a.entries i) (a.contents i) (temps i) (greatest_structure a.tac a.code.code i)
      (area_of w.views.sizes a.tac a.code a.charged i) (temporary_register a.code i) values
  pub variables : (x : ℕ) (k : Scalar) → plain_type (all_variables a.code) x ≡ Some k
      → IsPlain w k (get_or plain x (integer 0)) (variable_register a.code x) values
  pub homes : HasHomes w a.code frame values
  pub count : length plain ≡ length (all_variables a.code)
