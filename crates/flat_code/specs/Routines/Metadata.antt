-- The metadata of pointers: its words, and where memory and registers hold them (SoftBound and CETS: base, bound, key
-- and
-- lock).
use Rattle.std.specs.Prelude.{◌≡◌, ℕ, ◌+◌, ◌%◌, ◌≤◌, List, [], ◌∷◌}
use Rattle.addr_map.specs.declared.region.Region.TheVariants.{Heap, Shadow}
use Rattle.addr_map.specs.Places.{MapSizes, objects_begin, spaces_begin, region_size, region_end}
use Rattle.flat_code.specs.Memory.{Bytes, load, KeepsBut, Keeps}
use Rattle.flat_code.specs.State.{Values, State}
use Rattle.flat_code.specs.declared.registers.Entry.{Entry}
use Rattle.flat_code.specs.declared.registers.Held.{Held}

-- the four words of an entry
pub record Metadata : Type 0 where
  pub base : ℕ
  pub bound : ℕ
  pub key : ℕ
  pub lock : ℕ

-- the entry of a word that holds no pointer
abbrev pub no_metadata : Metadata
no_metadata = record { base = 0; bound = 0; key = 0; lock = 0 }

-- the entry of each word of object space, by the memory
abbrev pub View : Type 0
View = Bytes → ℕ → Metadata

-- the four words from an address on
abbrev pub metadata_at : Bytes → ℕ → Metadata
metadata_at m a = record {
  base = load 8 m a;
  bound = load 8 m (a + 8);
  key = load 8 m (a + 16);
  lock = load 8 m (a +
      24);
}

-- the values of the registers of an entry
abbrev pub metadata_in : Values → Entry → Metadata
metadata_in values e =
    record { base = values e.base; bound = values e.bound; key = values e.key; lock = values e.lock }

abbrev pub entry_registers : Entry → List ℕ
entry_registers e = e.base ∷ e.bound ∷ e.key ∷ e.lock ∷ []

abbrev pub held_registers : Held → List ℕ
held_registers h = h.value ∷ entry_registers h.tag

-- an aligned word of object space
pub record IsObjectWord (map : MapSizes) (address : ℕ) : Type 0 where
  pub first : objects_begin ≤ address
  pub last : address + 8 ≤ region_end map Heap
  pub aligned : address % 8 ≡ 0

-- all but the shadow space stays, and the shadow space stays
abbrev pub KeepsButShadow : MapSizes → Bytes → Bytes → Type 0
KeepsButShadow map = KeepsBut spaces_begin (region_size map Shadow)

abbrev pub KeepsShadow : MapSizes → Bytes → Bytes → Type 0
KeepsShadow map = Keeps spaces_begin (region_size map Shadow)

-- nothing was taken from the input, put out or shown as an access, and no turn was begun
pub record ShowsNothing (before after : State) : Type 0 where
  pub input : after.input ≡ before.input
  pub output : after.output ≡ before.output
  pub taken : after.taken ≡ before.taken
  pub accesses : after.accesses ≡ before.accesses
  pub turns : after.turns ≡ before.turns
