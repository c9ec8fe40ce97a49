-- The bytes with which the shadow space begins: the entries of the words of static objects that hold pointers.
use Rattle.std.specs.Prelude.{◌≡◌, ℕ, ◌+◌, ◌%◌, ◌^◌, ◌<◌, ◌≤◌, List, [], ◌∷◌, ◌++◌, map, take, drop, get_or}
use Rattle.std.specs.Int.{w64, to_le_bytes}
use Rattle.addr_map.specs.declared.region.Region.TheVariants.{Globals, Shadow}
use Rattle.addr_map.specs.Places.{MapSizes, objects_begin, spaces_begin, region_size, region_end}
use Rattle.flat_code.specs.Memory.{Bytes}
use Rattle.flat_code.specs.Routines.Registers.{IsNoneOf}
use Rattle.flat_code.specs.Routines.Metadata.{Metadata, View, no_metadata, IsObjectWord}
use Rattle.shadow_space.specs.declared.start.StartEntry.{StartEntry}

-- the metadata of an entry
abbrev pub metadata_of : StartEntry → Metadata
metadata_of e = record { base = e.base; bound = e.bound; key = e.key; lock = e.lock }

-- the words that have entries
abbrev pub words_of : List StartEntry → List ℕ
words_of es = map (λ e. e.at) es

-- a word of static objects
pub record IsGlobalWord (map : MapSizes) (address : ℕ) : Type 0 where
  pub first : objects_begin ≤ address
  pub last : address + 8 ≤ region_end map Globals
  pub aligned : address % 8 ≡ 0

-- an entry of four words, of one of these
pub record IsStartEntry (map : MapSizes) (entry : StartEntry) : Type 0 where
  pub word : IsGlobalWord map entry.at
  pub base : entry.base < 2 ^ 64
  pub bound : entry.bound < 2 ^ 64
  pub key : entry.key < 2 ^ 64
  pub lock : entry.lock < 2 ^ 64

-- each is one, and none is of the word of another
abbrev pub AreStartEntries : MapSizes → List StartEntry → Type 0
AreStartEntries map [] = Unit {0}
AreStartEntries map (e ∷ es) = IsStartEntry map e × IsNoneOf e.at (words_of es) × AreStartEntries map es

-- the region begins with these bytes, and all behind them is zero
abbrev pub BeginsWith : MapSizes → List ℕ → Bytes → Type 0
BeginsWith map bytes m = (i : ℕ) → i < region_size map Shadow → m (spaces_begin + i) ≡ get_or bytes i 0

-- the words of the entries read as they are
abbrev pub AreRead : View → Bytes → List StartEntry → Type 0
AreRead entry m [] = Unit {0}
AreRead entry m (e ∷ es) = (entry m e.at ≡ metadata_of e) × AreRead entry m es

-- and every other word of object space as none
pub record IsStarted (map : MapSizes) (entry : View) (IsGood : Bytes → Type 0) (es : List StartEntry) (memory : Bytes)
    : Type 0 where
  pub good : IsGood memory
  pub read : AreRead entry memory es
  pub others : (a : ℕ) → IsObjectWord map a → IsNoneOf a (words_of es) → entry memory a ≡ no_metadata

abbrev pub StartsShadow : MapSizes → View → (Bytes → Type 0) → List StartEntry → List ℕ → Type 0
StartsShadow map entry IsGood es bytes = (m : Bytes) → BeginsWith map bytes m → IsStarted map entry IsGood es m

-- bytes with a word at an offset
abbrev pub with_word : (offset word : ℕ) → List ℕ → List ℕ
with_word o w bytes = take o bytes ++ (to_le_bytes w64 w ++ drop (o + 8) bytes)

-- and with the four words of an entry
abbrev pub with_entry : (offset : ℕ) → Metadata → List ℕ → List ℕ
with_entry o e bytes =
    with_word (o + 24) e.lock (with_word (o + 16) e.key (with_word (o + 8) e.bound (with_word o e.base bytes)))

-- one entry after another is put into something
abbrev pub begun : {A : Type 0} → (A → StartEntry → A) → List StartEntry → A → A
begun put [] x = x
begun put (e ∷ es) x = begun put es (put x e)
