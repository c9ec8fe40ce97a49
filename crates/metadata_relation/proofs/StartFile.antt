-- The memory with which an image begins stands for the objects before the run, once 1 is stored at the global lock word,
-- which lies behind all that a file can hold.
use Rattle.std.proofs.Common.{◌≡◌, ◌≢◌, inl, inr, ℕ, zero, suc, ◌+◌, ◌-◌, ◌<◌, ◌≤◌, true, List, [], ◌∷◌, ◌++◌}
use Rattle.std.proofs.Common.{length, refl, sym, ap, ◌∙◌, subst, arith, get_or}
use Rattle.std.proofs.Common.{Bool, false}
use Rattle.std.specs.Prelude.{replicate, nat_lt}
use Rattle.std.proofs.lemmas.Bool.{ltb-true, ltb-false, false≢true}
use Rattle.addr_map.specs.declared.region.Region.TheVariants.{Globals, Shadow}
use Rattle.addr_map.specs.Places.{MapSizes, AreMapped, objects_begin, spaces_begin, region_start, region_size}
use Rattle.addr_map.specs.Places.{region_end}
use Rattle.obj_memory.specs.declared.object.Storage.TheVariants.{Static}
use Rattle.obj_memory.specs.Objects.{Objects, object_at}
use Rattle.obj_memory.specs.Heap.{rounded_up, object_room}
use Rattle.obj_memory.specs.Sound.{IsSoundObject, IsSound, AreDisjoint, AreBeside}
use Rattle.source_meaning.specs.State.{State as Source}
use Rattle.tac_ir.specs.declared.function.StaticData.{StaticData}
use Rattle.tac_ir.specs.Meaning.{placed_data}
use Rattle.flat_code.specs.Memory.{Bytes, load, store}
use Rattle.flat_code.specs.State.{State}
use Rattle.flat_code.proofs.Stored.{store_beside, load_stored, kept_beside}
use Rattle.flat_code.specs.Routines.Metadata.{View, KeepsShadow, IsObjectWord}
use Rattle.flat_code.specs.Routines.Objects.StandsFor.{global_lock}
use Rattle.flat_code.specs.Routines.Objects.Start.{start_keys}
use Rattle.flat_code.proofs.Routines.Regions.{laid_out, spaces_follow}
use Rattle.shadow_space.specs.declared.start.StartEntry.{StartEntry}
use Rattle.shadow_space.specs.Start.{IsGlobalWord, AreStartEntries, AreRead}
use Rattle.lock_space.proofs.Spaces.{locks_laid_out}
use Rattle.heap_space.specs.Table.{total_cell}
use Rattle.heap_space.proofs.Regions.{table_laid_out}
use Rattle.flat_actions.specs.Actions.{views_of, IsShown, IsFor}
use Rattle.flat_actions.specs.Start.{AreStatics, AreEntriesOf, AreSpacesAtStart}
use Rattle.flat_actions.proofs.Starts.{starts}
use Rattle.metadata_relation.specs.StartData.{bytes_of_statics, statics_end, HoldsStatics, AreSpacesInFile}
use Rattle.metadata_relation.proofs.StartData.{behind_offset}

-- ---- the bytes of static objects

before_end : (xs ys : List ℕ) (j : ℕ) → j < length xs → get_or (xs ++ ys) j 0 ≡ get_or xs j 0
before_end [] ys j low = absurd (omega (arith, low))
before_end (x ∷ xs) ys zero low = refl
before_end (x ∷ xs) ys (suc j) low = before_end xs ys j (omega (arith, low))

behind_end : (xs ys : List ℕ) (i j : ℕ) → i ≡ length xs + j → get_or (xs ++ ys) i 0 ≡ get_or ys j 0
behind_end [] ys i j e = ap (λ k. get_or ys k 0) (omega (arith, e))
behind_end (x ∷ xs) ys zero j e = absurd (omega (arith, e))
behind_end (x ∷ xs) ys (suc i) j e = behind_end xs ys i j (omega (arith, e))

padding : (n : ℕ) → length {A = ℕ} (replicate n 0) ≡ n
padding zero = refl
padding (suc n) = let e = padding n in omega (arith, e)

module _ (functions : ℕ) (all : Objects) (memory : Bytes) where
  abbrev AreSoundFrom : List StaticData → (offset : ℕ) → Type 0
  AreSoundFrom ds offset = (n : ℕ) → IsSoundObject functions all (object_at (placed_data objects_begin ds offset) n)

  ends_behind : (ds : List StaticData) (offset : ℕ) → offset ≤ statics_end ds offset
  ends_behind [] offset = omega arith
  ends_behind (d ∷ ds) offset = let rest = ends_behind ds (rounded_up 16 offset + d.size) in omega (arith, rest)

  bytes_at : (ds : List StaticData) (offset : ℕ) → AreSoundFrom ds offset
      → ((i : ℕ) → offset + i < statics_end ds offset
      → memory (objects_begin + (offset + i)) ≡ get_or (bytes_of_statics ds offset) i 0) → (n : ℕ)
      → n < length (placed_data objects_begin ds offset) → (j : ℕ)
      → j < (object_at (placed_data objects_begin ds offset) n).size
      → memory ((object_at (placed_data objects_begin ds offset) n).address + j)
      ≡ get_or (object_at (placed_data objects_begin ds offset) n).bytes j 0
  bytes_at [] offset sound holds n low j inside = absurd (omega (arith, low))
  bytes_at (d ∷ ds) offset sound holds zero low j inside =
      let pad : List ℕ = replicate (rounded_up 16 offset - offset) 0 in
      let next = rounded_up 16 offset + d.size in
      let rest = bytes_of_statics ds next in
      let long = padding (rounded_up 16 offset - offset) in
      let size = (sound 0).bytes in
      let end = ends_behind ds next in
      let i = (rounded_up 16 offset - offset) + j in
      let there : objects_begin + (offset + i) ≡ objects_begin + rounded_up 16 offset + j = omega arith in
      ap memory (sym there)
      ∙ holds i (omega (arith, inside, end))
      ∙ behind_end pad (d.bytes ++ rest) i j (omega (arith, long))
      ∙ before_end d.bytes rest j (omega (arith, inside, size))
  bytes_at (d ∷ ds) offset sound holds (suc n) low j inside =
      let pad : List ℕ = replicate (rounded_up 16 offset - offset) 0 in
      let next = rounded_up 16 offset + d.size in
      let rest = bytes_of_statics ds next in
      let long = padding (rounded_up 16 offset - offset) in
      let size = (sound 0).bytes in
      bytes_at ds next (λ m. sound (suc m)) (λ i before.
      let k = (rounded_up 16 offset - offset) + (d.size + i) in
      let there : objects_begin + (offset + k) ≡ objects_begin + (next + i) = omega arith in
      ap memory (sym there)
      ∙ holds k (omega (arith, before))
      ∙ behind_end pad (d.bytes ++ rest) k (d.size + i) (omega (arith, long))
      ∙ behind_end d.bytes rest (d.size + i) i (omega (arith, size))) n (omega (arith, low)) j inside

  -- ---- where they stand

  pub static_at : (ds : List StaticData) (offset n : ℕ)
      → (object_at (placed_data objects_begin ds offset) n).storage ≡ Static
  static_at [] offset n = refl
  static_at (d ∷ ds) offset zero = refl
  static_at (d ∷ ds) offset (suc n) = static_at ds (rounded_up 16 offset + d.size) n

  live_at : (ds : List StaticData) (offset n : ℕ) → n < length (placed_data objects_begin ds offset)
      → (object_at (placed_data objects_begin ds offset) n).is_live ≡ true
  live_at [] offset n low = absurd (omega (arith, low))
  live_at (d ∷ ds) offset zero low = refl
  live_at (d ∷ ds) offset (suc n) low = live_at ds (rounded_up 16 offset + d.size) n (omega (arith, low))

  made_at : (ds : List StaticData) (offset n : ℕ) → (object_at (placed_data objects_begin ds offset) n).is_live ≡ true
      → n < length (placed_data objects_begin ds offset)
  made_at [] offset n live = absurd (false≢true live)
  made_at (d ∷ ds) offset zero live = omega arith
  made_at (d ∷ ds) offset (suc n) live =
      let rest = made_at ds (rounded_up 16 offset + d.size) n live in
      omega (arith, rest)

  last_at : (ds : List StaticData) (offset n : ℕ) → n < length (placed_data objects_begin ds offset)
      → (object_at (placed_data objects_begin ds offset) n).address
      + (object_at (placed_data objects_begin ds offset) n).size ≤ objects_begin + statics_end ds offset
  last_at [] offset n low = absurd (omega (arith, low))
  last_at (d ∷ ds) offset zero low = let end = ends_behind ds (rounded_up 16 offset + d.size) in omega (arith, end)
  last_at (d ∷ ds) offset (suc n) low = last_at ds (rounded_up 16 offset + d.size) n (omega (arith, low))

  -- an object ends where the next ones begin
  apart_at : (ds : List StaticData) (offset m n : ℕ) → m < n → n < length (placed_data objects_begin ds offset)
      → (object_at (placed_data objects_begin ds offset) m).address
      + (object_at (placed_data objects_begin ds offset) m).size
      ≤ (object_at (placed_data objects_begin ds offset) n).address
  apart_at [] offset m n order low = absurd (omega (arith, low))
  apart_at (d ∷ ds) offset m zero order low = absurd (omega (arith, order))
  apart_at (d ∷ ds) offset zero (suc n) order low =
      let at = behind_offset objects_begin ds (rounded_up 16 offset + d.size) n (omega (arith, low)) in
      omega (arith, at)
  apart_at (d ∷ ds) offset (suc m) (suc n) order low =
      apart_at ds (rounded_up 16 offset + d.size) m n (omega (arith, order)) (omega (arith, low))

  are_disjoint : (ds : List StaticData) → AreDisjoint (placed_data objects_begin ds 0)
  are_disjoint ds = record { apart = apart }
    where
      room : (n : ℕ) → object_room (object_at (placed_data objects_begin ds 0) n).storage
          (object_at (placed_data objects_begin ds 0) n).size ≡ (object_at (placed_data objects_begin ds 0) n).size
      room n = ap (λ s. object_room s (object_at (placed_data objects_begin ds 0) n).size) (static_at ds 0 n)

      apart : (m n : ℕ) → m ≢ n → (object_at (placed_data objects_begin ds 0) m).is_live ≡ true
          → (object_at (placed_data objects_begin ds 0) n).is_live ≡ true
          → AreBeside (object_at (placed_data objects_begin ds 0) m) (object_at (placed_data objects_begin ds 0) n)
      apart m n other l k = by (nat_lt m n) refl
        where
          by : (b : Bool) → nat_lt m n ≡ b
              → AreBeside (object_at (placed_data objects_begin ds 0) m) (object_at (placed_data objects_begin ds 0) n)
          by true e =
              let at = apart_at ds 0 m n (ltb-true m n e) (made_at ds 0 n k) in
              let size = room m in
              inl (omega (arith, at, size))
          by false e =
              let past = ltb-false m n e in
              let at = apart_at ds 0 n m (omega (arith, past, other)) (made_at ds 0 m l) in
              let size = room n in
              inr (omega (arith, at, size))

-- the static objects stand in the memory
pub are_statics : (map : MapSizes) (functions : ℕ) (ds : List StaticData) (memory : Bytes)
    → IsSound functions (placed_data objects_begin ds 0) → objects_begin + statics_end ds 0 ≤ region_end map Globals
    → HoldsStatics ds memory → AreStatics map functions (placed_data objects_begin ds 0) memory
unfolding region_start
are_statics map functions ds memory sound last holds =
    let all = placed_data objects_begin ds 0 in
    record {
      sound = sound;
      disjoint = are_disjoint functions all memory ds;
      static = static_at functions all memory ds 0;
      live = live_at functions all memory ds 0;
      placed = λ n low. record {
        first = (let at = behind_offset objects_begin ds 0 n low in omega (arith, at));
        last = (let at = last_at functions all memory ds 0 n low in omega (arith, at, last));
      };
      bytes = bytes_at functions all memory ds 0 sound.at (λ i before.
          ap (λ k. memory (objects_begin + k)) (omega arith) ∙ holds.by i (omega (arith, before)));
    }

-- ---- the runtime's spaces

zeros_loaded : (n : ℕ) (m : Bytes) (a : ℕ) → ((i : ℕ) → i < n → m (a + i) ≡ 0) → load n m a ≡ 0
unfolding load
zeros_loaded zero m a h = refl
zeros_loaded (suc n) m a h =
    let first : a + 0 ≡ a = omega arith in
    let here : m a ≡ 0 = subst (λ z. m z ≡ 0) first (h 0 (omega arith)) in
    let rest = zeros_loaded n m (suc a) (λ i lt. let e : a + suc i ≡ suc a + i = omega arith in
    subst (λ z. m z ≡ 0) e (h (suc i) (omega (arith, lt)))) in
    omega (arith, here, rest)

module _ (map : MapSizes) (mapped : AreMapped map) (functions : ℕ) (types : ℕ → ℕ) (entry : View)
    (IsGood : Bytes → Type 0)
    (local : (m m' : Bytes) → KeepsShadow map m m' → IsGood m
    → IsGood m' × ((a : ℕ) → IsObjectWord map a → entry m' a ≡ entry m a))
    (es : List StartEntry) (objects : Objects) (m : Bytes) (are_entries : AreStartEntries map es)
    (statics : AreStatics map functions objects m)
    (entries : AreEntriesOf (views_of map functions types entry) objects es)
    (file : AreSpacesInFile map entry IsGood es m) where
  abbrev locked : Bytes
  locked = store 8 m (global_lock map) 1

  shadow_kept : KeepsShadow map m locked
  shadow_kept =
      let f = (spaces_follow map).shadow in
      kept_beside (global_lock map) 8 spaces_begin (region_size map Shadow) m locked (store_beside 8 m (global_lock map) 1)
      (inl (omega (arith, f)))

  word_of : (a : ℕ) → IsGlobalWord map a → IsObjectWord map a
  unfolding region_start region_size
  word_of a w =
      let first = w.first in let last = w.last in let aligned = w.aligned in
      record { first = omega arith; last = omega arith; aligned = omega arith }

  read_on : (es : List StartEntry) → AreStartEntries map es → AreRead entry m es → AreRead entry locked es
  read_on [] are h = tt
  read_on (e ∷ es) are h =
      ((local m locked shadow_kept file.shadow.good).1 e.at (word_of e.at are.0.word) ∙ h.0, read_on es are.2 h.1)

  spaces : AreSpacesAtStart map entry IsGood es locked
  spaces =
      let moved = local m locked shadow_kept file.shadow.good in
      let f = spaces_follow map in
      let table = f.table in
      let lie = locks_laid_out map mapped in
      let cells = lie.cells in
      let blocks = lie.blocks in
      let rows = table_laid_out map mapped in
      record {
        shadow = record {
          good = moved.0;
          read = read_on es are_entries file.shadow.read;
          others = λ a w none. moved.1 a w ∙ file.shadow.others a w none;
        };
        locks = record {
          global = load_stored 8 m (global_lock map) 1 (omega arith);
          zeros = λ a lo hi. store_beside 8 m (global_lock map) 1 a (inr (omega arith))
              ∙ file.zeros a (omega arith) (omega arith);
        };
        blocks = zeros_loaded 8 locked (total_cell map) (λ i lt.
            store_beside 8 m (global_lock map) 1 (total_cell map + i) (inr (omega arith))
            ∙ file.zeros (total_cell map + i) (omega arith) (omega arith));
      }

  statics_kept : AreStatics map functions objects locked
  statics_kept =
      let lie = laid_out map mapped in
      let f = (spaces_follow map).shadow in
      let small = lie.small in
      record {
        sound = statics.sound;
        disjoint = statics.disjoint;
        static = statics.static;
        live = statics.live;
        placed = statics.placed;
        bytes = λ n l j lt. (let last = (statics.placed n l).last in
            store_beside 8 m (global_lock map) 1 ((object_at objects n).address + j) (inl (omega arith)))
            ∙ statics.bytes n l j lt;
      }

  pub file_stands : (x : Source) (f : State) → x.objects ≡ objects → x.keys ≡ 0 → f.memory ≡ locked → IsShown x f
      → IsFor (views_of map functions types entry) (start_keys (views_of map functions types entry)) IsGood x f
  file_stands x f same none memory shown =
      starts map mapped functions types entry IsGood es objects locked statics_kept entries spaces x f same none memory
      shown
