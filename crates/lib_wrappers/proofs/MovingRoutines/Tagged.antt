-- A range moved with its tags: its bytes, and then the entries of its whole words.
use Rattle.std.proofs.Common.{◌≡◌, ℕ, ◌+◌, ◌-◌, ◌*◌, ◌<◌, ◌≤◌, ◌⊎◌, inl, inr, List, []}
use Rattle.std.proofs.Common.{◌∷◌, ◌++◌, sym, ◌∙◌, subst, arith}
use Rattle.addr_map.specs.declared.region.Region.TheVariants.{Heap, Shadow, StructureValues}
use Rattle.addr_map.specs.Places.{MapSizes, AreMapped, spaces_begin, region_size, region_start, region_end}
use Rattle.flat_code.specs.declared.instruction.FlatInstruction.{FlatInstruction}
use Rattle.flat_code.specs.Memory.{Bytes, KeepsBut}
use Rattle.flat_code.specs.State.{State}
use Rattle.flat_code.specs.Meaning.{Context}
use Rattle.flat_code.specs.Routines.Registers.{AreBelow}
use Rattle.flat_code.specs.Routines.Routine.{Does, Either, Never}
use Rattle.flat_code.specs.Routines.Metadata.{View, KeepsShadow}
use Rattle.flat_code.proofs.Routines.Regions.{IsLaidOut, laid_out, spaces_follow}
use Rattle.flat_code.proofs.Routines.Showing.{shows_both}
use Rattle.flat_code.proofs.Routines.Words.{IsLocal}
use Rattle.flat_code.specs.Routines.Objects.Changes.{KeepsTables}
use Rattle.flat_code.proofs.Routines.Objects.Changing.{global_is_lock}
use Rattle.lock_space.specs.Locks.{KeepsLocks}
use Rattle.lock_space.proofs.Spaces.{locks_laid_out}
use Rattle.lock_space.proofs.Local.{lock_kept, counter_kept, good_kept as locks_kept}
use Rattle.heap_space.specs.Table.{KeepsTable}
use Rattle.heap_space.proofs.Regions.{table_laid_out}
use Rattle.heap_space.proofs.Local.{rows_kept, good_kept as table_kept}
use Rattle.flat_actions.specs.Actions.{views_of, AreSpacesGood}
use Rattle.flat_actions.specs.Ranges.{IsObjectRange, IsToMove, HasMovedBytes, IsByteMoveRoutine, HasMovedTagged}
use Rattle.flat_actions.specs.Ranges.{IsTaggedMoveRoutine}
use Rattle.flat_actions.proofs.Standing.{others_trans}
use Rattle.lib_wrappers.specs.MovingRoutines.Tagged.{CopiesEntry, move_words}
use Rattle.lib_wrappers.proofs.MovingRoutines.Steps.{both_quiet, quiet_weaken}
use Rattle.lib_wrappers.proofs.MovingRoutines.Bytes.{in_runtime}
use Rattle.lib_wrappers.proofs.MovingRoutines.Words.{HasMovedWords, IsToMoveWords, words_move}

-- ---- spaces behind the shadow space

-- memory changed in a range of object space and in the shadow space alone
pub record ChangesRange (map : MapSizes) (d n : ℕ) (m m' : Bytes) : Type 0 where
  pub low : (a : ℕ) → a < spaces_begin → (a < d) ⊎ (d + n ≤ a) → m' a ≡ m a
  pub high : (a : ℕ) → spaces_begin + region_size map Shadow ≤ a → m' a ≡ m a

pub locks_stay : (map : MapSizes) (d n : ℕ) (m m' : Bytes) → ChangesRange map d n m m' → KeepsLocks map m m'
locks_stay map d n m m' h i l = let b = spaces_follow map in let x = b.shadow in h.high _ (omega arith)

pub table_stays : (map : MapSizes) (d n : ℕ) (m m' : Bytes) → ChangesRange map d n m m' → KeepsTable map m m'
table_stays map d n m m' h i l =
    let b = spaces_follow map in let x = b.shadow in let y = b.locks in h.high _ (omega arith)

pub behind_stays : (map : MapSizes) (d n : ℕ) (m m' : Bytes) → ChangesRange map d n m m' → (a : ℕ)
    → region_start map StructureValues ≤ a → m' a ≡ m a
behind_stays map d n m m' h a l =
    let b = spaces_follow map in let x = b.shadow in let y = b.locks in let z = b.table in h.high a (omega arith)

-- so the runtime's tables stay, and all spaces are good on
pub tables_stay : (map : MapSizes) (functions : ℕ) (types : ℕ → ℕ) (entry : View) (IsGood : Bytes → Type 0) (d n : ℕ)
    (m m' : Bytes) → AreMapped map → AreSpacesGood map IsGood m → ChangesRange map d n m m'
    → KeepsTables (views_of map functions types entry) m m'
tables_stay map functions types entry IsGood d n m m' mapped good h =
    let keep = locks_stay map d n m m' h in
    record {
      locks = lock_kept map m m' (locks_laid_out map mapped) keep;
      counter = counter_kept map m m' (locks_laid_out map mapped) keep;
      blocks = rows_kept map m m' (table_laid_out map mapped) (table_stays map d n m m' h) good.table;
    }

pub spaces_stay : (map : MapSizes) (IsGood : Bytes → Type 0) (d n : ℕ) (m m' : Bytes) → AreMapped map
    → AreSpacesGood map IsGood m → ChangesRange map d n m m' → IsGood m' → AreSpacesGood map IsGood m'
spaces_stay map IsGood d n m m' mapped good h shadow = record {
  shadow = shadow;
  locks = locks_kept map m m' (locks_laid_out map mapped) (locks_stay map d n m m' h) (global_is_lock map mapped)
      good.locks;
  table = table_kept map m m' (table_laid_out map mapped) (table_stays map d n m m' h) good.table;
}

-- a change of a range of object space leaves the shadow space
pub shadow_stays : (map : MapSizes) (d n : ℕ) (m m' : Bytes) → IsLaidOut map → d + n ≤ region_end map Heap
    → KeepsBut d n m m' → KeepsShadow map m m'
shadow_stays map d n m m' ok l keep i il = let small = ok.small in keep (spaces_begin + i) (inr (omega arith))

-- ---- both one after the other

module _ (map : MapSizes) (mapped : AreMapped map) (ok : IsLaidOut map) (entry : View) (IsGood : Bytes → Type 0)
    (local : IsLocal map entry IsGood) (to from bytes t : ℕ) (below : AreBelow t (to ∷ from ∷ bytes ∷ [])) (n : ℕ) where
  abbrev IsReady : State → Type 0
  IsReady s = IsToMove map to from bytes n s × AreSpacesGood map IsGood s.memory

  abbrev MovedBytes : State → State → Type 0
  MovedBytes = HasMovedBytes to from n t

  -- in between
  shadow_same : (x y : State) → IsReady x → MovedBytes x y → KeepsShadow map x.memory y.memory
  shadow_same x y p h = shadow_stays map (x.values to) n x.memory y.memory ok p.0.to_range.last h.beside

  still_to : (x y : State) → MovedBytes x y → y.values to ≡ x.values to
  still_to x y h = h.others to below.0 tt

  still_from : (x y : State) → MovedBytes x y → y.values from ≡ x.values from
  still_from x y h = h.others from below.1.0 tt

  between : (x y : State) → IsReady x → MovedBytes x y → IsToMove map to from bytes n y × IsGood y.memory
  between x y p h = (
    record {
      size_is = h.others bytes below.1.1.0 tt ∙ p.0.size_is;
      to_range = subst (λ a. IsObjectRange map a n) (sym (still_to x y h)) p.0.to_range;
      from_range = subst (λ a. IsObjectRange map a n) (sym (still_from x y h))
          p.0.from_range;
    },
    (local x.memory y.memory (shadow_same x y p h) p.1.shadow).0,
  )

  abbrev MovedWords : State → State → State → Type 0
  MovedWords x y z = HasMovedWords map entry IsGood (x.values to) (x.values from) n t y z

  changed : (x y z : State) → IsReady x → MovedBytes x y → MovedWords x y z
      → ChangesRange map (x.values to) n x.memory z.memory
  changed x y z p h k =
      let last = p.0.to_range.last in let small = ok.small in
      record {
        low = λ a l out. k.memory a (inl l) ∙ h.beside a out;
        high = λ a l. k.memory a (inr l) ∙ h.beside a (inr (omega arith));
      }

  moved : (x y z : State) → IsReady x → MovedBytes x y → MovedWords x y z
      → HasMovedTagged map entry IsGood to from n t x z
  moved x y z p h k =
      let to_last = p.0.to_range.last in let to_first = p.0.to_range.first in
      let from_last = p.0.from_range.last in let from_first = p.0.from_range.first in
      let small = ok.small in
      let change = changed x y z p h k in
      let same = (local x.memory y.memory (shadow_same x y p h) p.1.shadow).1 in
      let d = x.values to in let s = x.values from in
      record {
        moved = λ functions types. record {
          there = λ i l. k.memory (d + i) (inl (omega arith)) ∙ h.there i l;
          beside = change.low;
          entries = λ w word m. k.words.entries w word m
              ∙ same (w - d + s) (let e = m.0 in let a = m.1 in let b = m.2 in let first = word.first in
              let whole = word.aligned in
              record { first = omega arith; last = omega arith; aligned = omega arith });
          others = λ w word kept. k.words.others w word kept ∙ same w word;
          tables = tables_stay map functions types entry IsGood d n x.memory z.memory mapped p.1 change;
        };
        good = spaces_stay map IsGood d n x.memory z.memory mapped p.1 change k.good;
        behind = behind_stays map d n x.memory z.memory change;
        shows = shows_both x y z h.shows k.shows;
        others = others_trans [] t x y z h.others k.others;
      }

  module _ (first body : List FlatInstruction) (bytes_move : IsByteMoveRoutine map to from bytes t first)
      (copies : CopiesEntry map entry IsGood t body) (charge weight : ℕ) where
    abbrev c : Context
    c = in_runtime map charge weight

    pub tagged_moves : Does c (first ++ move_words to from bytes t body) IsReady (λ s. 40 + 16 * n)
        (λ s. Either (HasMovedTagged map entry IsGood to from n t s) Never)
    tagged_moves =
        quiet_weaken c (first ++ move_words to from bytes t body) (16 + 7 * n + (13 + (8 + 9 * n))) (40 + 16 * n)
        IsReady IsReady (HasMovedTagged map entry IsGood to from n t) (HasMovedTagged map entry IsGood to from n t)
        (omega arith) (λ s p. p) (λ s z p h. h)
        (both_quiet c first (move_words to from bytes t body) (16 + 7 * n) (13 + (8 + 9 * n)) IsReady MovedBytes
        (λ x. IsToMoveWords map ok entry IsGood to from bytes t below body copies n charge weight) since
        (HasMovedTagged map entry IsGood to from n t)
        (quiet_weaken c first (16 + 7 * n) (16 + 7 * n) (IsToMove map to from bytes n) IsReady MovedBytes MovedBytes
        (omega arith) (λ s p. p.0) (λ s y p h. h) (bytes_move n charge weight))
        (λ x. words_move map ok entry IsGood to from bytes t below body copies n charge weight)
        (λ x y p h. let b = between x y p h in record { range = b.0; good = b.1 })
        (λ x y z p h k. moved x y z p h (subst (λ a. HasMovedWords map entry IsGood a (x.values from) n t y z)
        (still_to x y h)
        (subst (λ a. HasMovedWords map entry IsGood (y.values to) a n t y z) (still_from x y h) k))))
      where
        since : State → State → State → Type 0
        since x y z = HasMovedWords map entry IsGood (y.values to) (y.values from) n t y z

pub moves_tagged : (map : MapSizes) → AreMapped map → (entry : View) (IsGood : Bytes → Type 0)
    → IsLocal map entry IsGood → (to from bytes t : ℕ) → AreBelow t (to ∷ from ∷ bytes ∷ [])
    → (first body : List FlatInstruction) → IsByteMoveRoutine map to from bytes t first
    → CopiesEntry map entry IsGood t body
    → IsTaggedMoveRoutine map entry IsGood to from bytes t (first ++ move_words to from bytes t body)
moves_tagged map mapped entry IsGood local to from bytes t below first body bytes_move copies n charge weight =
    tagged_moves map mapped (laid_out map mapped) entry IsGood local to from bytes t below n first body bytes_move
    copies charge weight
