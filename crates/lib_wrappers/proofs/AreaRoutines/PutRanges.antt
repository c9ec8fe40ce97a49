-- Contents are put from an area to an object.
use Rattle.std.proofs.Common.{◌≡◌, ◌≢◌, ℕ, ◌+◌, ◌-◌, ◌*◌, ◌/◌, ◌%◌, ◌^◌, ◌<◌, ◌≤◌, ◌⊎◌, inl, inr, ⊎_elim, List, []}
use Rattle.std.proofs.Common.{◌∷◌, ◌++◌, refl, sym, ap, ◌∙◌, subst, arith}
use Rattle.addr_map.specs.Places.{MapSizes, AreMapped}
use Rattle.rv_isa.specs.Results.{reg_result}
use Rattle.flat_code.specs.declared.instruction.FlatInstruction.{FlatInstruction}
use Rattle.flat_code.specs.Memory.{Bytes, put}
use Rattle.flat_code.specs.State.{State}
use Rattle.flat_code.specs.Meaning.{Context}
use Rattle.flat_code.specs.declared.registers.Held.{Held}
use Rattle.flat_code.specs.Routines.Registers.{AreBelow, OthersStay}
use Rattle.flat_code.specs.Routines.Routine.{Does, Either, Never}
use Rattle.flat_code.specs.Routines.Metadata.{View, metadata_at, IsObjectWord, KeepsButShadow, KeepsShadow}
use Rattle.flat_code.specs.Routines.Metadata.{ShowsNothing}
use Rattle.flat_code.specs.Routines.Metadata.{held_registers}
use Rattle.flat_code.specs.Routines.Objects.Changes.{IsMovedWord, IsKeptWord}
use Rattle.flat_code.proofs.Routines.Regions.{laid_out}
use Rattle.flat_code.proofs.Routines.Showing.{shows_both}
use Rattle.flat_code.proofs.Routines.Words.{IsLocal, metadata_kept}
use Rattle.shadow_space.specs.Form.{IsWriteRoutine}
use Rattle.flat_actions.specs.Actions.{AreSpacesGood}
use Rattle.flat_actions.specs.Ranges.{IsObjectRange, HasMovedBytes}
use Rattle.flat_actions.proofs.Standing.{others_trans}
use Rattle.lib_wrappers.specs.MovingRoutines.Moving.{IsToMoveUsable, IsUsableMoveRoutine}
use Rattle.lib_wrappers.specs.MovingRoutines.Tagged.{count_words}
use Rattle.lib_wrappers.proofs.MovingRoutines.Steps.{both_quiet, quiet_weaken, IsGlued, glued}
use Rattle.lib_wrappers.proofs.MovingRoutines.Bytes.{in_runtime, object_usable}
use Rattle.lib_wrappers.proofs.MovingRoutines.Words.{AreNone, AreLow, HasCounted, counts, first_word, end_word}
use Rattle.lib_wrappers.proofs.MovingRoutines.Tagged.{ChangesRange, tables_stay, spaces_stay, behind_stays}
use Rattle.lib_wrappers.proofs.MovingRoutines.Tagged.{shadow_stays}
use Rattle.lib_wrappers.specs.AreaRoutines.Areas.{area_bytes, entries_begin}
use Rattle.lib_wrappers.specs.AreaRoutines.Loops.{word_loop, entry_behind, load_entry}
use Rattle.lib_wrappers.specs.AreaRoutines.Putting.{IsToPut, HasPutRange, IsPutRangeRoutine, entry_place, put_entries}
use Rattle.lib_wrappers.proofs.AreaRoutines.WordLoops.{Going, words_all}
use Rattle.lib_wrappers.proofs.AreaRoutines.Bodies.{IsSpaceRange, ArePut, put_does_word}
use Rattle.lib_wrappers.proofs.AreaRoutines.Spaces.{structure_space, part_of_area, space_usable}

module _ (map : MapSizes) (mapped : AreMapped map) (entry : View) (IsGood : Bytes → Type 0)
    (local : IsLocal map entry IsGood) (to : ℕ) (h : Held) (bytes t charge weight : ℕ)
    (below : AreBelow t (to ∷ bytes ∷ held_registers h)) (n size offset a : ℕ) (write : List FlatInstruction)
    (writes : IsWriteRoutine map entry IsGood (t + 1) (entry_behind t) (t + 7) write) where
  abbrev c : Context
  c = in_runtime map charge weight

  abbrev Holds : State → Type 0
  Holds = IsToPut map to h bytes n size offset a

  -- where the range is
  record IsLow (s : State) : Type 0 where
    to_low : s.values to + n < 2 ^ 31
    from_low : a + area_bytes size < 2 ^ 31

  low : (s : State) → Holds s → IsLow s
  low s p =
      let last = p.range.last in let small = (laid_out map mapped).small in
      let end = p.place.last in let few = (structure_space map mapped).small in
      record { to_low = omega arith; from_low = omega arith }

  -- ---- the words are counted, and the first entry found

  -- there are some
  record AreFound (d k p e : ℕ) : Type 0 where
    equal : d % 8 ≡ (a + offset) % 8
    some : first_word d < end_word d n
    count_is : k ≡ end_word d n - first_word d
    first_is : p ≡ 8 * first_word d
    entry_is : e ≡ entries_begin a size + 4 * (8 * first_word d + offset - d)

  record HasPlaces (s y : State) : Type 0 where
    words : AreFound (s.values to) (y.values t) (y.values (t + 1)) (y.values (t + 2))
        ⊎ AreNone (s.values to) (a + offset) n (y.values t)
    memory : y.memory ≡ s.memory
    shows : ShowsNothing s y
    others : OthersStay [] t s y

  abbrev own_place : List FlatInstruction
  own_place = entry_place (record { value = 0; tag = record { base = 0; bound = 1; key = 0; lock = 0 } }) 4

  abbrev ins : List ℕ
  ins = h.tag.base ∷ h.tag.bound ∷ []

  abbrev Counted : State → State → Type 0
  Counted s = HasCounted (s.values to) (a + offset) n t s

  abbrev IsPlaced : State → State → Type 0
  IsPlaced = IsGlued c ins t 3 own_place

  placed : (s y z : State) → Holds s → Counted s y → IsPlaced y z → HasPlaces s z
  unfolding put reg_result
  placed s y z p k g =
      let lo = low s p in let to_low = lo.to_low in let from_low = lo.from_low in
      let room = p.room in
      let base : y.values h.tag.base ≡ a = k.others h.tag.base below.1.1.1.0 tt ∙ p.part.base in
      let bound : y.values h.tag.bound ≡ entries_begin a size =
      k.others h.tag.bound below.1.1.1.1.0 tt ∙ p.part.bound in
      let v0 : z.values t ≡ y.values t = sym (g.values 2 (omega arith)) in
      let v1 : z.values (t + 1) ≡ y.values (t + 1) = sym (g.values 3 (omega arith)) in
      let v2 = sym (g.values 4 (omega arith)) in
      record {
        words = ⊎_elim
            (λ q. (let equal = q.equal in let some = q.some in let count = q.count_is in let first = q.first_is in
            let source = q.source_is in
            inl (record {
              equal = q.equal;
              some = q.some;
              count_is = v0 ∙ q.count_is;
              first_is = v1 ∙ q.first_is;
              entry_is = v2 ∙ omega arith;
            })))
            (λ q. inr (record { none = v0 ∙ q.none; why = q.why }))
            k.words;
        memory = ap (λ x. x.memory) g.rest ∙ k.memory;
        shows = shows_both s y z k.shows (record {
          input = ap (λ x. x.input) g.rest;
          output = ap (λ x. x.output) g.rest;
          taken = ap (λ x. x.taken) g.rest;
          accesses = ap (λ x. x.accesses) g.rest;
          turns = ap (λ x. x.turns) g.rest;
        });
        others = others_trans [] t s y z k.others g.others;
      }

  abbrev counting : List FlatInstruction
  counting = count_words to h.value bytes t (t + 1) (t + 2) (t + 3) ++ entry_place h (t + 2)

  finds : Does c counting Holds (λ s. 16) (λ s. Either (HasPlaces s) Never)
  finds =
      both_quiet c (count_words to h.value bytes t (t + 1) (t + 2) (t + 3)) (entry_place h (t + 2)) 13 3 Holds Counted
      (λ s y. Unit {0}) (λ s y. IsPlaced y) HasPlaces
      (quiet_weaken c (count_words to h.value bytes t (t + 1) (t + 2) (t + 3)) 13 13
      (λ s. AreLow (s.values to) (s.values h.value) (s.values bytes)) Holds
      (λ s. HasCounted (s.values to) (s.values h.value) (s.values bytes) t s) Counted (omega arith)
      (λ s p. (let lo = low s p in let x = lo.to_low in let y = lo.from_low in let size_is = p.size_is in
      let part = p.part.part in let room = p.room in
      record { to_low = omega arith; from_low = omega arith }))
      (λ s y p k. subst (λ i. HasCounted (s.values to) i n t s y) p.part.part
      (subst (λ i. HasCounted (s.values to) (s.values h.value) i t s y) p.size_is k))
      (counts c to h.value bytes t (below.0, (below.1.1.0, (below.1.0, tt)))))
      (λ s. glued c ins t 3 own_place (λ y. Unit {0}) (below.1.1.1.0, (below.1.1.1.1.0, tt)) refl
      (λ y w q. (tt, (tt, (tt, tt)))))
      (λ s y p k. tt) (λ s y z p k g. placed s y z p k g)

  -- ---- the entries

  -- what it makes of the entries, and of memory
  record PutsWords (s s' : State) : Type 0 where
    entries : (w : ℕ) → IsObjectWord map w → IsMovedWord n (s.values to) (a + offset) w
        → entry s'.memory w ≡ metadata_at s.memory (entries_begin a size + 4 * (w - s.values to + offset))
    others_stay : (w : ℕ) → IsObjectWord map w → IsKeptWord n (s.values to) (a + offset) w
        → entry s'.memory w ≡ entry s.memory w
    memory : KeepsButShadow map s.memory s'.memory
    good : IsGood s'.memory
    shows : ShowsNothing s s'
    others : OthersStay [] t s s'

  module _ (s y : State) (p : Holds s) (good : IsGood s.memory) (f : HasPlaces s y) where
    abbrev k : ℕ
    k = y.values t

    abbrev q : ℕ
    q = y.values (t + 1)

    abbrev e : ℕ
    e = y.values (t + 2)

    few : 8 * k ≤ n
    few = ⊎_elim
        (λ x. let count = x.count_is in let some = x.some in omega arith)
        (λ x. let none = x.none in omega arith)
        f.words

    found : 0 < k → AreFound (s.values to) k q e
    found l = ⊎_elim (λ x. x) (λ x. absurd (let none = x.none in omega arith)) f.words

    lies : 0 < k → IsSpaceRange map e (32 * k)
    lies l =
        let x = found l in
        let some = x.some in let count = x.count_is in let is = x.entry_is in
        let equal = x.equal in let room = p.room in let al = p.place.aligned in
        let o : ℕ = (size + 7) / 8 * 8 + 4 * (8 * first_word (s.values to) + offset - s.values to) in
        let z : a + o ≡ e = omega arith in
        subst (λ i. IsSpaceRange map i (32 * k)) z
        (part_of_area map mapped size a o (32 * k) p.place (omega arith))

    words : (j : ℕ) → j < k → IsObjectWord map (q + 8 * j)
    words j l =
        let x = found (omega arith) in
        let some = x.some in let count = x.count_is in let is = x.first_is in
        let first = p.range.first in let last = p.range.last in
        record { first = omega arith; last = omega arith; aligned = omega arith }

    abbrev Goes : ℕ → State → Type 0
    Goes = Going t q e k (ArePut map entry IsGood q e y.memory) y

    begins : Goes k y
    begins =
        let z : k - k ≡ 0 = omega arith in
        record {
          within = omega arith;
          left = refl;
          word = λ some. omega arith;
          entry = λ some. omega arith;
          so_far = subst (λ j. ArePut map entry IsGood q e y.memory j y.memory) (sym z) (record {
            entries = λ i l. absurd (omega arith);
            others = λ w is out. refl;
            memory = λ b out. refl;
            good = subst IsGood (sym f.memory) good;
          });
          shows = record { input = refl; output = refl; taken = refl; accesses = refl; turns = refl };
          others = λ x l none. refl;
        }

    loops : Does c (word_loop t (load_entry (t + 2) (entry_behind t) ++ write)) (Goes k) (λ x. k * 33 + 1)
        (λ x. Either (Goes 0) Never)
    loops =
        words_all c t 28 q e k (ArePut map entry IsGood q e y.memory) (load_entry (t + 2) (entry_behind t) ++ write)
        y (put_does_word map entry IsGood t charge weight q e k lies words y y.memory write writes)
        (let few = few in let lo = (low s p).to_low in omega arith)
        (λ some. (let x = found some in let lo = (low s p).to_low in let is = x.first_is in let c = x.count_is in
        let some = x.some in omega arith))
        (λ some. (let x = lies some in let small = x.small in omega arith))

    ends : (z : State) → Goes 0 z → PutsWords s z
    ends z g =
        let j : k - 0 ≡ k = omega arith in
        let done = subst (λ i. ArePut map entry IsGood q e y.memory i z.memory) j g.so_far in
        record {
          entries = λ w word i. in_range w word i done f.words;
          others_stay = λ w word kept. done.others w word (λ i l eq. apart w i l eq word.aligned kept)
              ∙ ap (λ m. entry m w) f.memory;
          memory = λ b out. done.memory b out ∙ ap (λ m. m b) f.memory;
          good = done.good;
          shows = shows_both s y z f.shows g.shows;
          others = others_trans [] t s y z f.others g.others;
        }
      where
        in_range : (w : ℕ) → IsObjectWord map w → IsMovedWord n (s.values to) (a + offset) w
            → ArePut map entry IsGood q e y.memory k z.memory
            → AreFound (s.values to) k q e ⊎ AreNone (s.values to) (a + offset) n k
            → entry z.memory w ≡ metadata_at s.memory (entries_begin a size + 4 * (w - s.values to + offset))
        in_range w word i done (inl x) =
            let some = x.some in let count = x.count_is in let first = x.first_is in let is = x.entry_is in
            let whole = word.aligned in let from = i.1 in let upto = i.2 in
            let j = w / 8 - first_word (s.values to) in
            let there : w ≡ q + 8 * j = omega arith in
            let here : e + 32 * j ≡ entries_begin a size + 4 * (w - s.values to + offset) = omega arith in
            ap (entry z.memory) there ∙ done.entries j (omega arith) ∙ ap (metadata_at y.memory) here
            ∙ ap (λ m. metadata_at m (entries_begin a size + 4 * (w - s.values to + offset))) f.memory
        in_range w word i done (inr x) = absurd (not_in w word.aligned i x.why)
          where
            not_in : (w : ℕ) → w % 8 ≡ 0 → IsMovedWord n (s.values to) (a + offset) w
                → (s.values to % 8 ≢ (a + offset) % 8) ⊎ (end_word (s.values to) n ≤ first_word (s.values to)) → ⊥
            not_in w whole i (inl ne) = ne i.0
            not_in w whole i (inr few) = let lo = i.1 in let hi = i.2 in omega arith

        apart : (w j : ℕ) → j < k → w ≡ q + 8 * j → w % 8 ≡ 0 → IsKeptWord n (s.values to) (a + offset) w → ⊥
        apart w j l eq whole (inl ne) = ne (found (omega arith)).equal
        apart w j l eq whole (inr (inl before)) =
            let x = found (omega arith) in let y = x.first_is in omega arith
        apart w j l eq whole (inr (inr behind)) =
            let x = found (omega arith) in
            let c = x.count_is in let y = x.first_is in let some = x.some in omega arith

  abbrev IsReady : State → Type 0
  IsReady s = Holds s × IsGood s.memory

  entries_put : Does c (put_entries write to h bytes t) IsReady (λ s. 16 + (n / 8 * 33 + 1)) (λ s. Either (PutsWords s) Never)
  entries_put =
      both_quiet c counting (word_loop t (load_entry (t + 2) (entry_behind t) ++ write)) 16 (n / 8 * 33 + 1) IsReady
      (λ s y. HasPlaces s y) (λ s y. IsReady s × HasPlaces s y) (λ s y. PutsWords s) PutsWords
      (quiet_weaken c counting 16 16 Holds IsReady HasPlaces HasPlaces (omega arith) (λ s p. p.0) (λ s y p q. q) finds)
      (λ s. record {
        from = λ code pc y has w p.
            (let few = few s y p.0.0 p.0.1 p.1 in
            (quiet_weaken c (word_loop t (load_entry (t + 2) (entry_behind t) ++ write))
            (y.values t * 33 + 1) (n / 8 * 33 + 1) (Goes s y p.0.0 p.0.1 p.1 (y.values t))
            (Goes s y p.0.0 p.0.1 p.1 (y.values t)) (λ x. Goes s y p.0.0 p.0.1 p.1 0) (λ x. PutsWords s) (omega arith)
            (λ x q. q) (λ x z q g. ends s y p.0.0 p.0.1 p.1 z g) (loops s y p.0.0 p.0.1 p.1)).from code pc y has w
            (begins s y p.0.0 p.0.1 p.1));
      })
      (λ s y p g. (p, g)) (λ s y z p g q. q)

  -- ---- the whole

  module _ (move : List FlatInstruction) (moves : IsUsableMoveRoutine map to h.value bytes t move) where
    abbrev IsWhole : State → Type 0
    IsWhole s = Holds s × AreSpacesGood map IsGood s.memory

    abbrev MovedBytes : State → State → Type 0
    MovedBytes = HasMovedBytes to h.value n t

    shadow_same : (s y : State) → IsWhole s → MovedBytes s y → KeepsShadow map s.memory y.memory
    shadow_same s y p m = shadow_stays map (s.values to) n s.memory y.memory (laid_out map mapped) p.0.range.last
        m.beside

    still : (s y : State) → IsWhole s → MovedBytes s y → IsReady y
    still s y p m =
        let keep = m.others in (
          record {
            size_is = keep bytes below.1.0 tt ∙ p.0.size_is;
            range = subst (λ i. IsObjectRange map i n) (sym (keep to below.0 tt)) p.0.range;
            part = record {
              part = keep h.value below.1.1.0 tt ∙ p.0.part.part;
              base = keep h.tag.base below.1.1.1.0 tt ∙ p.0.part.base;
              bound = keep h.tag.bound below.1.1.1.1.0 tt ∙ p.0.part.bound;
              no_lock = keep h.tag.lock below.1.1.1.1.1.1.0 tt ∙ p.0.part.no_lock;
            };
            room = p.0.room;
            place = p.0.place;
          },
          (local s.memory y.memory (shadow_same s y p m) p.1.shadow).0,
        )

    changed : (s y z : State) → IsWhole s → MovedBytes s y → PutsWords y z
        → ChangesRange map (s.values to) n s.memory z.memory
    changed s y z p m w =
        let last = p.0.range.last in let small = (laid_out map mapped).small in
        record {
          low = λ b l out. w.memory b (inl l) ∙ m.beside b out;
          high = λ b l. w.memory b (inr l) ∙ m.beside b (inr (omega arith));
        }

    finished : (s y z : State) → IsWhole s → MovedBytes s y → PutsWords y z
        → HasPutRange map entry IsGood to n size offset a t s z
    finished s y z p m w =
        let last = p.0.range.last in let first = p.0.range.first in let small = (laid_out map mapped).small in
        let from = p.0.place.first in let above = (structure_space map mapped).behind in
        let change = changed s y z p m w in
        let same = (local s.memory y.memory (shadow_same s y p m) p.1.shadow).1 in
        let to_is : y.values to ≡ s.values to = m.others to below.0 tt in
        let part = p.0.part.part in
        let d = s.values to in
        let words = subst (λ i. (w : ℕ) → IsObjectWord map w → IsMovedWord n i (a + offset) w
        → entry z.memory w ≡ metadata_at y.memory (entries_begin a size + 4 * (w - i + offset))) to_is w.entries in
        let kept = subst (λ i. (w : ℕ) → IsObjectWord map w → IsKeptWord n i (a + offset) w
        → entry z.memory w ≡ entry y.memory w) to_is w.others_stay in
        record {
          put = λ functions types. record {
            there = λ i l. w.memory (d + i) (inl (omega arith)) ∙ m.there i l
                ∙ ap (λ x. s.memory (x + i)) p.0.part.part;
            beside = change.low;
            entries = λ v word i. words v word i
                ∙ metadata_kept s.memory y.memory (entries_begin a size + 4 * (v - d + offset))
                (λ j l. m.beside (entries_begin a size + 4 * (v - d + offset) + j) (inr (omega arith)));
            others = λ v word k. kept v word k ∙ same v word;
            tables = tables_stay map functions types entry IsGood d n s.memory z.memory mapped p.1 change;
          };
          good = spaces_stay map IsGood d n s.memory z.memory mapped p.1 change w.good;
          behind = behind_stays map d n s.memory z.memory change;
          shows = shows_both s y z m.shows w.shows;
          others = others_trans [] t s y z m.others w.others;
        }

    puts : Does c (move ++ put_entries write to h bytes t) IsWhole (λ s. 40 + 16 * n)
        (λ s. Either (HasPutRange map entry IsGood to n size offset a t s) Never)
    puts =
        quiet_weaken c (move ++ put_entries write to h bytes t) ((16 + 7 * n) + (16 + (n / 8 * 33 + 1))) (40 + 16 * n) IsWhole
        IsWhole (HasPutRange map entry IsGood to n size offset a t) (HasPutRange map entry IsGood to n size offset a t)
        (omega arith) (λ s p. p) (λ s s' p h. h)
        (both_quiet c move (put_entries write to h bytes t) (16 + 7 * n) (16 + (n / 8 * 33 + 1)) IsWhole MovedBytes
        (λ s y. IsReady y) (λ s y. PutsWords y) (HasPutRange map entry IsGood to n size offset a t)
        (quiet_weaken c move (16 + 7 * n) (16 + 7 * n) (IsToMoveUsable map to h.value bytes n) IsWhole MovedBytes
        MovedBytes (omega arith)
        (λ s p. (let part = p.0.part.part in let room = p.0.room in let lo = (low s p.0).from_low in
        record {
          size_is = p.0.size_is;
          to_range = object_usable map (laid_out map mapped) (s.values to) n p.0.range;
          from_range = space_usable map (s.values h.value) n
              (subst (λ i. IsSpaceRange map i n) (sym part) (part_of_area map mapped size a offset n p.0.place (omega arith)))
              (omega arith);
        }))
        (λ s y p m. m) (moves n charge weight))
        (λ s. entries_put) (λ s y p m. still s y p m) (λ s y z p m w. finished s y z p m w))

pub puts_ranges : (map : MapSizes) → AreMapped map → (entry : View) (IsGood : Bytes → Type 0)
    → IsLocal map entry IsGood → (to : ℕ) (h : Held) (bytes t : ℕ) → AreBelow t (to ∷ bytes ∷ held_registers h)
    → (write : List FlatInstruction) → IsWriteRoutine map entry IsGood (t + 1) (entry_behind t) (t + 7) write
    → (move : List FlatInstruction) → IsUsableMoveRoutine map to h.value bytes t move
    → IsPutRangeRoutine map entry IsGood to h bytes t (move ++ put_entries write to h bytes t)
puts_ranges map mapped entry IsGood local to h bytes t below write writes move moves n size offset a charge weight =
    puts map mapped entry IsGood local to h bytes t charge weight below n size offset a write writes move moves
