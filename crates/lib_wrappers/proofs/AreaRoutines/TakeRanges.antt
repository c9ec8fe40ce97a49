-- The contents of a structure are taken to an area.
use Rattle.std.proofs.Common.{◌≡◌, ◌≢◌, ℕ, ◌+◌, ◌-◌, ◌*◌, ◌/◌, ◌%◌, ◌^◌, ◌<◌, ◌≤◌, ◌⊎◌, inl, inr, ⊎_elim, List, []}
use Rattle.std.proofs.Common.{◌∷◌, ◌++◌, refl, sym, ap, ◌∙◌, subst, arith}
use Rattle.std.specs.Prelude.{nat_lt}
use Rattle.std.proofs.lemmas.Bool.{cases_eq, cases_lt, lt-ltb, le-ltb}
use Rattle.addr_map.specs.Places.{MapSizes, AreMapped, spaces_begin}
use Rattle.rv_isa.specs.Results.{reg_result, bit_of}
use Rattle.words.specs.Operations.{product}
use Rattle.flat_code.specs.declared.instruction.FlatInstruction.{FlatInstruction}
use Rattle.flat_code.specs.Memory.{Bytes, put, load, KeepsBut}
use Rattle.flat_code.specs.State.{State}
use Rattle.flat_code.specs.Meaning.{Context}
use Rattle.flat_code.proofs.Stored.{load_kept}
use Rattle.flat_code.specs.Routines.Registers.{AreBelow, OthersStay}
use Rattle.flat_code.specs.Routines.Routine.{Does, Either, Never}
use Rattle.flat_code.specs.Routines.Metadata.{View, metadata_at, no_metadata, IsObjectWord, ShowsNothing}
use Rattle.flat_code.proofs.Routines.Regions.{laid_out}
use Rattle.flat_code.proofs.Routines.Showing.{shows_both}
use Rattle.flat_code.proofs.Routines.Words.{IsLocal, same_metadata, zero_loaded}
use Rattle.shadow_space.specs.Form.{IsReadRoutine}
use Rattle.flat_actions.specs.Ranges.{IsObjectRange, HasMovedBytes}
use Rattle.flat_actions.proofs.Standing.{others_trans}
use Rattle.lib_wrappers.specs.MovingRoutines.Moving.{IsToMoveUsable, IsUsableMoveRoutine}
use Rattle.lib_wrappers.proofs.MovingRoutines.Steps.{both_quiet, quiet_weaken, IsGlued, glued}
use Rattle.lib_wrappers.proofs.MovingRoutines.Bytes.{in_runtime, object_usable}
use Rattle.lib_wrappers.specs.AreaRoutines.Areas.{IsAreaPlace, area_bytes, entries_begin}
use Rattle.lib_wrappers.specs.AreaRoutines.Loops.{word_loop, entry_behind, store_entry}
use Rattle.lib_wrappers.specs.AreaRoutines.Zeroing.{IsToZeroArea, HasZeroedArea, IsZeroAreaRoutine, zero_area_code}
use Rattle.lib_wrappers.specs.AreaRoutines.Taking.{IsToTake, HasTaken, IsTakeRangeRoutine, count_entries, take_entries}
use Rattle.lib_wrappers.proofs.AreaRoutines.WordLoops.{Going, words_all}
use Rattle.lib_wrappers.proofs.AreaRoutines.Bodies.{IsSpaceRange, AreTaken, take_does_word}
use Rattle.lib_wrappers.proofs.AreaRoutines.Spaces.{structure_space, part_of_area, space_usable}
use Rattle.lib_wrappers.proofs.AreaRoutines.ZeroAreas.{zeros_areas}

-- zero bytes are an entry of a word without a pointer
pub zeros_are_none : (m : Bytes) (p : ℕ) → ((i : ℕ) → i < 32 → m (p + i) ≡ 0) → metadata_at m p ≡ no_metadata
zeros_are_none m p zeros =
    let part : (o : ℕ) → o + 8 ≤ 32 → load 8 m (p + o) ≡ 0 =
    λ o l. load_kept 8 (λ b. 0) m (p + o) (λ i il. (let e : p + (o + i) ≡ p + o + i = omega arith in
    subst (λ b. m b ≡ 0) e (zeros (o + i) (omega arith)))) ∙ zero_loaded (p + o) in
    let first : load 8 m p ≡ 0 = load_kept 8 (λ b. 0) m p (λ i il. zeros i (omega arith)) ∙ zero_loaded p in
    same_metadata (metadata_at m p) no_metadata first (part 8 (omega arith)) (part 16 (omega arith))
    (part 24 (omega arith))

-- how many are counted: all, or none
pub all_counted : (k w : ℕ) → k < 2 ^ 64 → w ≡ 0 → product 64 k (bit_of (nat_lt w 1)) ≡ k
all_counted k w l z =
    ap (λ b. product 64 k (bit_of b)) (lt-ltb w 1 (omega arith)) ∙ omega arith

pub none_counted : (k w : ℕ) → w ≢ 0 → product 64 k (bit_of (nat_lt w 1)) ≡ 0
none_counted k w ne =
    ap (λ b. product 64 k (bit_of b)) (le-ltb w 1 (omega (arith, ne))) ∙ omega arith

module _ (map : MapSizes) (mapped : AreMapped map) (entry : View) (IsGood : Bytes → Type 0)
    (local : IsLocal map entry IsGood) (to from bytes t charge weight : ℕ)
    (below : AreBelow t (to ∷ from ∷ bytes ∷ [])) (n : ℕ) (read : List FlatInstruction)
    (reads : IsReadRoutine map entry IsGood (t + 1) (entry_behind t) (t + 7) read) where
  abbrev c : Context
  c = in_runtime map charge weight

  abbrev IsReady : State → Type 0
  IsReady s = IsToTake map to from bytes n s × IsGood s.memory

  -- ---- the entries

  -- over their own registers: 0 to 2 the range, 3 to 6 those of the loop
  abbrev own_count : List FlatInstruction
  own_count = count_entries 0 1 2 3 4 5 6

  abbrev IsPlaced : State → State → Type 0
  IsPlaced = IsGlued c (to ∷ from ∷ bytes ∷ []) t 4 own_count

  record HasCounted (s y : State) : Type 0 where
    count : ((s.values from % 8 ≡ 0) × (y.values t ≡ n / 8)) ⊎ ((s.values from % 8 ≢ 0) × (y.values t ≡ 0))
    word : y.values (t + 1) ≡ s.values from
    entries : y.values (t + 2) ≡ entries_begin (s.values to) n
    memory : y.memory ≡ s.memory
    shows : ShowsNothing s y
    others : OthersStay [] t s y

  counted : (s y : State) → IsReady s → IsPlaced s y → HasCounted s y
  unfolding put reg_result
  counted s y p g =
      let last = p.0.place.last in let small = (structure_space map mapped).small in let size = p.0.size_is in
      let here = p.0.range.last in let low = (laid_out map mapped).small in
      let w = s.values from * 2 ^ 61 % 2 ^ 64 in
      let is : y.values t ≡ product 64 (s.values bytes / 8) (bit_of (nat_lt w 1)) = sym (g.values 3 (omega arith)) in
      record {
        count = ⊎_elim
            (λ (e : s.values from % 8 ≡ 0). inl (
              e,
              is ∙ all_counted (s.values bytes / 8) w (omega arith) (omega arith)
                  ∙ omega arith,
            ))
            (λ (ne : s.values from % 8 ≢ 0). inr (
              ne,
              is ∙ none_counted (s.values bytes / 8) w
                  (λ q. ne (omega arith)),
            ))
            (cases_eq (s.values from % 8) 0);
        word = sym (g.values 4 (omega arith));
        entries = sym (g.values 5 (omega arith)) ∙ omega arith;
        memory = ap (λ x. x.memory) g.rest;
        shows = record {
          input = ap (λ x. x.input) g.rest;
          output = ap (λ x. x.output) g.rest;
          taken = ap (λ x. x.taken) g.rest;
          accesses = ap (λ x. x.accesses) g.rest;
          turns = ap (λ x. x.turns) g.rest;
        };
        others = g.others;
      }

  record HasEntries (s s' : State) : Type 0 where
    aligned : s.values from % 8 ≡ 0 → (w : ℕ) → w < n / 8
        → metadata_at s'.memory (entries_begin (s.values to) n + 32 * w) ≡ entry s.memory (s.values from + 8 * w)
    same : s.values from % 8 ≢ 0 → (b : ℕ) → s'.memory b ≡ s.memory b
    beside : KeepsBut (entries_begin (s.values to) n) (32 * (n / 8)) s.memory s'.memory
    shows : ShowsNothing s s'
    others : OthersStay [] t s s'

  module _ (s y : State) (p : IsReady s) (h : HasCounted s y) where
    abbrev k : ℕ
    k = y.values t

    abbrev a : ℕ
    a = y.values (t + 1)

    abbrev e : ℕ
    e = y.values (t + 2)

    few : k ≤ n / 8
    few = ⊎_elim (λ q. let z = q.1 in omega arith) (λ q. let z = q.1 in omega arith) h.count

    -- where there is a word, the range begins at a multiple of 8
    whole : 0 < k → s.values from % 8 ≡ 0
    whole l = ⊎_elim (λ q. q.0) (λ q. absurd (let z = q.1 in omega arith)) h.count

    lies : IsSpaceRange map e (32 * k)
    lies =
        let f = few in let is = h.entries in
        let q : s.values to + (n + 7) / 8 * 8 ≡ e = omega arith in
        subst (λ x. IsSpaceRange map x (32 * k)) q
        (part_of_area map mapped n (s.values to) ((n + 7) / 8 * 8) (32 * k) p.0.place (omega arith))

    words : (j : ℕ) → j < k → IsObjectWord map (a + 8 * j)
    words j l =
        let f = few in let is = h.word in let q = whole (omega arith) in
        let first = p.0.range.first in let last = p.0.range.last in
        record { first = omega arith; last = omega arith; aligned = omega arith }

    abbrev Goes : ℕ → State → Type 0
    Goes = Going t a e k (AreTaken entry a e k y.memory) y

    begins : Goes k y
    begins =
        let z : k - k ≡ 0 = omega arith in
        record {
          within = omega arith;
          left = refl;
          word = λ some. omega arith;
          entry = λ some. omega arith;
          so_far = subst (λ j. AreTaken entry a e k y.memory j y.memory) (sym z) (record {
            entries = λ i l. absurd (omega arith);
            beside = λ b out. refl;
          });
          shows = record { input = refl; output = refl; taken = refl; accesses = refl; turns = refl };
          others = λ x l none. refl;
        }

    loops : Does c (word_loop t (read ++ store_entry (t + 2) (entry_behind t))) (Goes k) (λ x. k * 27 + 1)
        (λ x. Either (Goes 0) Never)
    loops =
        let small = (structure_space map mapped).small in let last = p.0.place.last in let is = h.entries in
        let f = few in let here = p.0.range.last in let low = (laid_out map mapped).small in let at = h.word in
        words_all c t 22 a e k (AreTaken entry a e k y.memory) (read ++ store_entry (t + 2) (entry_behind t)) y
        (take_does_word map entry IsGood t charge weight a e k (λ some. lies) words y lies local y.memory
        (subst IsGood (sym h.memory) p.1) read reads)
        (omega arith) (λ some. omega arith) (λ some. omega arith)

    ends : (z : State) → Goes 0 z → HasEntries s z
    ends z g =
        let q : k - 0 ≡ k = omega arith in
        let done = subst (λ j. AreTaken entry a e k y.memory j z.memory) q g.so_far in
        let is = h.entries in let at = h.word in let f = few in
        record {
          aligned = λ al w l. (let all : k ≡ n / 8 = ⊎_elim (λ q. q.1) (λ q. absurd (q.0 al)) h.count in
              let q1 : e + 32 * w ≡ entries_begin (s.values to) n + 32 * w = omega arith in
              let q2 : a + 8 * w ≡ s.values from + 8 * w = omega arith in
              ap (metadata_at z.memory) (sym q1) ∙ done.entries w (omega arith) ∙ ap (entry y.memory) q2
              ∙ ap (λ m. entry m (s.values from + 8 * w)) h.memory);
          same = λ ne b. (let none : k ≡ 0 = ⊎_elim (λ q. absurd (ne q.0)) (λ q. q.1) h.count in
              done.beside b (⊎_elim (λ lo. inl lo) (λ hi. inr (omega arith)) (below_or b)) ∙ ap (λ m. m b) h.memory);
          beside = λ b out. done.beside b (⊎_elim (λ lo. inl (omega arith)) (λ hi. inr (omega arith)) out)
              ∙ ap (λ m. m b) h.memory;
          shows = shows_both s y z h.shows g.shows;
          others = others_trans [] t s y z h.others g.others;
        }
      where
        below_or : (b : ℕ) → (b < e) ⊎ (e ≤ b)
        below_or b = cases_lt b e

  entries_taken : Does c (take_entries read to from bytes t) IsReady (λ s. 9 + (n / 8 * 27 + 1))
      (λ s. Either (HasEntries s) Never)
  entries_taken =
      both_quiet c (count_entries to from bytes t (t + 1) (t + 2) (t + 3))
      (word_loop t (read ++ store_entry (t + 2) (entry_behind t))) 9 (n / 8 * 27 + 1) IsReady IsPlaced
      (λ s y. IsReady s × HasCounted s y) (λ s y. HasEntries s) HasEntries
      (glued c (to ∷ from ∷ bytes ∷ []) t 4 own_count IsReady below refl
      (λ s w p. (tt, (tt, (tt, (tt, (tt, (tt, (tt, (tt, (tt, tt)))))))))))
      (λ s. record {
        from = λ code pc y has w p.
            (let f = few s y p.0 p.1 in
            (quiet_weaken c (word_loop t (read ++ store_entry (t + 2) (entry_behind t)))
            (y.values t * 27 + 1) (n / 8 * 27 + 1) (Goes s y p.0 p.1 (y.values t)) (Goes s y p.0 p.1 (y.values t))
            (λ x. Goes s y p.0 p.1 0) (λ x. HasEntries s) (omega arith)
            (λ x q. q) (λ x z q g. ends s y p.0 p.1 z g) (loops s y p.0 p.1)).from code pc y has w
            (begins s y p.0 p.1));
      })
      (λ s y p g. (p, counted s y p g)) (λ s y z p g h. h)

  -- ---- the whole

  module _ (move : List FlatInstruction) (moves : IsUsableMoveRoutine map to from bytes t move)
      (zeros : IsZeroAreaRoutine map to bytes t (zero_area_code to bytes t)) where
    -- a memory that differs in the area alone
    good_still : (s : State) → IsReady s → (m : Bytes) → KeepsBut (s.values to) (area_bytes n) s.memory m
        → IsGood m × ((a : ℕ) → IsObjectWord map a → entry m a ≡ entry s.memory a)
    good_still s p m k =
        let first = p.0.place.first in let behind = (structure_space map mapped).behind in
        local s.memory m (λ i l. k (spaces_begin + i) (inl (omega arith))) p.1

    still : (s y : State) → IsReady s → KeepsBut (s.values to) (area_bytes n) s.memory y.memory
        → OthersStay [] t s y → IsReady y
    still s y p k o = (
      record {
        size_is = o bytes below.1.1.0 tt ∙ p.0.size_is;
        place = subst (IsAreaPlace map n) (sym (o to below.0 tt)) p.0.place;
        range = subst (λ a. IsObjectRange map a n) (sym (o from below.1.0 tt)) p.0.range;
      },
      (good_still s p y.memory k).0,
    )

    -- behind the bytes
    record HasBytes (s y : State) : Type 0 where
      there : (i : ℕ) → i < n → y.memory (s.values to + i) ≡ s.memory (s.values from + i)
      behind : (i : ℕ) → n ≤ i → i < area_bytes n → y.memory (s.values to + i) ≡ 0
      beside : KeepsBut (s.values to) (area_bytes n) s.memory y.memory
      shows : ShowsNothing s y
      others : OthersStay [] t s y

    bytes_moved : Does c (zero_area_code to bytes t ++ move) IsReady (λ s. (16 + 5 * n) + (16 + 7 * n))
        (λ s. Either (HasBytes s) Never)
    bytes_moved =
        both_quiet c (zero_area_code to bytes t) move (16 + 5 * n) (16 + 7 * n) IsReady (HasZeroedArea to n t)
        (λ s y. IsToMoveUsable map to from bytes n y) (λ s y. HasMovedBytes to from n t y) HasBytes
        (quiet_weaken c (zero_area_code to bytes t) (16 + 5 * n) (16 + 5 * n) (IsToZeroArea map to bytes n) IsReady
        (HasZeroedArea to n t) (HasZeroedArea to n t) (omega arith)
        (λ s p. record { size_is = p.0.size_is; place = p.0.place }) (λ s s' p h. h) (zeros n charge weight))
        (λ s. moves n charge weight)
        (λ s y p h. (let q = (still s y p h.beside h.others).0 in
        let small = (structure_space map mapped).small in let last = q.place.last in
        let z : y.values to + 0 ≡ y.values to = omega arith in
        record {
          size_is = q.size_is;
          to_range = space_usable map (y.values to) n
              (subst (λ a. IsSpaceRange map a n) z (part_of_area map mapped n (y.values to) 0 n q.place (omega arith)))
              (omega arith);
          from_range = object_usable map (laid_out map mapped) (y.values from) n q.range;
        }))
        (λ s y z p h m.
        let to_is = h.others to below.0 tt in let from_is = h.others from below.1.0 tt in
        let first = p.0.place.first in let behind = (structure_space map mapped).behind in
        let here = p.0.range.last in let low = (laid_out map mapped).small in
        record {
          there = λ i l. ap (λ a. z.memory (a + i)) (sym to_is) ∙ m.there i l ∙ ap (λ a. y.memory (a + i)) from_is
              ∙ h.beside (s.values from + i) (inl (omega arith));
          behind = λ i l il. m.beside (s.values to + i) (inr (omega arith)) ∙ h.zeros i il;
          beside = λ b out. m.beside b (⊎_elim (λ lo. inl (omega arith)) (λ hi. inr (omega arith)) out)
              ∙ h.beside b out;
          shows = shows_both s y z h.shows m.shows;
          others = others_trans [] t s y z h.others m.others;
        })

    finished : (s y z : State) → IsReady s → HasBytes s y → HasEntries y z → HasTaken entry to from n t s z
    finished s y z p h g =
        let to_is = h.others to below.0 tt in let from_is = h.others from below.1.0 tt in
        let here = p.0.range.last in let start = p.0.range.first in let low = (laid_out map mapped).small in
        record {
          bytes = λ i l. g.beside (s.values to + i) (inl (omega arith)) ∙ h.there i l;
          entries = λ al w l.
              (let q : entries_begin (y.values to) n + 32 * w ≡ entries_begin (s.values to) n + 32 * w =
              omega arith in
              let word : IsObjectWord map (s.values from + 8 * w) =
              record { first = omega arith; last = omega arith; aligned = omega arith } in
              ap (metadata_at z.memory) (sym q) ∙ g.aligned (ap (λ x. x % 8) from_is ∙ al) w l
              ∙ ap (λ x. entry y.memory (x + 8 * w)) from_is
              ∙ (good_still s p y.memory h.beside).1 (s.values from + 8 * w) word);
          none = λ ne w l.
              (let off : ℕ = (n + 7) / 8 * 8 + 32 * w in
              zeros_are_none z.memory (entries_begin (s.values to) n + 32 * w)
              (λ i il. (let q : s.values to + (off + i) ≡ entries_begin (s.values to) n + 32 * w + i = omega arith in
              ap z.memory (sym q) ∙ g.same (λ e. ne (sym (ap (λ x. x % 8) from_is) ∙ e)) (s.values to + (off + i))
              ∙ h.behind (off + i) (omega arith) (omega arith))));
          beside = λ b out. g.beside b (⊎_elim (λ lo. inl (omega arith)) (λ hi. inr (omega arith)) out)
              ∙ h.beside b out;
          shows = shows_both s y z h.shows g.shows;
          others = others_trans [] t s y z h.others g.others;
        }

    takes : Does c ((zero_area_code to bytes t ++ move) ++ take_entries read to from bytes t) IsReady
        (λ s. 48 + 16 * n) (λ s. Either (HasTaken entry to from n t s) Never)
    takes =
        quiet_weaken c ((zero_area_code to bytes t ++ move) ++ take_entries read to from bytes t)
        (((16 + 5 * n) + (16 + 7 * n)) + (9 + (n / 8 * 27 + 1))) (48 + 16 * n) IsReady IsReady (HasTaken entry to from n t)
        (HasTaken entry to from n t) (omega arith) (λ s p. p) (λ s s' p h. h)
        (both_quiet c (zero_area_code to bytes t ++ move) (take_entries read to from bytes t)
        ((16 + 5 * n) + (16 + 7 * n)) (9 + (n / 8 * 27 + 1)) IsReady HasBytes (λ s y. IsReady y) (λ s y. HasEntries y)
        (HasTaken entry to from n t) bytes_moved (λ s. entries_taken)
        (λ s y p h. still s y p h.beside h.others) (λ s y z p h g. finished s y z p h g))

pub takes_ranges : (map : MapSizes) → AreMapped map → (entry : View) (IsGood : Bytes → Type 0)
    → IsLocal map entry IsGood → (to from bytes t : ℕ) → AreBelow t (to ∷ from ∷ bytes ∷ [])
    → (read : List FlatInstruction) → IsReadRoutine map entry IsGood (t + 1) (entry_behind t) (t + 7) read
    → (move : List FlatInstruction) → IsUsableMoveRoutine map to from bytes t move
    → IsTakeRangeRoutine map entry IsGood to from bytes t
    ((zero_area_code to bytes t ++ move) ++ take_entries read to from bytes t)
takes_ranges map mapped entry IsGood local to from bytes t below read reads move moves n charge weight =
    takes map mapped entry IsGood local to from bytes t charge weight below n read reads move moves
    (zeros_areas map mapped to bytes t (below.0, (below.1.1.0, tt)))
