-- A part of contents is moved from area to area.
use Rattle.std.proofs.Common.{◌≡◌, ◌≢◌, ℕ, suc, ◌+◌, ◌-◌, ◌*◌, ◌/◌, ◌%◌, ◌^◌, ◌<◌, ◌≤◌, ◌⊎◌, inl, inr, ⊎_elim, List}
use Rattle.std.proofs.Common.{[], ◌∷◌, ◌++◌, refl, sym, ap, ◌∙◌, subst, arith}
use Rattle.std.specs.Prelude.{nat_lt}
use Rattle.std.proofs.lemmas.Bool.{cases_eq, cases_lt, lt-ltb, le-ltb}
use Rattle.addr_map.specs.Places.{MapSizes, AreMapped}
use Rattle.rv_isa.specs.Results.{reg_result, bit_of}
use Rattle.words.specs.Operations.{product}
use Rattle.flat_code.specs.declared.instruction.FlatInstruction.{FlatInstruction}
use Rattle.flat_code.specs.Memory.{Bytes, put, KeepsBut}
use Rattle.flat_code.specs.State.{State}
use Rattle.flat_code.specs.Meaning.{Context}
use Rattle.flat_code.proofs.Stored.{kept_beside, keeps_both, keeps_within}
use Rattle.flat_code.specs.declared.registers.Held.{Held}
use Rattle.flat_code.specs.Routines.Registers.{AreBelow, OthersStay}
use Rattle.flat_code.specs.Routines.Routine.{Does, Either, Never}
use Rattle.flat_code.specs.Routines.Metadata.{Metadata, metadata_at, metadata_in, ShowsNothing, held_registers}
use Rattle.flat_code.proofs.Routines.Showing.{shows_both}
use Rattle.flat_code.proofs.Routines.Words.{IsOfFourWords, store_four, four_read, four_beside, metadata_kept}
use Rattle.flat_actions.specs.Ranges.{HasMovedBytes}
use Rattle.flat_actions.proofs.Standing.{entry_stays}
use Rattle.obj_memory.specs.Sound.{DoNotMeet}
use Rattle.lib_wrappers.specs.MovingRoutines.Moving.{IsToMoveUsable, IsUsableMoveRoutine}
use Rattle.lib_wrappers.proofs.MovingRoutines.Steps.{both_quiet, quiet_weaken, IsGlued, glued}
use Rattle.lib_wrappers.proofs.MovingRoutines.Bytes.{in_runtime}
use Rattle.lib_wrappers.specs.AreaRoutines.Areas.{IsAreaPlace, area_bytes, entries_begin}
use Rattle.lib_wrappers.specs.AreaRoutines.Loops.{word_loop, zero_body, entry_behind, load_entry, store_entry, IsAtWord}
use Rattle.lib_wrappers.specs.AreaRoutines.Loops.{HasDoneWord}
use Rattle.lib_wrappers.specs.AreaRoutines.Loops.{DoesWord}
use Rattle.lib_wrappers.specs.AreaRoutines.Moving.{IsToMoveArea, HasMovedArea, IsMoveAreaRoutine, count_parts}
use Rattle.lib_wrappers.specs.AreaRoutines.Moving.{entry_of_word}
use Rattle.lib_wrappers.specs.AreaRoutines.Moving.{move_body, count_rest, move_parts, clear_rest}
use Rattle.lib_wrappers.proofs.AreaRoutines.WordLoops.{Going, words_all}
use Rattle.lib_wrappers.proofs.AreaRoutines.Bodies.{IsSpaceRange, HasStored, HasLoaded, stores, loads, AreZeroed}
use Rattle.lib_wrappers.proofs.AreaRoutines.Bodies.{zero_does_word}
use Rattle.lib_wrappers.proofs.AreaRoutines.Spaces.{structure_space, part_of_area, space_usable}
use Rattle.lib_wrappers.proofs.AreaRoutines.TakeRanges.{zeros_are_none, all_counted, none_counted}

-- ---- one entry

-- the entries from e on stand from d on too, so many of them; all else is as it was
record AreCopied (d e : ℕ) (before : Bytes) (j : ℕ) (after : Bytes) : Type 0 where
  entries : (i : ℕ) → i < j → metadata_at after (d + 32 * i) ≡ metadata_at before (e + 32 * i)
  beside : KeepsBut d (32 * j) before after

module _ (map : MapSizes) (b t charge weight d e n : ℕ) (low : b < t) (to : 0 < n → IsSpaceRange map d (32 * n))
    (from : 0 < n → IsSpaceRange map e (32 * n))
    (apart : 0 < n → (d ≤ e) ⊎ ((d + 32 * n ≤ e) ⊎ (e + 32 * n ≤ d))) (m0 : Bytes) (v : State) (first : v.values b ≡ d) where
  abbrev c : Context
  c = in_runtime map charge weight

  abbrev S : ℕ → Bytes → Type 0
  S = AreCopied d e m0

  part : (a j : ℕ) → (0 < n → IsSpaceRange map a (32 * n)) → j < n → IsSpaceRange map (a + 32 * j) 32
  part a j r l =
      let all = r (omega arith) in
      let x = all.first in let y = all.last in let s = all.small in
      record { first = omega arith; last = omega arith; small = omega arith }

  more : (m : Bytes) (j : ℕ) (x : Metadata) → j < n → IsOfFourWords x → x ≡ metadata_at m0 (e + 32 * j) → S j m
      → S (suc j) (store_four m (d + 32 * j) x)
  more m j x l w is h =
      let q = d + 32 * j in
      let four = four_beside m q x in
      record {
        entries = λ i il. ⊎_elim
            (λ (same : i ≡ j). subst (λ z. metadata_at (store_four m q x) (d + 32 * z) ≡ metadata_at m0 (e + 32 * z))
            (sym same) (four_read m q x w ∙ is))
            (λ (ne : i ≢ j). metadata_kept m (store_four m q x) (d + 32 * i)
            (kept_beside q 32 (d + 32 * i) 32 m (store_four m q x) four (inl (omega (arith, ne))))
            ∙ h.entries i (omega (arith, ne)))
            (cases_eq i j);
        beside = keeps_both d (32 * suc j) m0 m _
            (keeps_within d (32 * j) d (32 * suc j) m0 m (omega arith) (omega arith) h.beside)
            (keeps_within q 32 d (32 * suc j) m _ (omega arith) (omega arith) four);
      }

  record IsPlaced (j : ℕ) (s y : State) : Type 0 where
    at : y.values (t + 7) ≡ d + 32 * j
    memory : y.memory ≡ s.memory
    shows : ShowsNothing s y
    others : OthersStay [] (t + 7) s y

  abbrev ins : List ℕ
  ins = (t + 1) ∷ b ∷ []

  abbrev own_place : List FlatInstruction
  own_place = entry_of_word 1 0 2

  places : (j : ℕ) → j < n → Does c (entry_of_word b (t + 1) (t + 7))
      (λ s. (s.values (t + 1) ≡ 0 + 8 * j) × (s.values b ≡ d)) (λ s. 2) (λ s. Either (IsPlaced j s) Never)
  unfolding put reg_result
  places j l =
      let P : State → Type 0 = λ s. (s.values (t + 1) ≡ 0 + 8 * j) × (s.values b ≡ d) in
      quiet_weaken c (entry_of_word b (t + 1) (t + 7)) 2 2 P P (IsGlued c ins (t + 7) 1 own_place) (IsPlaced j)
      (omega arith) (λ s p. p)
      (λ s y p g.
      let small = (to (omega arith)).small in let word = p.0 in let base = p.1 in
      record {
        at = sym (g.values 2 (omega arith)) ∙ omega arith;
        memory = ap (λ x. x.memory) g.rest;
        shows = record {
          input = ap (λ x. x.input) g.rest;
          output = ap (λ x. x.output) g.rest;
          taken = ap (λ x. x.taken) g.rest;
          accesses = ap (λ x. x.accesses) g.rest;
          turns = ap (λ x. x.turns) g.rest;
        };
        others = g.others;
      })
      (glued c ins (t + 7) 1 own_place P (omega arith, (omega arith, tt)) refl (λ s w p. (tt, (tt, tt))))

  copied : (j : ℕ) → j < n → (s s1 s2 s3 : State) → IsAtWord t 0 e j v S s → HasLoaded t (e + 32 * j) s s1
      → IsPlaced j s1 s2 → HasStored t (t + 8) (d + 32 * j) s2 s3 → HasDoneWord t j S s s3
  copied j l s s1 s2 s3 at r p w =
      let same : metadata_at s.memory (e + 32 * j) ≡ metadata_at m0 (e + 32 * j) =
      metadata_kept m0 s.memory (e + 32 * j) (λ i il. at.so_far.beside (e + 32 * j + i)
      (⊎_elim (λ lo. inr (omega arith)) (λ z. ⊎_elim (λ x. inr (omega arith)) (λ x. inl (omega arith)) z) (apart (omega arith)))) in
      let kept : metadata_in s2.values (entry_behind t) ≡ metadata_in s1.values (entry_behind t) =
      entry_stays [] (t + 7) s1 s2 (entry_behind t) p.others
      (omega arith, (omega arith, (omega arith, (omega arith, tt)))) (tt, (tt, (tt, (tt, tt)))) in
      let is : metadata_in s2.values (entry_behind t) ≡ metadata_at m0 (e + 32 * j) = kept ∙ r.entry ∙ same in
      let mem : s3.memory ≡ store_four s.memory (d + 32 * j) (metadata_in s2.values (entry_behind t)) =
      w.memory ∙ ap (λ m. store_four m (d + 32 * j) (metadata_in s2.values (entry_behind t))) (p.memory ∙ r.memory) in
      record {
        so_far = subst (S (suc j)) (sym mem)
            (more s.memory j (metadata_in s2.values (entry_behind t)) l w.words is at.so_far);
        shows = shows_both s s2 s3 (shows_both s s1 s2 r.shows p.shows) w.shows;
        others = λ x k none. w.others x (omega arith) tt ∙ p.others x (omega arith) tt ∙ r.others x k tt;
      }

  copies_word : DoesWord c t 10 0 e n v S (move_body b t)
  copies_word j l =
      both_quiet c (load_entry (t + 2) (entry_behind t))
      (entry_of_word b (t + 1) (t + 7) ++ store_entry (t + 7) (entry_behind t)) 4 6 (IsAtWord t 0 e j v S)
      (HasLoaded t (e + 32 * j)) (λ s s1. IsAtWord t 0 e j v S s × HasLoaded t (e + 32 * j) s s1)
      (λ s s1. HasDoneWord t j S s) (HasDoneWord t j S)
      (quiet_weaken c (load_entry (t + 2) (entry_behind t)) 4 4 (λ s. s.values (t + 2) ≡ e + 32 * j)
      (IsAtWord t 0 e j v S) (HasLoaded t (e + 32 * j)) (HasLoaded t (e + 32 * j)) (omega arith) (λ s at. at.entry)
      (λ s s1 at h. h) (loads map t charge weight (e + 32 * j) (part e j from l)))
      (λ s. both_quiet c (entry_of_word b (t + 1) (t + 7)) (store_entry (t + 7) (entry_behind t)) 2 4
      (λ s1. IsAtWord t 0 e j v S s × HasLoaded t (e + 32 * j) s s1) (IsPlaced j)
      (λ s1 s2. s2.values (t + 7) ≡ d + 32 * j) (λ s1. HasStored t (t + 8) (d + 32 * j))
      (λ s1. HasDoneWord t j S s)
      (quiet_weaken c (entry_of_word b (t + 1) (t + 7)) 2 2 (λ s1. (s1.values (t + 1) ≡ 0 + 8 * j) × (s1.values b ≡ d))
      (λ s1. IsAtWord t 0 e j v S s × HasLoaded t (e + 32 * j) s s1) (IsPlaced j) (IsPlaced j) (omega arith)
      (λ s1 q. (
        q.1.others (t + 1) (omega arith) tt ∙ q.0.word,
        q.1.others b (omega arith) tt ∙ q.0.same b low tt ∙ first,
      ))
      (λ s1 s2 q h. h) (places j l))
      (λ s1. stores map (t + 7) t (t + 8) charge weight (d + 32 * j) (omega arith) (omega arith) (part d j to l))
      (λ s1 s2 q h. h.at)
      (λ s1 s2 s3 q h w. copied j l s s1 s2 s3 q.0 q.1 h w))
      (λ s s1 at h. (at, h)) (λ s s1 s3 at h w. w)

-- ---- the entries

module _ (map : MapSizes) (mapped : AreMapped map) (to : ℕ) (h : Held) (bytes t charge weight : ℕ)
    (below : AreBelow t (to ∷ bytes ∷ held_registers h)) (n size offset a : ℕ) where
  abbrev cx : Context
  cx = in_runtime map charge weight

  abbrev IsReady : State → Type 0
  IsReady = IsToMoveArea map to h bytes n size offset a

  -- where both areas lie
  record IsLow (s : State) : Type 0 where
    to_low : s.values to + area_bytes n < 2 ^ 31
    from_low : a + area_bytes size < 2 ^ 31

  low : (s : State) → IsReady s → IsLow s
  low s p =
      let end = p.place.last in let last = p.from_place.last in let few = (structure_space map mapped).small in
      record { to_low = omega arith; from_low = omega arith }

  -- over their own registers: 0 to 4 where to, how many bytes, the part, its area and its entries
  abbrev part_registers : List ℕ
  part_registers = to ∷ bytes ∷ h.value ∷ h.tag.base ∷ h.tag.bound ∷ []

  abbrev part_below : AreBelow t part_registers
  part_below = (below.0, (below.1.0, (below.1.1.0, (below.1.1.1.0, (below.1.1.1.1.0, tt)))))

  abbrev own_part : Held
  own_part = record { value = 2; tag = record { base = 3; bound = 4; key = 0; lock = 0 } }

  abbrev own_count : List FlatInstruction
  own_count = count_parts 0 own_part 1 5 6 7 8 9

  abbrev own_rest : List FlatInstruction
  own_rest = count_rest own_part 1 5 6 7 8 9

  record HasCounted (s y : State) : Type 0 where
    first : y.values t ≡ entries_begin (s.values to) n
    count : ((offset % 8 ≡ 0) × (y.values (t + 1) ≡ n / 8)) ⊎ ((offset % 8 ≢ 0) × (y.values (t + 1) ≡ 0))
    word : y.values (t + 1 + 1) ≡ 0
    entry : y.values (t + 1 + 2) ≡ entries_begin a size + 4 * offset
    memory : y.memory ≡ s.memory
    shows : ShowsNothing s y
    others : OthersStay [] t s y

  counted : (s y : State) → IsReady s → IsGlued cx part_registers t 5 own_count s y → HasCounted s y
  unfolding put reg_result
  counted s y p g =
      let lo = low s p in let x = lo.to_low in let z = lo.from_low in
      let size_is = p.size_is in let part = p.part.part in let base = p.part.base in let bound = p.part.bound in
      let room = p.room in
      let w = (s.values h.value + (2 ^ 64 - s.values h.tag.base)) % 2 ^ 64 * 2 ^ 61 % 2 ^ 64 in
      let is : y.values (t + 1) ≡ product 64 (s.values bytes / 8) (bit_of (nat_lt w 1)) = sym (g.values 6 (omega arith))
      in
      record {
        first = sym (g.values 5 (omega arith)) ∙ omega arith;
        count = ⊎_elim
            (λ (e : offset % 8 ≡ 0). inl (
              e,
              is ∙ all_counted (s.values bytes / 8) w (omega arith) (omega arith)
                  ∙ omega arith,
            ))
            (λ (ne : offset % 8 ≢ 0). inr (ne, is ∙ none_counted (s.values bytes / 8) w (λ q. ne (omega arith))))
            (cases_eq (offset % 8) 0);
        word = ap y.values (let e : t + 1 + 1 ≡ t + 2 = omega arith in e) ∙ sym (g.values 7 (omega arith));
        entry = ap y.values (let e : t + 1 + 2 ≡ t + 3 = omega arith in e) ∙ sym (g.values 8 (omega arith)) ∙ omega arith;
        memory = ap (λ x. x.memory) g.rest;
        shows = record {
          input = ap (λ x. x.input) g.rest;
          output = ap (λ x. x.output) g.rest;
          taken = ap (λ x. x.taken) g.rest;
          accesses = ap (λ x. x.accesses) g.rest;
          turns = ap (λ x. x.turns) g.rest;
        };
        others = g.others;
      }

  record HasParts (s s' : State) : Type 0 where
    aligned : offset % 8 ≡ 0 → (w : ℕ) → w < n / 8
        → metadata_at s'.memory (entries_begin (s.values to) n + 32 * w)
        ≡ metadata_at s.memory (entries_begin a size + 32 * (offset / 8 + w))
    first : s'.values t ≡ entries_begin (s.values to) n
    beside : KeepsBut (entries_begin (s.values to) n) (32 * (n / 8)) s.memory s'.memory
    shows : ShowsNothing s s'
    others : OthersStay [] t s s'

  module _ (s y : State) (p : IsReady s) (f : HasCounted s y) where
    abbrev k : ℕ
    k = y.values (t + 1)

    abbrev e : ℕ
    e = y.values (t + 1 + 2)

    abbrev d : ℕ
    d = entries_begin (s.values to) n

    few : k ≤ n / 8
    few = ⊎_elim (λ q. let z = q.1 in omega arith) (λ q. let z = q.1 in omega arith) f.count

    whole : 0 < k → offset % 8 ≡ 0
    whole l = ⊎_elim (λ q. q.0) (λ q. absurd (let z = q.1 in omega arith)) f.count

    to_lies : 0 < k → IsSpaceRange map d (32 * k)
    to_lies l =
        let m = few in
        let q : s.values to + (n + 7) / 8 * 8 ≡ d = omega arith in
        subst (λ x. IsSpaceRange map x (32 * k)) q
        (part_of_area map mapped n (s.values to) ((n + 7) / 8 * 8) (32 * k) p.place (omega arith))

    from_lies : 0 < k → IsSpaceRange map e (32 * k)
    from_lies l =
        let m = few in let is = f.entry in let w = whole l in let room = p.room in
        let o : ℕ = (size + 7) / 8 * 8 + 4 * offset in
        let q : a + o ≡ e = omega arith in
        subst (λ x. IsSpaceRange map x (32 * k)) q
        (part_of_area map mapped size a o (32 * k) p.from_place (omega arith))

    -- the entries of both, one behind the other
    in_order : 0 < k → (d ≤ e) ⊎ ((d + 32 * k ≤ e) ⊎ (e + 32 * k ≤ d))
    in_order l =
        let is = f.entry in let m = few in let room = p.room in let w = whole l in
        ⊎_elim
        (λ (same : s.values to ≡ a). inl (omega arith))
        (λ out. ⊎_elim
        (λ (lo : s.values to + area_bytes n ≤ a). inr (inl (omega arith)))
        (λ (hi : a + area_bytes size ≤ s.values to). inr (inr (omega arith)))
        out)
        p.apart

    abbrev Goes : ℕ → State → Type 0
    Goes = Going (t + 1) 0 e k (AreCopied d e y.memory) y

    begins : Goes k y
    begins =
        let z : k - k ≡ 0 = omega arith in
        record {
          within = omega arith;
          left = refl;
          word = λ some. (let w = f.word in omega arith);
          entry = λ some. omega arith;
          so_far = subst (λ j. AreCopied d e y.memory j y.memory) (sym z) (record {
            entries = λ i l. absurd (omega arith);
            beside = λ b out. refl;
          });
          shows = record { input = refl; output = refl; taken = refl; accesses = refl; turns = refl };
          others = λ x l none. refl;
        }

    loops : Does cx (word_loop (t + 1) (move_body t (t + 1))) (Goes k) (λ x. k * 15 + 1) (λ x. Either (Goes 0) Never)
    loops =
        let lo = low s p in let x = lo.to_low in let z = lo.from_low in let m = few in let is = f.entry in
        let room = p.room in
        words_all cx (t + 1) 10 0 e k (AreCopied d e y.memory) (move_body t (t + 1)) y
        (copies_word map t (t + 1) charge weight d e k (omega arith) to_lies from_lies in_order y.memory y f.first)
        (omega arith) (λ some. omega arith) (λ some. (let w = whole some in omega arith))

    ends : (z : State) → Goes 0 z → HasParts s z
    ends z g =
        let q : k - 0 ≡ k = omega arith in
        let done = subst (λ j. AreCopied d e y.memory j z.memory) q g.so_far in
        let m = few in let is = f.entry in
        record {
          aligned = λ al w l. (let all : k ≡ n / 8 = ⊎_elim (λ q. q.1) (λ q. absurd (q.0 al)) f.count in
              let q1 : e + 32 * w ≡ entries_begin a size + 32 * (offset / 8 + w) = omega arith in
              done.entries w (omega arith) ∙ ap (metadata_at y.memory) q1
              ∙ ap (λ m. metadata_at m (entries_begin a size + 32 * (offset / 8 + w))) f.memory);
          first = g.others t (omega arith) tt ∙ f.first;
          beside = λ b out. done.beside b (⊎_elim (λ lo. inl lo) (λ hi. inr (omega arith)) out)
              ∙ ap (λ m. m b) f.memory;
          shows = shows_both s y z f.shows g.shows;
          others = λ x l none. g.others x (omega arith) tt ∙ f.others x l tt;
        }

  parts_moved : Does cx (move_parts to h bytes t) IsReady (λ s. 12 + (n / 8 * 15 + 1)) (λ s. Either (HasParts s) Never)
  parts_moved =
      both_quiet cx (count_parts to h bytes t (t + 1) (t + 2) (t + 3) (t + 4))
      (word_loop (t + 1) (move_body t (t + 1))) 12 (n / 8 * 15 + 1) IsReady (IsGlued cx part_registers t 5 own_count)
      (λ s y. IsReady s × HasCounted s y) (λ s y. HasParts s) HasParts
      (glued cx part_registers t 5 own_count IsReady part_below refl
      (λ s w p. (tt, (tt, (tt, (tt, (tt, (tt, (tt, (tt, (tt, (tt, (tt, (tt, tt))))))))))))))
      (λ s. record {
        from = λ code pc y has w p.
            (let m = few s y p.0 p.1 in
            (quiet_weaken cx (word_loop (t + 1) (move_body t (t + 1)))
            (y.values (t + 1) * 15 + 1) (n / 8 * 15 + 1) (Goes s y p.0 p.1 (y.values (t + 1)))
            (Goes s y p.0 p.1 (y.values (t + 1))) (λ x. Goes s y p.0 p.1 0) (λ x. HasParts s) (omega arith)
            (λ x q. q) (λ x z q g. ends s y p.0 p.1 z g) (loops s y p.0 p.1)).from code pc y has w
            (begins s y p.0 p.1));
      })
      (λ s y p g. (p, counted s y p g)) (λ s y z p g q. q)

  -- ---- the rest

  record IsRest (s y : State) : Type 0 where
    count : ((offset % 8 ≡ 0) × (y.values (t + 1) ≡ 0)) ⊎ ((offset % 8 ≢ 0) × (y.values (t + 1) ≡ 4 * (n / 8)))
    word : y.values (t + 1 + 1) ≡ entries_begin (s.values to) n
    entry : y.values (t + 1 + 2) ≡ 0
    memory : y.memory ≡ s.memory
    shows : ShowsNothing s y
    others : OthersStay [] t s y

  -- where the entries begin is in a register still
  abbrev IsBegun : State → Type 0
  IsBegun s = IsReady s × (s.values t ≡ entries_begin (s.values to) n)

  rest_counted : (s y : State) → IsBegun s → IsGlued cx part_registers t 5 own_rest s y → IsRest s y
  unfolding put reg_result
  rest_counted s y q g =
      let p = q.0 in
      let lo = low s p in let x = lo.to_low in let z = lo.from_low in
      let size_is = p.size_is in let part = p.part.part in let base = p.part.base in
      let room = p.room in
      let w = (s.values h.value + (2 ^ 64 - s.values h.tag.base)) % 2 ^ 64 * 2 ^ 61 % 2 ^ 64 in
      let words = s.values bytes / 8 * 2 ^ 2 % 2 ^ 64 in
      let is : y.values (t + 1) ≡ product 64 words ((1 + (2 ^ 64 - bit_of (nat_lt w 1))) % 2 ^ 64)
      = sym (g.values 6 (omega arith)) in
      record {
        count = ⊎_elim
            (λ (e : offset % 8 ≡ 0). inl (
              e,
              is
                  ∙ ap (λ i. product 64 words ((1 + (2 ^ 64 - bit_of i)) % 2 ^ 64)) (lt-ltb w 1 (omega arith))
                  ∙ omega arith,
            ))
            (λ (ne : offset % 8 ≢ 0). inr (
              ne,
              is
                  ∙ ap (λ i. product 64 words ((1 + (2 ^ 64 - bit_of i)) % 2 ^ 64)) (le-ltb w 1 (some ne)) ∙ omega arith,
            ))
            (cases_eq (offset % 8) 0);
        word = ap y.values (let e : t + 1 + 1 ≡ t + 2 = omega arith in e) ∙ sym (g.values 7 (omega arith)) ∙ q.1;
        entry = ap y.values (let e : t + 1 + 2 ≡ t + 3 = omega arith in e) ∙ sym (g.values 8 (omega arith));
        memory = ap (λ x. x.memory) g.rest;
        shows = record {
          input = ap (λ x. x.input) g.rest;
          output = ap (λ x. x.output) g.rest;
          taken = ap (λ x. x.taken) g.rest;
          accesses = ap (λ x. x.accesses) g.rest;
          turns = ap (λ x. x.turns) g.rest;
        };
        others = g.others;
      }
    where
      some : offset % 8 ≢ 0
          → 1 ≤ (s.values h.value + (2 ^ 64 - s.values h.tag.base)) % 2 ^ 64 * 2 ^ 61 % 2 ^ 64
      some ne =
          let p = q.0 in
          let lo = low s p in let z = lo.from_low in
          let part = p.part.part in let base = p.part.base in let room = p.room in
          omega (arith, ne)

  record HasCleared (s s' : State) : Type 0 where
    same : offset % 8 ≡ 0 → (b : ℕ) → s'.memory b ≡ s.memory b
    zeros : offset % 8 ≢ 0 → (i : ℕ) → i < 32 * (n / 8) → s'.memory (entries_begin (s.values to) n + i) ≡ 0
    beside : KeepsBut (entries_begin (s.values to) n) (32 * (n / 8)) s.memory s'.memory
    shows : ShowsNothing s s'
    others : OthersStay [] t s s'

  module _ (s y : State) (p : IsBegun s) (f : IsRest s y) where
    abbrev r : ℕ
    r = y.values (t + 1)

    abbrev b : ℕ
    b = y.values (t + 1 + 1)

    fewer : r ≤ 4 * (n / 8)
    fewer = ⊎_elim (λ q. let z = q.1 in omega arith) (λ q. let z = q.1 in omega arith) f.count

    rest_lies : IsSpaceRange map b (8 * r)
    rest_lies =
        let m = fewer in let is = f.word in
        let q : s.values to + (n + 7) / 8 * 8 ≡ b = omega arith in
        subst (λ x. IsSpaceRange map x (8 * r)) q
        (part_of_area map mapped n (s.values to) ((n + 7) / 8 * 8) (8 * r) p.0.place (omega arith))

    abbrev Clears : ℕ → State → Type 0
    Clears = Going (t + 1) b 0 r (AreZeroed b r y.memory) y

    clearing : Clears r y
    clearing =
        let z : r - r ≡ 0 = omega arith in
        record {
          within = omega arith;
          left = refl;
          word = λ some. omega arith;
          entry = λ some. (let w = f.entry in omega arith);
          so_far = subst (λ j. AreZeroed b r y.memory j y.memory) (sym z) (record {
            zeros = λ i l. absurd (omega arith);
            beside = λ b out. refl;
          });
          shows = record { input = refl; output = refl; taken = refl; accesses = refl; turns = refl };
          others = λ x l none. refl;
        }

    clears : Does cx (word_loop (t + 1) (zero_body (t + 1))) (Clears r) (λ x. r * 7 + 1) (λ x. Either (Clears 0) Never)
    clears =
        let lo = low s p.0 in let x = lo.to_low in let m = fewer in let is = f.word in
        words_all cx (t + 1) 2 b 0 r (AreZeroed b r y.memory) (zero_body (t + 1)) y
        (zero_does_word map (t + 1) charge weight b 0 r rest_lies y.memory y)
        (omega arith) (λ some. omega arith) (λ some. omega arith)

    cleared : (z : State) → Clears 0 z → HasCleared s z
    cleared z g =
        let q : r - 0 ≡ r = omega arith in
        let done = subst (λ j. AreZeroed b r y.memory j z.memory) q g.so_far in
        let m = fewer in let is = f.word in
        record {
          same = λ al c. (let none : r ≡ 0 = ⊎_elim (λ q. q.1) (λ q. absurd (q.0 al)) f.count in
              done.beside c (⊎_elim (λ lo. inl lo) (λ hi. inr (omega arith)) (cases_lt c b)) ∙ ap (λ m. m c) f.memory);
          zeros = λ ne i l. (let all : r ≡ 4 * (n / 8) = ⊎_elim (λ q. absurd (ne q.0)) (λ q. q.1) f.count in
              ap (λ x. z.memory (x + i)) (sym f.word) ∙ done.zeros i (omega arith));
          beside = λ c out. done.beside c (⊎_elim (λ lo. inl (omega arith)) (λ hi. inr (omega arith)) out)
              ∙ ap (λ m. m c) f.memory;
          shows = shows_both s y z f.shows g.shows;
          others = λ x l none. g.others x (omega arith) tt ∙ f.others x l tt;
        }

  rest_cleared : Does cx (clear_rest h bytes t) IsBegun (λ s. 10 + (n / 8 * 28 + 1)) (λ s. Either (HasCleared s) Never)
  rest_cleared =
      both_quiet cx (count_rest h bytes t (t + 1) (t + 2) (t + 3) (t + 4)) (word_loop (t + 1) (zero_body (t + 1))) 10
      (n / 8 * 28 + 1) IsBegun (IsGlued cx part_registers t 5 own_rest) (λ s y. IsBegun s × IsRest s y) (λ s y. HasCleared s)
      HasCleared
      (glued cx part_registers t 5 own_rest IsBegun part_below refl
      (λ s w p. (tt, (tt, (tt, (tt, (tt, (tt, (tt, (tt, (tt, (tt, tt))))))))))))
      (λ s. record {
        from = λ code pc y has w p.
            (let m = fewer s y p.0 p.1 in
            (quiet_weaken cx (word_loop (t + 1) (zero_body (t + 1)))
            (y.values (t + 1) * 7 + 1) (n / 8 * 28 + 1) (Clears s y p.0 p.1 (y.values (t + 1)))
            (Clears s y p.0 p.1 (y.values (t + 1))) (λ x. Clears s y p.0 p.1 0) (λ x. HasCleared s) (omega arith)
            (λ x q. q) (λ x z q g. cleared s y p.0 p.1 z g) (clears s y p.0 p.1)).from code pc y has w
            (clearing s y p.0 p.1));
      })
      (λ s y p g. (p, rest_counted s y p g)) (λ s y z p g q. q)

  -- ---- the whole

  still : (s y : State) → IsReady s → OthersStay [] t s y → IsReady y
  still s y p keep = record {
    size_is = keep bytes below.1.0 tt ∙ p.size_is;
    place = subst (IsAreaPlace map n) (sym (keep to below.0 tt)) p.place;
    part = record {
      part = keep h.value below.1.1.0 tt ∙ p.part.part;
      base = keep h.tag.base below.1.1.1.0 tt ∙ p.part.base;
      bound = keep h.tag.bound below.1.1.1.1.0 tt ∙ p.part.bound;
      no_lock = keep h.tag.lock below.1.1.1.1.1.1.0 tt ∙ p.part.no_lock;
    };
    room = p.room;
    from_place = p.from_place;
    apart = subst (λ i. (i ≡ a) ⊎ DoNotMeet i (area_bytes n) a (area_bytes size)) (sym (keep to below.0 tt)) p.apart;
  }

  module _ (move : List FlatInstruction) (moves : IsUsableMoveRoutine map to h.value bytes t move) where
    abbrev MovedBytes : State → State → Type 0
    MovedBytes = HasMovedBytes to h.value n t

    finished : (s y z u : State) → IsReady s → MovedBytes s y → HasParts y z → HasCleared z u
        → HasMovedArea to n size offset a t s u
    finished s y z u p m f g =
        let lo = low s p in let x = lo.to_low in let from_low = lo.from_low in
        let room = p.room in
        let y_to : y.values to ≡ s.values to = m.others to below.0 tt in
        let z_to : z.values to ≡ s.values to = f.others to below.0 tt ∙ y_to in
        record {
          bytes = λ i l. (let e : s.values h.value + i ≡ a + (offset + i) = (let part = p.part.part in omega arith) in
              g.beside (s.values to + i) (inl (omega arith)) ∙ f.beside (s.values to + i) (inl (omega arith))
              ∙ m.there i l ∙ ap s.memory e);
          entries = λ al w l.
              (let q : entries_begin (y.values to) n + 32 * w ≡ entries_begin (s.values to) n + 32 * w = omega arith in
              let source = entries_begin a size + 32 * (offset / 8 + w) in
              metadata_kept z.memory u.memory (entries_begin (s.values to) n + 32 * w)
              (λ i il. g.same al (entries_begin (s.values to) n + 32 * w + i))
              ∙ ap (metadata_at z.memory) (sym q) ∙ f.aligned al w l
              ∙ metadata_kept s.memory y.memory source (λ i il. m.beside (source + i) (entry_beside s p w l i il)));
          none = λ ne w l.
              zeros_are_none u.memory (entries_begin (s.values to) n + 32 * w)
              (λ i il. (let q : entries_begin (z.values to) n + (32 * w + i)
              ≡ entries_begin (s.values to) n + 32 * w + i = omega arith in
              ap u.memory (sym q) ∙ g.zeros ne (32 * w + i) (omega arith)));
          beside = λ b out. g.beside b (⊎_elim (λ lo. inl (omega arith)) (λ hi. inr (omega arith)) out)
              ∙ f.beside b (⊎_elim (λ lo. inl (omega arith)) (λ hi. inr (omega arith)) out)
              ∙ m.beside b (⊎_elim (λ lo. inl (omega arith)) (λ hi. inr (omega arith)) out);
          shows = shows_both s z u (shows_both s y z m.shows f.shows) g.shows;
          others = λ r l none. g.others r l tt ∙ f.others r l tt ∙ m.others r l tt;
        }
      where
        -- the entries of the part lie beside the bytes that were moved
        entry_beside : (s : State) → IsReady s → (w : ℕ) → w < n / 8 → (i : ℕ) → i < 32
            → (entries_begin a size + 32 * (offset / 8 + w) + i < s.values to)
            ⊎ (s.values to + n ≤ entries_begin a size + 32 * (offset / 8 + w) + i)
        entry_beside s p w l i il =
            let room = p.room in
            ⊎_elim
            (λ (same : s.values to ≡ a). inr (omega arith))
            (λ out. ⊎_elim
            (λ (lo : s.values to + area_bytes n ≤ a). inr (omega arith))
            (λ (hi : a + area_bytes size ≤ s.values to). inl (omega arith))
            out)
            p.apart

    moves_area : Does cx (move ++ (move_parts to h bytes t ++ clear_rest h bytes t)) IsReady (λ s. 40 + 13 * n)
        (λ s. Either (HasMovedArea to n size offset a t s) Never)
    moves_area =
        quiet_weaken cx (move ++ (move_parts to h bytes t ++ clear_rest h bytes t))
        ((16 + 7 * n) + ((12 + (n / 8 * 15 + 1)) + (10 + (n / 8 * 28 + 1)))) (40 + 13 * n) IsReady IsReady
        (HasMovedArea to n size offset a t) (HasMovedArea to n size offset a t) (omega arith) (λ s p. p)
        (λ s s' p h. h)
        (both_quiet cx move (move_parts to h bytes t ++ clear_rest h bytes t) (16 + 7 * n)
        ((12 + (n / 8 * 15 + 1)) + (10 + (n / 8 * 28 + 1))) IsReady MovedBytes (λ s y. IsReady s × MovedBytes s y)
        (λ s y. HasMovedArea to n size offset a t s) (HasMovedArea to n size offset a t)
        (quiet_weaken cx move (16 + 7 * n) (16 + 7 * n) (IsToMoveUsable map to h.value bytes n) IsReady MovedBytes
        MovedBytes (omega arith) to_move (λ s y p m. m) (moves n charge weight))
        (λ s. both_quiet cx (move_parts to h bytes t) (clear_rest h bytes t) (12 + (n / 8 * 15 + 1)) (10 + (n / 8 * 28 + 1))
        (λ y. IsReady s × MovedBytes s y) HasParts (λ y z. IsBegun z) (λ y z. HasCleared z)
        (λ y. HasMovedArea to n size offset a t s)
        (quiet_weaken cx (move_parts to h bytes t) (12 + (n / 8 * 15 + 1)) (12 + (n / 8 * 15 + 1)) IsReady
        (λ y. IsReady s × MovedBytes s y) HasParts HasParts (omega arith) (λ y q. still s y q.0 q.1.others)
        (λ y z q f. f) parts_moved)
        (λ y. rest_cleared)
        (λ y z q f. (
          still y z (still s y q.0 q.1.others) f.others,
          f.first ∙ ap (λ i. entries_begin i n) (sym (f.others to below.0 tt)),
        ))
        (λ y z u q f g. finished s y z u q.0 q.1 f g))
        (λ s y p m. (p, m)) (λ s y u p m g. g))
      where
        to_move : (s : State) → IsReady s → IsToMoveUsable map to h.value bytes n s
        to_move s p =
            let lo = low s p in let x = lo.to_low in let from_low = lo.from_low in
            let part = p.part.part in let room = p.room in
            let z : s.values to + 0 ≡ s.values to = omega arith in
            record {
              size_is = p.size_is;
              to_range = space_usable map (s.values to) n
                  (subst (λ i. IsSpaceRange map i n) z (part_of_area map mapped n (s.values to) 0 n p.place (omega arith)))
                  (omega arith);
              from_range = space_usable map (s.values h.value) n
                  (subst (λ i. IsSpaceRange map i n) (sym part)
                  (part_of_area map mapped size a offset n p.from_place (omega arith)))
                  (omega arith);
            }

pub moves_areas : (map : MapSizes) → AreMapped map → (to : ℕ) (h : Held) (bytes t : ℕ)
    → AreBelow t (to ∷ bytes ∷ held_registers h) → (move : List FlatInstruction)
    → IsUsableMoveRoutine map to h.value bytes t move
    → IsMoveAreaRoutine map to h bytes t (move ++ (move_parts to h bytes t ++ clear_rest h bytes t))
moves_areas map mapped to h bytes t below move moves n size offset a charge weight =
    moves_area map mapped to h bytes t charge weight below n size offset a move moves
