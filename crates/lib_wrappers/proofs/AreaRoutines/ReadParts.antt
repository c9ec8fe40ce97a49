-- Scalars read out of contents are what the source reads.
use Rattle.std.proofs.Common.{◌≡◌, ◌≢◌, ℕ, ◌+◌, ◌-◌, ◌*◌, ◌/◌, ◌%◌, ◌^◌, ◌<◌, ◌≤◌, ⊎_elim, List, [], ◌∷◌, Bool}
use Rattle.std.proofs.Common.{drop, get_or, if◌then◌else◌, refl, sym, ap, ◌∙◌, subst, arith}
use Rattle.std.proofs.lemmas.Bool.{cases_eq, eq-eqb, ne_eqb}
use Rattle.std.proofs.lemmas.List.{get_or-take, get_or-drop}
use Rattle.byteorder.specs.Endian.{little_number}
use Rattle.behaviours.specs.Shown.{Access, Read}
use Rattle.addr_map.specs.Places.{AreMapped}
use Rattle.rv_isa.specs.Results.{reg_result, extended, load_bytes}
use Rattle.obj_memory.specs.declared.int_type.IntType.{IntType}
use Rattle.obj_memory.specs.declared.value.Tag.TheVariants.{Untagged}
use Rattle.obj_memory.specs.declared.value.Place.{Place}
use Rattle.obj_memory.specs.Objects.{ObjectState}
use Rattle.obj_memory.specs.Integers.{size_of, fit}
use Rattle.obj_memory.specs.Access.{bytes_at, tag_of, read_value}
use Rattle.flat_code.specs.declared.instruction.FlatInstruction.{FlatInstruction}
use Rattle.flat_code.specs.Memory.{Bytes, put, load}
use Rattle.flat_code.specs.State.{State}
use Rattle.flat_code.specs.Words.{IsOfWords}
use Rattle.flat_code.specs.Meaning.{Context}
use Rattle.flat_code.proofs.Stored.{put_same, put_other, load_fits as loads_fit}
use Rattle.flat_code.specs.declared.registers.Held.{Held}
use Rattle.flat_code.specs.Routines.Registers.{AreDistinct, AreBelow, AreNoneOf, IsNoneOf, OthersStay}
use Rattle.flat_code.specs.Routines.Renaming.{through}
use Rattle.flat_code.specs.Routines.Routine.{Does, Either, Never}
use Rattle.flat_code.specs.Routines.Effects.{effects, with_shown, AreAllowed}
use Rattle.flat_code.specs.Routines.Metadata.{metadata_at, metadata_in, no_metadata, ShowsNothing, held_registers}
use Rattle.flat_code.proofs.Routines.Rules.{line}
use Rattle.flat_code.proofs.Routines.Regions.{laid_out, shadow_not_shown}
use Rattle.flat_code.proofs.Routines.Showing.{shows_both}
use Rattle.flat_code.proofs.Routines.Words.{same_metadata}
use Rattle.flat_code.specs.Routines.Objects.StandsFor.{Views, Keys, spell}
use Rattle.lock_space.proofs.Spaces.{allowed_at}
use Rattle.flat_actions.specs.Actions.{registers_of}
use Rattle.flat_actions.specs.Lists.{give_code}
use Rattle.lib_wrappers.proofs.MovingRoutines.Steps.{both_quiet, quiet_weaken, IsGlued, glued, named}
use Rattle.lib_wrappers.proofs.MovingRoutines.Guarded.{HasHanded, hands}
use Rattle.lib_wrappers.specs.declared.accesses.held.HeldScalar.{HeldScalar}
use Rattle.lib_wrappers.specs.declared.accesses.held.HeldScalar.TheVariants.{Integer, Pointer}
use Rattle.lib_wrappers.specs.AccessRoutines.Holding.{holder_in}
use Rattle.lib_wrappers.specs.AccessRoutines.Accessing.{load_op, load_integer_code}
use Rattle.lib_wrappers.proofs.AccessRoutines.Places.{number_loaded, load_size, load_fits}
use Rattle.lib_wrappers.specs.AreaRoutines.Areas.{IsArea, IsAreaPlace, area_bytes, entries_begin}
use Rattle.lib_wrappers.specs.AreaRoutines.Reading.{IsToReadPart, HasReadPart, IsReadPartRoutine, scalar_of_part}
use Rattle.lib_wrappers.specs.AreaRoutines.Reading.{read_word}
use Rattle.lib_wrappers.specs.AreaRoutines.Reading.{word_held, read_pointer_code, read_part_code}
use Rattle.lib_wrappers.proofs.AreaRoutines.Bodies.{IsSpaceRange}
use Rattle.lib_wrappers.proofs.AreaRoutines.Spaces.{structure_space, part_of_area}
use Rattle.lib_wrappers.proofs.AreaRoutines.TakeRanges.{all_counted, none_counted}

-- the place of a part of contents that stand alone
abbrev at_offset : ℕ → Place
at_offset q = record { object = 0; offset = q }

-- the number that some bytes of contents spell is in the area
number_of_part : (g : Views) (k : Keys) (c : ObjectState) (n q a : ℕ) (m : Bytes) → IsArea g k c a m → q + n ≤ c.size
    → load n m (a + q) ≡ little_number n (bytes_at n (at_offset q) (c ∷ []))
number_of_part g k c n q a m area room =
    number_loaded n 0 m (a + q) (bytes_at n (at_offset q) (c ∷ [])) (λ j l.
    let e : j ≡ 0 + j = omega arith in
    let p : a + q + j ≡ a + (q + j) = omega arith in
    subst (λ i. m (a + q + j) ≡ get_or (bytes_at n (at_offset q) (c ∷ [])) i 0) e
    (ap m p ∙ area.bytes (q + j) (omega arith) ∙ sym (get_or-drop q c.bytes j 0)
    ∙ sym (get_or-take n (drop q c.bytes) j 0 (omega arith))))

module _ (g : Views) (mapped : AreMapped g.sizes) (k : Keys) (c : ObjectState) (q a : ℕ) (runtime : Bool)
    (charge weight : ℕ) where
  abbrev cx : Context
  cx = record { sizes = g.sizes; is_runtime = runtime; charge = charge; weight = weight }

  -- an access of an area is allowed, and shows nothing
  space_of : (o n : ℕ) → IsAreaPlace g.sizes c.size a → o + n ≤ area_bytes c.size → IsSpaceRange g.sizes (a + o) n
  space_of o n place l = part_of_area g.sizes mapped c.size a o n place l

  not_shown : (i o n : ℕ) (accesses : List Access) → IsAreaPlace g.sizes c.size a → o + n ≤ area_bytes c.size
      → i ≡ a + o → with_shown cx i n Read accesses ≡ accesses
  not_shown i o n accesses place l is =
      let r = space_of o n place l in let first = r.first in
      shadow_not_shown cx i n Read accesses (laid_out g.sizes mapped) (omega arith)

  -- ---- integers

  module _ (t : IntType) (r : ℕ) (h : Held) (scratch : ℕ) where
    abbrev code : List FlatInstruction
    code = load_integer_code h.value t r

    abbrev P : State → Type 0
    P = IsToReadPart g k c q a (Integer t r) h

    read_integer : (s : State) → IsOfWords s → P s
        → HasReadPart g k (scalar_of_part (Integer t r) q c) (Integer t r) scratch s (effects cx code s)
    unfolding read_value
    read_integer s w p =
        let n = load_bytes (load_op t) in
        let size : n ≡ size_of t = load_size t in
        let room = p.room in let last = p.place.last in let small = (structure_space g.sizes mapped).small in
        let part = p.part.part in
        let at : (s.values h.value + 0) % 2 ^ 64 ≡ a + q = omega arith in
        let i = (s.values h.value + 0) % 2 ^ 64 in
        let x = load n s.memory i in
        let number : x ≡ little_number (size_of t) (bytes_at (size_of t) (at_offset q) (c ∷ [])) =
        ap (load n s.memory) at ∙ ap (λ z. load z s.memory (a + q)) size
        ∙ number_of_part g k c (size_of t) q a s.memory p.area room in
        let fits : x < 256 ^ size_of t =
        subst (λ z. load n s.memory i < 256 ^ z) size (loads_fit n s.memory i w.memory) in
        record {
          given = put_same s.values r (extended (load_op t) x) ∙ load_fits t x fits ∙ ap (fit t) number;
          memory = refl;
          shows = record {
            input = refl;
            output = refl;
            taken = refl;
            accesses = not_shown i q n s.accesses p.place (omega arith) at;
            turns = refl;
          };
          others = λ j l none. put_other s.values r (extended (load_op t) x) j none.0;
        }

    may_read : (s : State) → P s → AreAllowed cx code s
    may_read s p =
        let n = load_bytes (load_op t) in
        let size : n ≡ size_of t = load_size t in
        let room = p.room in let last = p.place.last in let small = (structure_space g.sizes mapped).small in
        let part = p.part.part in
        let lies = space_of q n p.place (omega arith) in
        let first = lies.first in let end = lies.last in
        (allowed_at g.sizes ((s.values h.value + 0) % 2 ^ 64) (a + q) n (omega arith) (omega arith) (omega arith), tt)

    pub integer_does : Does cx code P (λ s. 1)
        (λ s. Either (HasReadPart g k (scalar_of_part (Integer t r) q c) (Integer t r) scratch s) Never)
    integer_does = record {
      from = λ code' pc s has w p.
          line cx code' code pc s (HasReadPart g k (scalar_of_part (Integer t r) q c) (Integer t r) scratch s) Never
          (may_read s p) has (read_integer s w p);
    }

  -- ---- pointers

  module _ (h into : Held) (t : ℕ) (below : AreBelow t (held_registers h)) (below_into : AreBelow t (held_registers into))
      (distinct : AreDistinct (held_registers into)) where
    abbrev IsReady : State → Type 0
    IsReady = IsToReadPart g k c q a (Pointer into) h

    -- over their own registers: 0 to 2 the part, its area and its entries
    abbrev ins : List ℕ
    ins = h.value ∷ h.tag.base ∷ h.tag.bound ∷ []

    abbrev own_word : List FlatInstruction
    own_word = read_word (record { value = 0; tag = record { base = 1; bound = 2; key = 0; lock = 0 } }) 3

    abbrev place : ℕ
    place = entries_begin a c.size + 32 * (q / 8)

    abbrev offset_of : ℕ
    offset_of = (c.size + 7) / 8 * 8 + 32 * (q / 8)

    at_place : (i : ℕ) → place + i ≡ a + (offset_of + i)
    at_place i = omega arith

    record HasWord (s y : State) : Type 0 where
      value : y.values t ≡ load 8 s.memory (a + q)
      aligned : q % 8 ≡ 0 → metadata_in y.values (word_held t).tag ≡ metadata_at s.memory place
      none : q % 8 ≢ 0 → metadata_in y.values (word_held t).tag ≡ no_metadata
      memory : y.memory ≡ s.memory
      shows : ShowsNothing s y
      others : OthersStay [] t s y

    word_of : (s y : State) → IsReady s → IsGlued cx ins t 7 own_word s y → HasWord s y
    unfolding put reg_result extended
    word_of s y p f =
        let room = p.room in let last = p.place.last in let small = (structure_space g.sizes mapped).small in
        let part = p.part.part in let base = p.part.base in let bound = p.part.bound in
        let from : (s.values h.value + 0) % 2 ^ 64 ≡ a + q = omega arith in
        let difference = (s.values h.value + (2 ^ 64 - s.values h.tag.base)) % 2 ^ 64 in
        let w = difference * 2 ^ 61 % 2 ^ 64 in
        let e = (difference / 8 * 2 ^ 5 % 2 ^ 64 + s.values h.tag.bound) % 2 ^ 64 in
        let e0 : (e + 0) % 2 ^ 64 ≡ place = omega arith in
        let p0 : place ≡ a + (offset_of + 0) = omega arith in
        let e1 : (e + 8) % 2 ^ 64 ≡ place + 8 = omega arith in
        let e2 : (e + 16) % 2 ^ 64 ≡ place + 16 = omega arith in
        let e3 : (e + 24) % 2 ^ 64 ≡ place + 24 = omega arith in
        let fit = λ (i : ℕ). loads_fit 8 s.memory i f.words.memory in
        record {
          value = sym (f.values 3 (omega arith)) ∙ ap (load 8 s.memory) from;
          aligned = λ al.
              (let z : w ≡ 0 = omega arith in
              same_metadata (metadata_in y.values (word_held t).tag) (metadata_at s.memory place)
              (sym (f.values 6 (omega arith)) ∙ all_counted (load 8 s.memory ((e + 0) % 2 ^ 64)) w (fit _) z
              ∙ ap (load 8 s.memory) e0)
              (sym (f.values 7 (omega arith)) ∙ all_counted (load 8 s.memory ((e + 8) % 2 ^ 64)) w (fit _) z
              ∙ ap (load 8 s.memory) e1)
              (sym (f.values 8 (omega arith)) ∙ all_counted (load 8 s.memory ((e + 16) % 2 ^ 64)) w (fit _) z
              ∙ ap (load 8 s.memory) e2)
              (sym (f.values 9 (omega arith)) ∙ all_counted (load 8 s.memory ((e + 24) % 2 ^ 64)) w (fit _) z
              ∙ ap (load 8 s.memory) e3));
          none = λ ne.
              (let z : w ≢ 0 = λ i. ne (omega arith) in
              same_metadata (metadata_in y.values (word_held t).tag) no_metadata
              (sym (f.values 6 (omega arith)) ∙ none_counted (load 8 s.memory ((e + 0) % 2 ^ 64)) w z)
              (sym (f.values 7 (omega arith)) ∙ none_counted (load 8 s.memory ((e + 8) % 2 ^ 64)) w z)
              (sym (f.values 8 (omega arith)) ∙ none_counted (load 8 s.memory ((e + 16) % 2 ^ 64)) w z)
              (sym (f.values 9 (omega arith)) ∙ none_counted (load 8 s.memory ((e + 24) % 2 ^ 64)) w z));
          memory = ap (λ x. x.memory) f.rest;
          shows = record {
            input = ap (λ x. x.input) f.rest;
            output = ap (λ x. x.output) f.rest;
            taken = ap (λ x. x.taken) f.rest;
            accesses = ap (λ x. x.accesses) f.rest
                ∙ not_shown ((e + 24) % 2 ^ 64) (offset_of + 24) 8 _ p.place (omega arith) (e3 ∙ at_place 24)
                ∙ not_shown ((e + 16) % 2 ^ 64) (offset_of + 16) 8 _ p.place (omega arith) (e2 ∙ at_place 16)
                ∙ not_shown ((e + 8) % 2 ^ 64) (offset_of + 8) 8 _ p.place (omega arith) (e1 ∙ at_place 8)
                ∙ not_shown ((e + 0) % 2 ^ 64) (offset_of + 0) 8 _ p.place (omega arith) (e0 ∙ p0)
                ∙ not_shown ((s.values h.value + 0) % 2 ^ 64) q 8 s.accesses p.place (omega arith) from;
            turns = ap (λ x. x.turns) f.rest;
          };
          others = f.others;
        }

    may_load : (s : State) → IsReady s → AreAllowed cx own_word (through (named ins t 7) s)
    unfolding put reg_result
    may_load s p =
        let room = p.room in let last = p.place.last in let small = (structure_space g.sizes mapped).small in
        let part = p.part.part in let base = p.part.base in let bound = p.part.bound in
        let word = space_of q 8 p.place (omega arith) in
        let first = word.first in let end = word.last in
        let entry = space_of offset_of 32 p.place (omega arith) in
        let begin = entry.first in let over = entry.last in
        let difference = (s.values h.value + (2 ^ 64 - s.values h.tag.base)) % 2 ^ 64 in
        let e = (difference / 8 * 2 ^ 5 % 2 ^ 64 + s.values h.tag.bound) % 2 ^ 64 in
        let at = λ (i : ℕ). λ (l : i + 8 ≤ 32). allowed_at g.sizes ((e + i) % 2 ^ 64) (a + (offset_of + i)) 8
        (omega arith) (omega arith) (omega arith) in (
          allowed_at g.sizes ((s.values h.value + 0) % 2 ^ 64) (a + q) 8 (omega arith) (omega arith) (omega arith),
          (
            tt,
            (
              tt,
              (
                tt,
                (
                  tt,
                  (
                    tt,
                    (
                      tt,
                      (
                        at 0 (omega arith),
                        (
                          at 8 (omega arith),
                          (at 16 (omega arith), (at 24 (omega arith), (tt, (tt, (tt, (tt, tt)))))),
                        ),
                      ),
                    ),
                  ),
                ),
              ),
            ),
          ),
        )

    loads_word : Does cx (read_word h t) IsReady (λ s. 15) (λ s. Either (HasWord s) Never)
    loads_word =
        quiet_weaken cx (read_word h t) 15 15 IsReady IsReady (IsGlued cx ins t 7 own_word) HasWord (omega arith)
        (λ s p. p) (λ s y p f. word_of s y p f)
        (glued cx ins t 7 own_word IsReady (below.0, (below.1.0, (below.1.1.0, tt))) refl (λ s w p. may_load s p))

    given_word : (s y z : State) → IsReady s → HasWord s y → HasHanded (word_held t) into (t + 7) y z
        → HasReadPart g k (scalar_of_part (Pointer into) q c) (Pointer into) t s z
    unfolding read_value
    given_word s y z p f d =
        let room = p.room in
        record {
          given = record {
            word = d.word ∙ f.value ∙ number_of_part g k c 8 q a s.memory p.area room;
            tag = d.tag ∙ ⊎_elim
                (λ (al : q % 8 ≡ 0). f.aligned al ∙ p.area.entries (q / 8) (omega arith)
                ∙ ap (λ b. spell g k (if b then tag_of 0 (q / 8) (c ∷ []) else Untagged)) (sym (eq-eqb (q % 8) 0 al)))
                (λ (ne : q % 8 ≢ 0). f.none ne
                ∙ ap (λ b. spell g k (if b then tag_of 0 (q / 8) (c ∷ []) else Untagged)) (sym (ne_eqb (q % 8) 0 ne)))
                (cases_eq (q % 8) 0);
          };
          memory = d.memory ∙ f.memory;
          shows = shows_both s y z f.shows d.shows;
          others = λ r l none. d.others r (omega arith) none ∙ f.others r l tt;
        }

    pub pointer_does : Does cx (read_pointer_code h into t) IsReady (λ s. 20)
        (λ s. Either (HasReadPart g k (scalar_of_part (Pointer into) q c) (Pointer into) t s) Never)
    pointer_does =
        both_quiet cx (read_word h t) (give_code (word_held t) into) 15 5 IsReady HasWord (λ s y. Unit {0})
        (λ s y. HasHanded (word_held t) into (t + 7) y)
        (HasReadPart g k (scalar_of_part (Pointer into) q c) (Pointer into) t) loads_word
        (λ s. hands cx (word_held t) into (t + 7) from_below into_below distinct apart)
        (λ s y p f. tt) (λ s y z p f d. given_word s y z p f d)
      where
        from_below : AreBelow (t + 7) (held_registers (word_held t))
        from_below = (omega arith, (omega arith, (omega arith, (omega arith, (omega arith, tt)))))

        into_below : AreBelow (t + 7) (held_registers into)
        into_below =
            let b = below_into in
            let b0 = b.0 in let b1 = b.1.0 in let b2 = b.1.1.0 in let b3 = b.1.1.1.0 in let b4 = b.1.1.1.1.0 in
            (omega arith, (omega arith, (omega arith, (omega arith, (omega arith, tt)))))

        none_of : (x : ℕ) → t ≤ x → IsNoneOf x (held_registers into)
        none_of x l =
            let b = below_into in
            let b0 = b.0 in let b1 = b.1.0 in let b2 = b.1.1.0 in let b3 = b.1.1.1.0 in let b4 = b.1.1.1.1.0 in
            ((λ e. omega arith), ((λ e. omega arith), ((λ e. omega arith), ((λ e. omega arith), ((λ e. omega arith), tt)))))

        apart : AreNoneOf (held_registers (word_held t)) (held_registers into)
        apart = (
          none_of t (omega arith),
          (
            none_of (t + 3) (omega arith),
            (none_of (t + 4) (omega arith), (none_of (t + 5) (omega arith), (none_of (t + 6) (omega arith), tt))),
          ),
        )

-- ---- the routines

pub integers_read : (t : IntType) (r : ℕ) (h : Held) (scratch : ℕ)
    → IsReadPartRoutine h (Integer t r) scratch (load_integer_code h.value t r)
integers_read t r h scratch g k c q a runtime charge weight mapped =
    integer_does g mapped k c q a runtime charge weight t r h scratch

pub pointers_read : (h into : Held) (t : ℕ) → AreBelow t (held_registers h) → AreBelow t (held_registers into)
    → AreDistinct (held_registers into) → IsReadPartRoutine h (Pointer into) t (read_pointer_code h into t)
pointers_read h into t below below_into distinct g k c q a runtime charge weight mapped =
    pointer_does g mapped k c q a runtime charge weight h into t below below_into distinct

pub parts_read : (h : Held) (into : HeldScalar) (t : ℕ) → AreBelow t (held_registers h)
    → AreBelow t (registers_of (holder_in into)) → AreDistinct (registers_of (holder_in into))
    → IsReadPartRoutine h into t (read_part_code h into t)
parts_read h (Integer ty r) t below results distinct = integers_read ty r h t
parts_read h (Pointer into) t below results distinct = pointers_read h into t below results distinct
