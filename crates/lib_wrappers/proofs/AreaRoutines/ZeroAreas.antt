-- An area is made zero.
use Rattle.std.proofs.Common.{◌≡◌, ℕ, ◌+◌, ◌-◌, ◌*◌, ◌/◌, ◌<◌, ◌≤◌, ◌⊎◌, List, [], ◌∷◌, refl, sym, ap, ◌∙◌}
use Rattle.std.proofs.Common.{subst, arith}
use Rattle.addr_map.specs.Places.{MapSizes, AreMapped}
use Rattle.rv_isa.specs.Results.{reg_result}
use Rattle.flat_code.specs.declared.instruction.FlatInstruction.{FlatInstruction}
use Rattle.flat_code.specs.Memory.{put, KeepsBut}
use Rattle.flat_code.specs.State.{State}
use Rattle.flat_code.specs.Meaning.{Context}
use Rattle.flat_code.specs.Routines.Registers.{AreBelow, OthersStay}
use Rattle.flat_code.specs.Routines.Routine.{Does, Either, Never}
use Rattle.flat_code.specs.Routines.Metadata.{ShowsNothing}
use Rattle.flat_code.proofs.Routines.Showing.{shows_both}
use Rattle.flat_actions.proofs.Standing.{others_trans}
use Rattle.lib_wrappers.proofs.MovingRoutines.Steps.{both_quiet, quiet_weaken, IsGlued, glued}
use Rattle.lib_wrappers.proofs.MovingRoutines.Bytes.{in_runtime}
use Rattle.lib_wrappers.specs.AreaRoutines.Areas.{area_bytes}
use Rattle.lib_wrappers.specs.AreaRoutines.Loops.{word_loop, zero_body}
use Rattle.lib_wrappers.specs.AreaRoutines.Zeroing.{IsToZeroArea, HasZeroedArea, IsZeroAreaRoutine, area_words}
use Rattle.lib_wrappers.specs.AreaRoutines.Zeroing.{zero_area_code}
use Rattle.lib_wrappers.proofs.AreaRoutines.WordLoops.{Going, words_all}
use Rattle.lib_wrappers.proofs.AreaRoutines.Bodies.{IsSpaceRange, AreZeroed, zero_does_word}
use Rattle.lib_wrappers.proofs.AreaRoutines.Spaces.{structure_space, part_of_area}

-- how many words an area has
abbrev pub words_of : (size : ℕ) → ℕ
words_of n = (n + 7) / 8 + 4 * (n / 8)

module _ (map : MapSizes) (mapped : AreMapped map) (at bytes t charge weight : ℕ) (below : AreBelow t
    (at ∷ bytes ∷ [])) (n : ℕ) where
  abbrev c : Context
  c = in_runtime map charge weight

  -- over their own registers: 0 where, 1 how many bytes, 2 to 5 those of the loop
  abbrev own_words : List FlatInstruction
  own_words = area_words 0 1 2 3 4 5

  abbrev IsPlaced : State → State → Type 0
  IsPlaced = IsGlued c (at ∷ bytes ∷ []) t 4 own_words

  abbrev Goes : State → ℕ → State → Type 0
  Goes y = Going t (y.values (t + 1)) 0 (words_of n) (AreZeroed (y.values (t + 1)) (words_of n) y.memory) y

  record HasWords (s y : State) : Type 0 where
    count : y.values t ≡ words_of n
    first : y.values (t + 1) ≡ s.values at
    entry : y.values (t + 2) ≡ 0
    memory : y.memory ≡ s.memory
    shows : ShowsNothing s y
    others : OthersStay [] t s y

  has_words : (s y : State) → IsToZeroArea map at bytes n s → IsPlaced s y → HasWords s y
  unfolding put reg_result
  has_words s y p g =
      let last = p.place.last in let small = (structure_space map mapped).small in let size = p.size_is in
      record {
        count = sym (g.values 2 (omega arith)) ∙ omega arith;
        first = sym (g.values 3 (omega arith));
        entry = sym (g.values 4 (omega arith));
        memory = ap (λ x. x.memory) g.rest;
        shows = record {
          input = ap (λ x. x.input) g.rest;
          output = ap (λ x. x.output) g.rest;
          taken = ap (λ x. x.taken) g.rest;
          accesses = ap (λ x. x.accesses) g.rest;
          turns = ap (λ x. x.turns) g.rest;
        };
        others = g.others;
      }

  begins : (s y : State) → HasWords s y → Goes y (words_of n) y
  begins s y h =
      let e : words_of n - words_of n ≡ 0 = omega arith in
      record {
        within = omega arith;
        left = h.count;
        word = λ some. omega arith;
        entry = λ some. (let z = h.entry in omega arith);
        so_far = subst (λ j. AreZeroed (y.values (t + 1)) (words_of n) y.memory j y.memory) (sym e) (record {
          zeros = λ i l. absurd (omega arith);
          beside = λ b out. refl;
        });
        shows = record { input = refl; output = refl; taken = refl; accesses = refl; turns = refl };
        others = λ x l none. refl;
      }

  lies : (s y : State) → IsToZeroArea map at bytes n s → HasWords s y
      → IsSpaceRange map (y.values (t + 1)) (8 * words_of n)
  lies s y p h =
      let e : s.values at + 0 ≡ y.values (t + 1) = (let f = h.first in omega arith) in
      subst (λ a. IsSpaceRange map a (8 * words_of n)) e
      (part_of_area map mapped n (s.values at) 0 (8 * words_of n) p.place (omega arith))

  ends : (s y z : State) → HasWords s y → Goes y 0 z → HasZeroedArea at n t s z
  ends s y z h g =
      let e : words_of n - 0 ≡ words_of n = omega arith in
      let done = subst (λ j. AreZeroed (y.values (t + 1)) (words_of n) y.memory j z.memory) e g.so_far in
      let from = h.first in
      record {
        zeros = λ i l. (let q : y.values (t + 1) + i ≡ s.values at + i = omega arith in
            ap z.memory (sym q) ∙ done.zeros i (omega arith));
        beside = λ b out. (let q : 8 * words_of n ≡ area_bytes n = omega arith in
            subst (λ k. KeepsBut (y.values (t + 1)) k y.memory z.memory) q done.beside b
            (subst (λ a. (b < a) ⊎ (a + area_bytes n ≤ b)) (sym from) out)
            ∙ ap (λ m. m b) h.memory);
        shows = shows_both s y z h.shows g.shows;
        others = others_trans [] t s y z h.others g.others;
      }

  loops : (s y : State) → IsToZeroArea map at bytes n s → HasWords s y
      → Does c (word_loop t (zero_body t)) (Goes y (words_of n)) (λ x. words_of n * 7 + 1)
      (λ x. Either (Goes y 0) Never)
  loops s y p h =
      let small = (structure_space map mapped).small in let last = p.place.last in let first = h.first in
      words_all c t 2 (y.values (t + 1)) 0 (words_of n) (AreZeroed (y.values (t + 1)) (words_of n) y.memory)
      (zero_body t) y
      (zero_does_word map t charge weight (y.values (t + 1)) 0 (words_of n) (lies s y p h) y.memory y)
      (omega arith) (λ some. omega arith) (λ some. omega arith)

  zeros_area : Does c (zero_area_code at bytes t) (IsToZeroArea map at bytes n) (λ s. 16 + 5 * n)
      (λ s. Either (HasZeroedArea at n t s) Never)
  zeros_area =
      quiet_weaken c (zero_area_code at bytes t) (7 + (words_of n * 7 + 1)) (16 + 5 * n) (IsToZeroArea map at bytes n)
      (IsToZeroArea map at bytes n) (HasZeroedArea at n t) (HasZeroedArea at n t) (omega arith) (λ s p. p)
      (λ s s' p h. h)
      (both_quiet c (area_words at bytes t (t + 1) (t + 2) (t + 3)) (word_loop t (zero_body t)) 7
      (words_of n * 7 + 1) (IsToZeroArea map at bytes n) IsPlaced
      (λ s y. (IsToZeroArea map at bytes n s × HasWords s y)) (λ s y. HasZeroedArea at n t s) (HasZeroedArea at n t)
      (glued c (at ∷ bytes ∷ []) t 4 own_words (IsToZeroArea map at bytes n) below refl
      (λ s w p. (tt, (tt, (tt, (tt, (tt, (tt, (tt, tt)))))))))
      (λ s. record {
        from = λ code pc y has w p.
            (quiet_weaken c (word_loop t (zero_body t)) (words_of n * 7 + 1) (words_of n * 7 + 1)
            (Goes y (words_of n)) (Goes y (words_of n)) (λ x. Goes y 0) (λ x. HasZeroedArea at n t s) (omega arith)
            (λ x q. q) (λ x z q g. ends s y z p.1 g) (loops s y p.0 p.1)).from code pc y has w (begins s y p.1);
      })
      (λ s y p g. (p, has_words s y p g)) (λ s y z p g h. h))

pub zeros_areas : (map : MapSizes) → AreMapped map → (at bytes t : ℕ) → AreBelow t (at ∷ bytes ∷ [])
    → IsZeroAreaRoutine map at bytes t (zero_area_code at bytes t)
zeros_areas map mapped at bytes t below n charge weight = zeros_area map mapped at bytes t charge weight below n
