-- Bytes of object space filled.
use Rattle.std.proofs.Common.{◌≡◌, ◌≢◌, ℕ, suc, ◌+◌, ◌*◌, ◌%◌, ◌^◌, ◌<◌, [], ◌∷◌}
use Rattle.std.proofs.Common.{refl, sym, ap, ◌∙◌, arith, ⊎_elim}
use Rattle.std.proofs.lemmas.Bool.{cases_eq}
use Rattle.addr_map.specs.Places.{MapSizes}
use Rattle.rv_isa.specs.declared.instruction.BranchOp.TheVariants.{Beq}
use Rattle.rv_isa.specs.Results.{reg_result}
use Rattle.flat_code.specs.declared.instruction.RightOperand.TheVariants.{Register}
use Rattle.flat_code.specs.Memory.{put, store, Beside}
use Rattle.flat_code.specs.State.{State}
use Rattle.flat_code.specs.Meaning.{Context}
use Rattle.flat_code.specs.Routines.Registers.{AreBelow, OthersStay}
use Rattle.flat_code.specs.Routines.Routine.{Does, Either, Never, until_code}
use Rattle.flat_code.specs.Routines.Renaming.{through}
use Rattle.flat_code.specs.Routines.Effects.{worked, AreAllowed}
use Rattle.flat_code.specs.Routines.Metadata.{ShowsNothing}
use Rattle.flat_code.proofs.Routines.Regions.{IsLaidOut, object_allowed}
use Rattle.flat_code.proofs.Routines.Branches.{are_equal, are_not_equal}
use Rattle.flat_code.proofs.Routines.Showing.{shows_both}
use Rattle.flat_actions.specs.Ranges.{IsObjectRange, IsToFill, HasFilled, IsFillRoutine}
use Rattle.lib_wrappers.specs.MovingRoutines.Filling.{fill_places, fill_body, fill_code}
use Rattle.lib_wrappers.proofs.MovingRoutines.Steps.{both_quiet, quiet_weaken, until_does, IsGlued, glued, named}
use Rattle.lib_wrappers.proofs.MovingRoutines.Bytes.{in_runtime, byte_stored, byte_beside}

-- k of n bytes from an address on are left to be filled with b, since a state
record Filling (map : MapSizes) (byte a n b t : ℕ) (s : State) (k : ℕ) (y : State) : Type 0 where
  done : ℕ
  count : done + k ≡ n
  cursor_is : y.values (t + 1) ≡ a + done
  end_is : y.values t ≡ a + n
  byte_is : y.values byte ≡ b
  range : IsObjectRange map a n
  filled : (i : ℕ) → i < done → y.memory (a + i) ≡ b % 256
  beside : (x : ℕ) → Beside a n x → y.memory x ≡ s.memory x
  shows : ShowsNothing s y
  others : OthersStay [] t s y

module _ (map : MapSizes) (ok : IsLaidOut map) (to byte bytes t charge weight : ℕ)
    (below : AreBelow t (to ∷ byte ∷ bytes ∷ [])) where
  abbrev c : Context
  c = in_runtime map charge weight

  -- ---- one byte, over registers of its own: 0 the byte, 1 the cursor
  abbrev IsFilledOne : State → State → Type 0
  IsFilledOne = IsGlued c (byte ∷ []) (t + 1) 1 (fill_body 0 1)

  module _ (a n b : ℕ) (s : State) where
    abbrev I : ℕ → State → Type 0
    I = Filling map byte a n b t s

    allowed : (k : ℕ) (y : State) → I (suc k) y → AreAllowed c (fill_body 0 1) (through (named (byte ∷ []) (t + 1) 1) y)
    allowed k y w =
        let small = ok.small in
        let lo = w.range.first in let hi = w.range.last in
        let count = w.count in let at = w.cursor_is in (
          object_allowed map ((y.values (t + 1) + 0) % 2 ^ 64) (a + w.done) 1 (omega arith) (omega arith) (omega arith),
          (tt, tt),
        )

    filled : (k : ℕ) (y z : State) → I (suc k) y → IsFilledOne y z → I k z
    unfolding put reg_result
    filled k y z w g =
        let small = ok.small in
        let lo = w.range.first in let hi = w.range.last in
        let count = w.count in let at = w.cursor_is in
        let d = w.done in
        let place : (y.values (t + 1) + 0) % 2 ^ 64 ≡ a + d = omega arith in
        let same : z.memory ≡ store 1 y.memory (a + d) (y.values byte) =
        ap (λ x. x.memory) g.rest ∙ ap (λ p. store 1 y.memory p (y.values byte)) place in
        record {
          done = suc d;
          count = omega arith;
          cursor_is = sym (g.values 1 (omega arith)) ∙ omega arith;
          end_is = g.others t (omega arith) tt ∙ w.end_is;
          byte_is = g.others byte (let l = below.1.0 in omega arith) tt ∙ w.byte_is;
          range = w.range;
          filled = λ i l. ap (λ m. m (a + i)) same ∙ ⊎_elim
              (λ (e : i ≡ d). ap (λ j. store 1 y.memory (a + d) (y.values byte) (a + j)) e
              ∙ byte_stored y.memory (a + d) (y.values byte) ∙ ap (λ v. v % 256) w.byte_is)
              (λ (ne : i ≢ d). byte_beside y.memory (a + d) (y.values byte) (a + i) (λ e. ne (omega (arith, e)))
              ∙ w.filled i (omega (arith, ne)))
              (cases_eq i d);
          beside = λ x out. ap (λ m. m x) same
              ∙ byte_beside y.memory (a + d) (y.values byte) x
              (λ e. ⊎_elim (λ l. omega (arith, e)) (λ l. omega (arith, e)) out)
              ∙ w.beside x out;
          shows = shows_both s y z w.shows (record {
            input = ap (λ x. x.input) g.rest;
            output = ap (λ x. x.output) g.rest;
            taken = ap (λ x. x.taken) g.rest;
            accesses = ap (λ x. x.accesses) g.rest;
            turns = ap (λ x. x.turns) g.rest;
          });
          others = λ x l none. g.others x (omega arith) none ∙ w.others x l none;
        }

    one_filled : (k : ℕ) → Does c (fill_body byte (t + 1)) (I (suc k)) (λ y. 2) (λ y. Either (I k) Never)
    one_filled k =
        quiet_weaken c (fill_body byte (t + 1)) 2 2 (I (suc k)) (I (suc k)) IsFilledOne (λ y. I k) (omega arith)
        (λ y w. w) (λ y z w g. filled k y z w g)
        (glued c (byte ∷ []) (t + 1) 1 (fill_body 0 1) (I (suc k)) (let l = below.1.0 in omega arith, tt) refl
        (λ y words w. allowed k y w))

    all_filled : Does c (until_code Beq (t + 1) (Register t) (fill_body byte (t + 1))) (I n) (λ y. n * 4 + 1)
        (λ y. Either (I 0) Never)
    all_filled =
        until_does c Beq (t + 1) (Register t) (fill_body byte (t + 1)) 2 I one_filled worked_on
        (λ y w. are_equal (y.values (t + 1)) (y.values t)
        (let count = w.count in let at = w.cursor_is in let end = w.end_is in omega arith))
        (λ k y words w. are_not_equal (y.values (t + 1)) (y.values t)
        (λ e. let count = w.count in let at = w.cursor_is in let end = w.end_is in omega arith)) n
      where
        worked_on : (k : ℕ) (y : State) → I k y → I k (worked c y)
        worked_on k y w = record {
          done = w.done;
          count = w.count;
          cursor_is = w.cursor_is;
          end_is = w.end_is;
          byte_is = w.byte_is;
          range = w.range;
          filled = w.filled;
          beside = w.beside;
          shows = record {
            input = w.shows.input;
            output = w.shows.output;
            taken = w.shows.taken;
            accesses = w.shows.accesses;
            turns = w.shows.turns;
          };
          others = w.others;
        }

  -- ---- all of them, over registers of their own: 0 where to, 1 how many, 2 the end, 3 the cursor
  abbrev IsPlaced : State → State → Type 0
  IsPlaced = IsGlued c (to ∷ bytes ∷ []) t 2 (fill_places 0 1 3 2)

  module _ (n : ℕ) where
    abbrev Since : State → ℕ → State → Type 0
    Since s = Filling map byte (s.values to) n (s.values byte) t s

    placed : (s y : State) → IsToFill map to bytes n s → IsPlaced s y → Since s n y
    unfolding put reg_result
    placed s y p g =
        let small = ok.small in
        let hi = p.to_range.last in let size = p.size_is in
        record {
          done = 0;
          count = omega arith;
          cursor_is = sym (g.values 3 (omega arith)) ∙ omega arith;
          end_is = sym (g.values 2 (omega arith)) ∙ omega arith;
          byte_is = g.others byte below.1.0 tt;
          range = p.to_range;
          filled = λ i l. absurd (omega arith);
          beside = λ x out. ap (λ z. z.memory x) g.rest;
          shows = record {
            input = ap (λ x. x.input) g.rest;
            output = ap (λ x. x.output) g.rest;
            taken = ap (λ x. x.taken) g.rest;
            accesses = ap (λ x. x.accesses) g.rest;
            turns = ap (λ x. x.turns) g.rest;
          };
          others = g.others;
        }

    left : (s y : State) → Since s 0 y → HasFilled to byte n t s y
    left s y w = record {
      there = λ i l. w.filled i (let count = w.count in omega arith);
      beside = w.beside;
      shows = w.shows;
      others = w.others;
    }

    pub range_fills : Does c (fill_code to byte bytes (t + 1) t) (IsToFill map to bytes n) (λ s. 8 + 5 * n)
        (λ s. Either (HasFilled to byte n t s) Never)
    range_fills =
        quiet_weaken c (fill_code to byte bytes (t + 1) t) (2 + (n * 4 + 1)) (8 + 5 * n) (IsToFill map to bytes n)
        (IsToFill map to bytes n) (HasFilled to byte n t) (HasFilled to byte n t) (omega arith) (λ s p. p)
        (λ s y p h. h)
        (both_quiet c (fill_places to bytes (t + 1) t)
        (until_code Beq (t + 1) (Register t) (fill_body byte (t + 1))) 2 (n * 4 + 1) (IsToFill map to bytes n)
        IsPlaced (λ s. Since s n) (λ s y. Since s 0) (HasFilled to byte n t)
        (glued c (to ∷ bytes ∷ []) t 2 (fill_places 0 1 3 2) (IsToFill map to bytes n) (below.0, (below.1.1.0, tt))
        refl (λ s w p. (tt, (tt, tt))))
        (λ s. all_filled (s.values to) n (s.values byte) s) placed (λ s y z p g w. left s z w))

pub fills : (map : MapSizes) (to byte bytes t : ℕ) → IsLaidOut map → AreBelow t (to ∷ byte ∷ bytes ∷ [])
    → IsFillRoutine map to byte bytes t (fill_code to byte bytes (t + 1) t)
fills map to byte bytes t ok below n charge weight = range_fills map ok to byte bytes t charge weight below n
