-- Differences of pointers in elements of a size of 33 bits.
use Rattle.std.proofs.Common.{◌≡◌, inl, ℕ, ◌^◌, ◌<◌, ◌≤◌, List, refl, sym, ap, ap₂, subst}
use Rattle.std.proofs.Common.{arith, Some}
use Rattle.std.specs.Prelude.{slice_get, ◌==◌, ◌||◌}
use Rattle.std.proofs.lemmas.Bool.{eq-eqb}
use Rattle.source_meaning.specs.State.{State}
use Rattle.tac_ir.specs.declared.instruction.Instruction.TheVariants as tac
use Rattle.tac_ir.specs.Stage.{Temps, with_temp, Frame, Stands}
use Rattle.tac_ir.specs.Costs.{spent}
use Rattle.tac_ir.specs.Meaning.{effect}
use Rattle.source_meaning.specs.Actions.{integer}
use Rattle.source_meaning.specs.Structures.{rvalue}
use Rattle.flat_code.specs.Memory.{Bytes}
use Rattle.flat_code.specs.State as flat
use Rattle.flat_code.specs.Calls.{function_in}
use Rattle.flat_code.specs.Meaning.{body_of, context}
use Rattle.flat_code.specs.Words.{IsOfWords}
use Rattle.flat_operators.specs.Pointers.{elements_between}
use Rattle.flat_operators.specs.Results.{Anywhere, AreOperands, IsResult}
use Rattle.flat_code.specs.Routines.Routine.{Does}
use Rattle.flat_code.proofs.Routines.Steps.{has_front}
use Rattle.metadata_plan.specs.Registers.{most_temporaries}
use Rattle.metadata_relation.specs.Registers.{temporary_register, first_free}
use Rattle.metadata_relation.specs.Blocks.{untagged}
use Rattle.metadata_relation.specs.Stages.{Compiled, map_of, expansion_of, IsAt}
use Rattle.metadata_relation.specs.Steps.{IsCompiled}
use Rattle.metadata_relation.proofs.Inline.{inline_computes}
use Rattle.metadata_relation.proofs.Registers.{temporary_free}
use Rattle.metadata_relation.proofs.Simple.{or_true, position, taken, computes_integer}
use Rattle.metadata_relation.proofs.Standing.{node, Result}

module _ (c : Compiled) (IsGood : Bytes → Type 0) (right : IsCompiled c IsGood) (u n : ℕ) (temps : Temps)
    (ws : List Frame) (s : State) (v : flat.State) (xs : List flat.Frame)
    (h : IsAt c IsGood u n temps ws s u (c.layout.address u n) v xs) (words : IsOfWords v) where
  -- by a list of at most five steps: with an entry to clear that is within one unit
  difference_within : (size d a b next most : ℕ) → most ≤ 5
      → slice_get h.code.code n ≡ Some (tac.Difference size d a b next)
      → (AreOperands (temporary_register h.code d) (temporary_register h.code a) (temporary_register h.code b)
      (first_free h.code)
      → Does (context (map_of c) c.layout.program u xs) (c.layout.expansion.inline.difference size
      (temporary_register h.code d) (temporary_register h.code a) (temporary_register h.code b) (first_free h.code))
      Anywhere (λ z. most)
      (λ z. IsResult (Some (elements_between size (z.values (temporary_register h.code a))
      (z.values (temporary_register h.code b)))) 1 (temporary_register h.code d) (first_free h.code) z))
      → Result c IsGood (effect c.setting (expansion_of c).code (tac.Difference size d a b next) u temps ws (spent 1 s))
      (flat.Stands u (c.layout.address u n) v xs)
  difference_within size d a b next most few at does =
      let i = tac.Difference size d a b next in
      let k = node c IsGood right u n temps ws s v xs h i at in
      let low : d < most_temporaries h.code.code = omega (arith, k.temporaries_low) in
      let left : a < most_temporaries h.code.code = omega (arith, k.temporaries_low) in
      let other : b < most_temporaries h.code.code = omega (arith, k.temporaries_low) in
      let free = first_free h.code in
      let td = temporary_register h.code d in
      let ta = temporary_register h.code a in
      let tb = temporary_register h.code b in
      let list = c.layout.expansion.inline.difference size td ta tb free in
      let here = position c IsGood right u n temps ws s v xs h words in
      let value = elements_between size (v.values ta) (v.values tb) in
      let made = inline_computes (map_of c) c.layout.program here list 1 td free most
      (λ z. elements_between size (z.values ta) (z.values tb)) (right.inline.computes.difference size td ta tb free)
      (does (record {
        into_below = (let r = temporary_free h.code d low in omega (arith, r));
        left_below = (let r = temporary_free h.code a left in omega (arith, r));
        right_below = (let r = temporary_free h.code b other in omega (arith, r));
      }))
      (record {
        has = has_front (body_of (function_in c.layout.program u)) (c.layout.address u n) list
            (untagged (c.layout.expansion.entries u next d) td) k.put.has;
        words = words;
      }) in
      subst (λ z. Result c IsGood (Stands u next (with_temp temps d (rvalue (integer z))) ws (spent 1 s))
      (flat.Stands u (c.layout.address u n) v xs))
      (sym (ap₂ (elements_between size)
      (taken c IsGood right u n temps ws s v xs h words i k a (ap (λ z. z || (a == b)) (eq-eqb a a refl)) left)
      (taken c IsGood right u n temps ws s v xs h words i k b (or_true (b == a) (b == b) (eq-eqb b b refl)) other)))
      (computes_integer c IsGood right u n temps ws s v xs h words i k d next value most list refl (inl refl) low k.put.has
      k.put.leads made (omega (arith, few)))

  pub difference_step : (size d a b next : ℕ) → 1 ≤ size → size < 2 ^ 33
      → slice_get h.code.code n ≡ Some (tac.Difference size d a b next)
      → Result c IsGood (effect c.setting (expansion_of c).code (tac.Difference size d a b next) u temps ws (spent 1 s))
      (flat.Stands u (c.layout.address u n) v xs)
  difference_step size d a b next some few at =
      difference_within size d a b next 5 (omega arith) at
      (λ operands. right.inline.few_difference (context (map_of c) c.layout.program u xs) 1 size
      (temporary_register h.code d) (temporary_register h.code a) (temporary_register h.code b) (first_free h.code) some
      few operands)
