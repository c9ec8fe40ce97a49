-- Blocks that are laid are of instructions that the machine has, where each is.
use Rattle.std.proofs.Common.{◌≡◌, ℕ, zero, suc, ◌+◌, ◌-◌, Bool, true, false, ◌==◌, nat_lt, List, [], ◌∷◌, ◌++◌, length}
use Rattle.std.proofs.Common.{Some, refl, subst}
use Rattle.std.specs.Prelude.{if◌then◌else◌, slice_get}
use Rattle.std.proofs.lemmas.Option.{same_Some, none-some}
use Rattle.tac_ir.specs.declared.instruction.Instruction.{Instruction}
use Rattle.tac_ir.specs.declared.function.CodeFunction.{CodeFunction}
use Rattle.tac_ir.specs.Edges.{successors}
use Rattle.flat_code.specs.declared.instruction.FlatInstruction.{FlatInstruction}
use Rattle.flat_code.specs.declared.instruction.FlatInstruction.TheVariants as flat
use Rattle.metadata_plan.specs.Laid.{jump, jumps, jump_unless, falls, place_of, laid_from, begin_code, body_of}
use Rattle.image_laws.specs.Encoding.Fitting.{IsFit, AreFit}
use Rattle.image_laws.proofs.Encoding.Parts.{fit_append, fit_if}

pub fit_at : (is : List FlatInstruction) (k : ℕ) (i : FlatInstruction) → AreFit is → slice_get is k ≡ Some i → IsFit i
fit_at [] k i a e = absurd (none-some i e)
fit_at (x ∷ is) zero i a e = subst IsFit (same_Some x i e) a.0
fit_at (x ∷ is) (suc k) i a e = fit_at is k i a.1 e

jump_fit : (p q : ℕ) → AreFit (jump p q ∷ [])
jump_fit p q = by (nat_lt p q)
  where
    by : (b : Bool) → AreFit ((if b then flat.JumpForward (q - (p + 1)) else flat.JumpBack (p - q)) ∷ [])
    by true = (tt, tt)
    by false = (tt, tt)

jumps_fit : (c : CodeFunction) (address : ℕ → ℕ) (n pc : ℕ) (ns : List ℕ) → AreFit (jumps c address n pc ns)
jumps_fit c address n pc [] = tt
jumps_fit c address n pc (x ∷ []) = fit_if (falls c n x) [] (jump pc (address x) ∷ []) tt (jump_fit pc (address x))
jumps_fit c address n pc (x ∷ y ∷ ns) =
    fit_append (jump pc (address y) ∷ []) (jump_unless (falls c n x) (pc + 1) (address x)) (jump_fit pc (address y))
    (fit_if (falls c n x) [] (jump (pc + 1) (address x) ∷ []) tt (jump_fit (pc + 1) (address x)))

module _ (put : Instruction → List FlatInstruction) (begin : List FlatInstruction) (c : CodeFunction) where
  laid_fit : (n : ℕ) (is : List Instruction)
      → ((k : ℕ) (i : Instruction) → slice_get is k ≡ Some i → AreFit (put i)) → AreFit (laid_from put begin c n is)
  laid_fit n [] each = tt
  laid_fit n (i ∷ is) each =
      let b = put i in
      let place = place_of put begin c in
      let js = jumps c place n (place n + length b) (successors i) in
      fit_append (laid_from put begin c (suc n) is) (b ++ js) (laid_fit (suc n) is (λ k. each (suc k)))
      (fit_append b js (each 0 i refl) (jumps_fit c place n (place n + length b) (successors i)))

  pub laid_body_fit : AreFit begin → ((k : ℕ) (i : Instruction) → slice_get c.code k ≡ Some i → AreFit (put i))
      → AreFit (body_of put begin c)
  laid_body_fit fit each =
      let to = jump (length begin) (place_of put begin c c.entry) ∷ [] in
      fit_append (begin_code put begin c) (laid_from put begin c 0 c.code)
      (fit_append begin (if c.entry + 1 == length c.code then [] else to) fit
      (fit_if (c.entry + 1 == length c.code) [] to tt (jump_fit (length begin) (place_of put begin c c.entry))))
      (laid_fit 0 c.code each)
