-- Nodes from which all paths come to instructions of integers alone.
use Rattle.std.proofs.Common.{◌≡◌, ◌⊎◌, ⊎_elim, ℕ, zero, suc, Bool, true, List, Some, sym}
use Rattle.std.proofs.Common.{subst}
use Rattle.std.specs.Prelude.{slice_get}
use Rattle.tac_ir.specs.declared.instruction.Instruction.{Instruction}
use Rattle.tac_ir.specs.Edges.{LeadsTo}
use Rattle.metadata_plan.specs.Part.{SafeWithin}

module _ (ok : Instruction → Bool) (code : List Instruction) where
  pub fewer : (k n : ℕ) → SafeWithin ok code (suc k) n → SafeWithin ok code k n
  unfolding SafeWithin
  fewer zero n s = tt
  fewer (suc k) n s = (s.0, s.1, s.2, λ m l. fewer k m (s.3 m l))

  -- what a step leads to may be safe for one step fewer
  pub stepped : (i : Instruction) (k n : ℕ) → slice_get code n ≡ Some i → ok i ≡ true
      → ((m : ℕ) → LeadsTo i m → SafeWithin ok code k m) → SafeWithin ok code (suc k) n
  unfolding SafeWithin
  stepped i k n holds good on = (i, holds, good, on)

  pub nothing_yet : (n : ℕ) → SafeWithin ok code zero n
  unfolding SafeWithin
  nothing_yet n = tt

  -- an instruction with one successor
  pub along : (i : Instruction) (k n m : ℕ) → slice_get code n ≡ Some i → ok i ≡ true
      → ((x : ℕ) → LeadsTo i x → (x ≡ m) ⊎ ⊥) → SafeWithin ok code k m → SafeWithin ok code k n
  along i zero n m holds good one h = nothing_yet n
  along i (suc k) n m holds good one h =
      stepped i k n holds good
      (λ x l. ⊎_elim (λ e. subst (SafeWithin ok code k) (sym e) (fewer k m h)) (λ e. absurd e) (one x l))

  -- and with two
  pub either : (i : Instruction) (k n a b : ℕ) → slice_get code n ≡ Some i → ok i ≡ true
      → ((x : ℕ) → LeadsTo i x → (x ≡ a) ⊎ ((x ≡ b) ⊎ ⊥)) → SafeWithin ok code k a → SafeWithin ok code k b
      → SafeWithin ok code k n
  either i zero n a b holds good two h h' = nothing_yet n
  either i (suc k) n a b holds good two h h' =
      stepped i k n holds good
      (λ x l. ⊎_elim (λ e. subst (SafeWithin ok code k) (sym e) (fewer k a h))
      (λ r. ⊎_elim (λ e. subst (SafeWithin ok code k) (sym e) (fewer k b h')) (λ e. absurd e) r) (two x l))
