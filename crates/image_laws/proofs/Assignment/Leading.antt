-- Where instructions lead that stand in code behind other code.
use Rattle.std.proofs.Common.{◌≡◌, inl, inr, ℕ, suc, ◌+◌, ◌-◌, ◌≤◌, refl, arith}
use Rattle.std.proofs.Common.{Some}
use Rattle.std.proofs.lemmas.Option.{same_Some, none-some}
use Rattle.flat_code.specs.declared.instruction.FlatInstruction.{FlatInstruction}
use Rattle.flat_code.specs.declared.instruction.FlatInstruction.TheVariants.{Constant, Move, Operate, Operate32}
use Rattle.flat_code.specs.declared.instruction.FlatInstruction.TheVariants.{Load, Store, Branch, JumpForward}
use Rattle.flat_code.specs.declared.instruction.FlatInstruction.TheVariants.{JumpBack, Turn, Call, CallAddress}
use Rattle.flat_code.specs.declared.instruction.FlatInstruction.TheVariants.{Return, Get, Put, Exit, End, Charged}
use Rattle.reg_plan.specs.Effects.{Leads}
use Rattle.image_laws.specs.Plans.Assignment.{StaysWithin}

-- an instruction at a place of code that stands behind so many others: where it leads as a place of that code
pub record LeadsFrom (i : FlatInstruction) (first pc q end : ℕ) : Type 0 where
  pub to : ℕ
  pub is : q ≡ first + to
  pub leads : Leads i pc to
  pub within : to ≤ end

next : (i : FlatInstruction) (a pc q e : ℕ) → Leads i pc (pc + 1) → suc pc ≤ e → Some (a + pc + 1) ≡ Some q
    → LeadsFrom i a pc q e
next i a pc q e l le s =
    let same = same_Some (a + pc + 1) q s in
    record { to = pc + 1; is = omega arith; leads = l; within = omega arith }

pub leads_from : (i : FlatInstruction) (a pc q e : ℕ) → StaysWithin e pc i → suc pc ≤ e → Leads i (a + pc) q
    → LeadsFrom i a pc q e
leads_from (Branch op y z past) a pc q e stays le (inl s) = next (Branch op y z past) a pc q e (inl refl) le s
leads_from (Branch op y z past) a pc q e stays le (inr s) =
    let same = same_Some (a + pc + 1 + past) q s in
    record { to = pc + 1 + past; is = omega arith; leads = inr refl; within = stays }
leads_from (JumpForward past) a pc q e stays le (inl s) =
    let same = same_Some (a + pc + 1 + past) q s in
    record { to = pc + 1 + past; is = omega arith; leads = inl refl; within = stays }
leads_from (JumpBack back) a pc q e stays le (inl s) =
    let same = same_Some (a + pc - back) q s in
    record { to = pc - back; is = omega arith; leads = inl refl; within = omega arith }
leads_from (Return y) a pc q e stays le (inl s) = absurd (none-some q s)
leads_from (Exit x) a pc q e stays le (inl s) = absurd (none-some q s)
leads_from (End x) a pc q e stays le (inl s) = absurd (none-some q s)
leads_from (Constant x n) a pc q e stays le (inl s) = next (Constant x n) a pc q e (inl refl) le s
leads_from (Move x y) a pc q e stays le (inl s) = next (Move x y) a pc q e (inl refl) le s
leads_from (Operate op x y z) a pc q e stays le (inl s) = next (Operate op x y z) a pc q e (inl refl) le s
leads_from (Operate32 op x y z) a pc q e stays le (inl s) = next (Operate32 op x y z) a pc q e (inl refl) le s
leads_from (Load op x y offset) a pc q e stays le (inl s) = next (Load op x y offset) a pc q e (inl refl) le s
leads_from (Store op y offset x) a pc q e stays le (inl s) = next (Store op y offset x) a pc q e (inl refl) le s
leads_from Turn a pc q e stays le (inl s) = next Turn a pc q e (inl refl) le s
leads_from (Call g first x) a pc q e stays le (inl s) = next (Call g first x) a pc q e (inl refl) le s
leads_from (CallAddress y first n x r) a pc q e stays le (inl s) =
    next (CallAddress y first n x r) a pc q e (inl refl) le s
leads_from (Get x) a pc q e stays le (inl s) = next (Get x) a pc q e (inl refl) le s
leads_from (Put x) a pc q e stays le (inl s) = next (Put x) a pc q e (inl refl) le s
leads_from (Charged x) a pc q e stays le (inl s) = next (Charged x) a pc q e (inl refl) le s
leads_from i a pc q e stays le (inr s) = absurd (none-some q s)
