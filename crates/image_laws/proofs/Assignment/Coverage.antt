-- Covered instructions are ones whose blocks assign what they read.
use Rattle.std.proofs.Common.{◌≡◌, ℕ, refl, true, Option, Some, None}
use Rattle.std.proofs.lemmas.Bool.{false≢true}
use Rattle.obj_memory.specs.declared.value.Scalar.{Scalar}
use Rattle.source_meaning.specs.Good.{plain_type}
use Rattle.tac_ir.specs.declared.instruction.Instruction.{Instruction}
use Rattle.tac_ir.specs.declared.instruction.Instruction.TheVariants as tac
use Rattle.tac_ir.specs.declared.function.CodeFunction.{CodeFunction}
use Rattle.metadata_plan.specs.Registers.{all_variables}
use Rattle.metadata_relation.specs.Stages.{Compiled}
use Rattle.metadata_relation.specs.Steps.{covers, admits, is_scalar_type}
use Rattle.image_laws.specs.Plans.Instructions.{is_plain, assigns_alone, hands_over}

plain : (o : Option Scalar) → is_scalar_type o ≡ true → is_plain o ≡ true
plain None e = absurd (false≢true e)
plain (Some k) e = refl

pub covered_assigns : (x : Compiled) (c : CodeFunction) (u n : ℕ) (i : Instruction) → covers c i ≡ true
    → admits x u n i ≡ true → hands_over x.layout.expansion.code c i ≡ true
    → assigns_alone x.layout.expansion.code c i ≡ true
covered_assigns x c u n (tac.GetPlain d y m) covered admitted handed = plain (plain_type (all_variables c) y) covered
covered_assigns x c u n (tac.UpdatePlain w k f line d y right m) covered admitted handed = handed
covered_assigns x c u n (tac.Update w k f mode line at key d a right m) covered admitted handed = handed
covered_assigns x c u n (tac.Library r line d k m) covered admitted handed = handed
covered_assigns x c u n (tac.Print y line d k m) covered admitted handed = handed
covered_assigns x c u n _ covered admitted handed = refl
