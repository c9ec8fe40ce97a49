use Rattle.std.proofs.Common.{sym, subst}
use Rattle.std.proofs.lemmas.Result.{IfOk-weaker}
use Rattle.lib_wrappers.specs.declared.accesses.held.HeldScalar.TheVariants.{Integer}
use Rattle.lib_wrappers.specs.AreaRoutines.Reading.{IsReadPartRoutine}
use Rattle.lib_wrappers.proofs.AreaRoutines.ReadParts.{integers_read}
use Rattle.lib_wrappers.proofs.areas.reading.read_integer.Goals as goal

pub returns-clause-does : goal.returns-clause-does
returns-clause-does c =
    let a = c.args in
    IfOk-weaker _ _ _
    (λ r e. subst (IsReadPartRoutine a.part (Integer a.of a.into) a.scratch) (sym e)
    (integers_read a.of a.into a.part a.scratch))
    c.integer_instructions.ensures
