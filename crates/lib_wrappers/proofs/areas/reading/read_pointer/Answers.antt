use Rattle.std.proofs.Common.{sym, subst}
use Rattle.std.proofs.lemmas.Result.{IfOk-weaker}
use Rattle.lib_wrappers.specs.declared.accesses.held.HeldScalar.TheVariants.{Pointer}
use Rattle.lib_wrappers.specs.AreaRoutines.Reading.{IsReadPartRoutine}
use Rattle.lib_wrappers.proofs.AreaRoutines.ReadParts.{pointers_read}
use Rattle.lib_wrappers.proofs.areas.reading.read_pointer.Goals as goal

pub returns-clause-does : goal.returns-clause-does
returns-clause-does c =
    let a = c.args in
    IfOk-weaker _ _ _
    (λ r e. subst (IsReadPartRoutine a.part (Pointer a.into) a.scratch) (sym e)
    (pointers_read a.part a.into a.scratch c.requires.below c.requires.into_below c.requires.distinct))
    c.pointer_instructions.ensures
