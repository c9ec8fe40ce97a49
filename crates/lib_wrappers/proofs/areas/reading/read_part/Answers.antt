use Rattle.std.proofs.Common.{◌≡◌, sym, subst}
use Rattle.std.specs.Prelude.{IfOk}
use Rattle.lib_wrappers.specs.AreaRoutines.Reading.{IsReadPartRoutine, read_part_code}
use Rattle.lib_wrappers.proofs.areas.reading.read_part.Goals as goal

pub returns-in-Integer-clause-code : goal.returns-in-Integer-clause-code
returns-in-Integer-clause-code c =
    let a = c.args in
    subst (λ h. IfOk c.read_integer.result (λ r. r.items ≡ read_part_code a.part h a.scratch)) (sym c.in-Integer.is)
    c.read_integer.ensures.code

pub returns-in-Integer-clause-does : goal.returns-in-Integer-clause-does
returns-in-Integer-clause-does c =
    let a = c.args in
    subst (λ h. IfOk c.read_integer.result (λ r. IsReadPartRoutine a.part h a.scratch r.items)) (sym c.in-Integer.is)
    c.read_integer.ensures.does

pub returns-in-Pointer-clause-code : goal.returns-in-Pointer-clause-code
returns-in-Pointer-clause-code c =
    let a = c.args in
    subst (λ h. IfOk c.read_pointer.result (λ r. r.items ≡ read_part_code a.part h a.scratch)) (sym c.in-Pointer.is)
    c.read_pointer.ensures.code

pub returns-in-Pointer-clause-does : goal.returns-in-Pointer-clause-does
returns-in-Pointer-clause-does c =
    let a = c.args in
    subst (λ h. IfOk c.read_pointer.result (λ r. IsReadPartRoutine a.part h a.scratch r.items)) (sym c.in-Pointer.is)
    c.read_pointer.ensures.does
