use Rattle.std.proofs.Common.{sym, subst}
use Rattle.lib_wrappers.proofs.Shapes.{number_shape}
use Rattle.flat_code.proofs.Routines.Shape.{same_shape}
use Rattle.std.proofs.lemmas.Result.{IfOk-weaker}
use Rattle.lib_wrappers.specs.PrintingRoutines.Numbers.{IsNumberRoutine}
use Rattle.lib_wrappers.proofs.PrintingRoutines.NumberRoutines.{number_prints}
use Rattle.lib_wrappers.proofs.printing.numbers.number.Goals as goal

pub returns-clause-does : goal.returns-clause-does
returns-clause-does c =
    let a = c.args in
    IfOk-weaker _ _ _
    (λ r e. subst (IsNumberRoutine a.map.now a.directive a.value a.count a.scratch) (sym e)
    (number_prints a.map.now a.directive a.value a.count a.scratch c.requires.value c.requires.count c.requires.apart))
    c.number_instructions.ensures

pub returns-clause-shape : goal.returns-clause-shape
returns-clause-shape c =
    let a = c.args in
    IfOk-weaker _ _ _ (λ r e. same_shape e (number_shape a.value a.count a.scratch c.requires.value c.requires.count a.directive)) c.number_instructions.ensures
