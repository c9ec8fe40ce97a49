use Rattle.std.proofs.Common.{sym, subst, refl}
use Rattle.std.proofs.lemmas.Result.{IfOk-weaker}
use Rattle.flat_code.proofs.Routines.InputOutput.{computes}
use Rattle.lib_wrappers.specs.AreaRoutines.Zeroing.{IsZeroAreaRoutine, zero_area_code}
use Rattle.lib_wrappers.proofs.AreaRoutines.ZeroAreas.{zeros_areas}
use Rattle.flat_code.proofs.Routines.Shape.{same_shape}
use Rattle.lib_wrappers.proofs.Quiet.{same_quiet}
use Rattle.lib_wrappers.proofs.AreaRoutines.Shapes.{zero_area_shape}
use Rattle.lib_wrappers.proofs.areas.zeroing.zero_area.Goals as goal

pub returns-clause-does : goal.returns-clause-does
returns-clause-does c = IfOk-weaker _ _ _
    (λ r e. subst (IsZeroAreaRoutine c.args.map.now c.args.at c.args.bytes c.args.scratch) (sym e)
    (zeros_areas c.args.map.now c.requires.map c.args.at c.args.bytes c.args.scratch c.requires.below))
    c.zero_area_instructions.ensures

pub returns-clause-computes : goal.returns-clause-computes
returns-clause-computes c = IfOk-weaker _ _ _
    (λ r e. same_quiet e (computes (zero_area_code c.args.at c.args.bytes c.args.scratch) refl))
    c.zero_area_instructions.ensures

pub returns-clause-shape : goal.returns-clause-shape
returns-clause-shape c = IfOk-weaker _ _ _
    (λ r e. same_shape e (zero_area_shape c.args.at c.args.bytes c.args.scratch c.requires.below))
    c.zero_area_instructions.ensures
