use Rattle.std.proofs.Common.{sym, subst, ◌+◌, refl}
use Rattle.std.proofs.lemmas.Result.{IfOk-weaker}
use Rattle.heap_space.specs.Routines.{IsFindRoutine}
use Rattle.heap_space.proofs.Finding.{find_does}
use Rattle.flat_code.specs.Routines.InputOutput.{IsWithoutInputOutput}
use Rattle.flat_code.proofs.Routines.InputOutput.{computes}
use Rattle.flat_code.specs.Routines.Shape.{HasShape}
use Rattle.heap_space.proofs.Shapes.{find_shape}
use Rattle.heap_space.specs.Routines.{find_code}
use Rattle.heap_space.proofs.routines.find.Goals as goal

pub returns-clause-does : goal.returns-clause-does
returns-clause-does c = IfOk-weaker _ _ _
    (λ r e. subst (IsFindRoutine c.args.map.now c.args.start c.args.key c.args.size c.args.found c.args.scratch)
    (sym e)
    (find_does c.args.map.now c.args.start c.args.key c.args.size c.args.found c.args.scratch c.requires.map
    c.requires.apart c.requires.distinct c.requires.below c.requires.results))
    c.find_instructions.ensures

pub returns-clause-computes : goal.returns-clause-computes
returns-clause-computes c = IfOk-weaker _ _ _
    (λ r e. subst IsWithoutInputOutput (sym e) (computes (find_code c.args.map.now c.args.start c.args.key c.args.size c.args.found c.args.scratch (c.args.scratch + 1) (c.args.scratch + 2)) refl)) c.find_instructions.ensures

pub returns-clause-shape : goal.returns-clause-shape
returns-clause-shape c = IfOk-weaker _ _ _
    (λ r e. subst (λ l. HasShape l 16 (c.args.scratch + 3)) (sym e) (find_shape c.args.map.now c.requires.map c.args.start c.args.key c.args.size c.args.found c.args.scratch c.requires.below c.requires.results)) c.find_instructions.ensures
