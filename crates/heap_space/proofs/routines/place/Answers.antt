use Rattle.std.proofs.Common.{sym, subst, ◌+◌, refl}
use Rattle.std.proofs.lemmas.Result.{IfOk-weaker}
use Rattle.heap_space.specs.Routines.{IsPlaceRoutine}
use Rattle.heap_space.proofs.Places.{place_does}
use Rattle.flat_code.specs.Routines.InputOutput.{IsWithoutInputOutput}
use Rattle.flat_code.proofs.Routines.InputOutput.{computes}
use Rattle.flat_code.specs.Routines.Shape.{HasShape}
use Rattle.heap_space.proofs.Shapes.{place_shape}
use Rattle.heap_space.specs.Routines.{place_code}
use Rattle.heap_space.proofs.routines.place.Goals as goal

pub returns-clause-does : goal.returns-clause-does
returns-clause-does c = IfOk-weaker _ _ _
    (λ r e. subst (IsPlaceRoutine c.args.map.now c.args.size c.args.key c.args.into c.args.scratch) (sym e)
    (place_does c.args.map.now c.args.size c.args.key c.args.into c.args.scratch c.requires.map c.requires.apart
    c.requires.below c.requires.results))
    c.place_instructions.ensures

pub returns-clause-computes : goal.returns-clause-computes
returns-clause-computes c = IfOk-weaker _ _ _
    (λ r e. subst IsWithoutInputOutput (sym e) (computes (place_code c.args.map.now c.args.size c.args.key c.args.into c.args.scratch (c.args.scratch + 1) (c.args.scratch + 2) (c.args.scratch + 3) (c.args.scratch + 4) (c.args.scratch + 5) (c.args.scratch + 6) (c.args.scratch + 7)) refl)) c.place_instructions.ensures

pub returns-clause-shape : goal.returns-clause-shape
returns-clause-shape c = IfOk-weaker _ _ _
    (λ r e. subst (λ l. HasShape l 64 (c.args.scratch + 8)) (sym e) (place_shape c.args.map.now c.requires.map c.args.size c.args.key c.args.into c.args.scratch c.requires.below c.requires.results)) c.place_instructions.ensures
