use Rattle.std.proofs.Common.{refl, sym, ◌∙◌, length}
use Rattle.std.proofs.lemmas.Option.{slice_get_read}
use Rattle.flat_propagation.proofs.Bodies.{marked, all_marked}
use Rattle.flat_propagation.proofs.targets.targets_of.Goals as goal

pub loop-place-preserved : goal.loop-place-preserved
loop-place-preserved c =
    let body = c.args.body.now in
    let k = c.loop-place.place in
    let i = c.index-body-place.result in
    let at = slice_get_read body (length body) k i refl c.loop-place-test.true c.index-body-place.is in
    record {
      size = c.loop-place.invariant.size ∙ sym c.mark.ensures.size;
      has = λ q lt. marked body k q i _ _ at (c.mark.ensures.has q lt) (c.loop-place.invariant.has q lt);
    }

pub returns-clause-targets : goal.returns-clause-targets
returns-clause-targets c = λ q lt.
    all_marked c.args.body.now c.loop-place.place q _ c.loop-place-test.false (c.loop-place.invariant.has q lt)
