use Rattle.std.proofs.Common.{◌<◌, ◌++◌, ◌∷◌, [], length, arith, ap, subst, ◌∙◌, length-append}
use Rattle.std.proofs.lemmas.Option.{slice_get_within}
use Rattle.check_elim.specs.Available.{IsAvailableCheck}
use Rattle.check_elim.proofs.Exploring.{at_node}
use Rattle.check_elim.proofs.Going.{one_dropped}
use Rattle.check_elim.proofs.dropping.without_available.Goals as goal

pub loop-node-preserved : goal.loop-node-preserved
loop-node-preserved c =
    let size = c.loop-node.invariant.size in
    let lt = subst (λ is. c.loop-node.node < length is) c.as_slice-instructions.ensures c.loop-node-test.true in
    let here = at_node _ _ c.loop-node.node c.index-instructions-node.result c.as_slice-instructions.ensures lt
    c.index-instructions-node.is in
    let more = c.in_ok-push.ensures.items in
    let longer = ap length more ∙ length-append c.loop-node.code.items (c.left.result ∷ []) in
    record {
      list = c.in_ok-gone.ensures.list;
      size = omega (arith, longer, size);
      code = one_dropped IsAvailableCheck c.args.function.now c.loop-node.code.items c.push.new.self.items
          c.loop-node.node c.index-instructions-node.result c.in_ok-gone.gone size
          (more ∙ ap (λ i. c.loop-node.code.items ++ i ∷ []) c.left.ensures) here
          (λ g. c.in_ok-gone.ensures.yes g c.index-instructions-node.result here)
          (λ g. c.in_ok-gone.ensures.no g c.index-instructions-node.result here) c.loop-node.invariant.code;
    }

pub returns : goal.returns
returns c =
    let same = ap length c.as_slice-instructions.ensures in
    let size = c.loop-node.invariant.size in
    record {
      size = omega (arith, size, same, c.loop-node-test.false, c.loop-node.auto.node-end);
      nodes = λ n i at.
          let lt = slice_get_within c.args.function.now.code n i at in
          c.loop-node.invariant.code n i (omega (arith, lt, same, c.loop-node-test.false)) at;
    }
