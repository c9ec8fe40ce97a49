use Rattle.std.proofs.Common.{[], ap, sym, subst, ◌∙◌, arith, length, append-nil}
use Rattle.std.specs.Vec.Iter.{into_iter_items}
use Rattle.check_elim.specs.Available.{IsDroppable}
use Rattle.check_elim.specs.Dropped.{AreDropped}
use Rattle.check_elim.proofs.Going.{one_function, none_left}
use Rattle.check_elim.proofs.dropping.functions_without.Goals as goal

pub loop-function-preserved : goal.loop-function-preserved
loop-function-preserved c =
    let steps = c.in-Some.ensures.steps in
    let longer = ap length steps.0 in
    let old = c.loop-function.invariant in
    record {
      done = one_function IsDroppable (into_iter_items c.into_iter-function-iterator.result)
          (into_iter_items c.next.new.self) c.loop-function.without.items c.push.new.self.items c.in-Some.function
          c.in_ok-function_without.field-0 c.in_ok-function_without.ensures c.in_ok-push.ensures.items
          (λ ds k. old.done ds (subst (λ xs. AreDropped IsDroppable xs ds) (sym steps.0) k));
      length = let one = steps.1 in let all = old.length in omega (arith, one, all, longer);
    }

pub returns : goal.returns
returns c =
    let old = c.loop-function.invariant in
    let none = none_left (into_iter_items c.loop-function.function-iterator)
    (sym old.length ∙ c.in-None.ensures.steps.0) in
    let all = old.done [] (subst (λ xs. AreDropped IsDroppable xs []) (sym none) tt) in
    subst (λ xs. AreDropped IsDroppable xs c.loop-function.without.items)
    (c.into_iter-function-iterator.ensures.into_iter_gives.0)
    (subst (AreDropped IsDroppable (into_iter_items c.into_iter-function-iterator.result))
    (append-nil c.loop-function.without.items) all)
