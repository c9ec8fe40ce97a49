use Rattle.std.proofs.Common.{refl, ◌∙◌, subst, arith}
use Rattle.std.proofs.lemmas.Result.{err_from_is_err_and}
use Rattle.c_syntax.specs.View.{enumerator_of, more_enumerators_in}
use Rattle.c_syntax.specs.Levels.{enumerator_levels, more_enumerators_levels}
use Rattle.c_faults.specs.Answer.{Fails}
use Rattle.c_typing_state.specs.State.{state_of}
use Rattle.c_expression_typing.specs.Typed.{enumerator, more_enumerators}
use Rattle.c_syntax_typing.proofs.Loops.{failed, levels_here, turned}
use Rattle.c_syntax_typing.proofs.Lower.{lower_expressions}
use Rattle.c_syntax_typing.proofs.nested.Nested.more_enumerators.Goals as goal

pub enumerator-requires : goal.enumerator-requires
enumerator-requires g c κs =
    let levels = levels_here (λ x. enumerator_levels (enumerator_of x.1))
    (λ xs. more_enumerators_levels (more_enumerators_in xs))
    (λ x xs. refl) c.args.trees.now c.loop-tree.tree-index c.loop-tree-item.result c.loop-tree-test.true
    c.loop-tree-item.is in (
      (refl, tt),
      lower_expressions _ _ _ _ c.requires.deeper (omega (arith, levels, c.loop-tree.invariant.low)),
    )

pub returns-in_err-next : goal.returns-in_err-next
returns-in_err-next g c =
    let f = c.in_err-next.field-0.0 in
    let error = err_from_is_err_and c.from_residual.result c.from_residual.ensures.1 in
    rw (error.1, error.2)
    (subst (Fails f) c.loop-tree.invariant.same
    (failed (λ x b. enumerator b (enumerator_of x.1))
    (λ xs b. more_enumerators (more_enumerators_in xs) b) (λ x xs b s. refl)
    c.args.trees.now c.loop-tree.tree-index c.loop-tree-item.result c.loop-tree.next
    (state_of c.loop-tree.typer) c.loop-tree-test.true c.loop-tree-item.is f
    c.in_err-next.ensures))

pub loop-tree-preserved : goal.loop-tree-preserved
loop-tree-preserved g c =
    let levels = levels_here (λ x. enumerator_levels (enumerator_of x.1))
    (λ xs. more_enumerators_levels (more_enumerators_in xs))
    (λ x xs. refl) c.args.trees.now c.loop-tree.tree-index c.loop-tree-item.result c.loop-tree-test.true
    c.loop-tree-item.is in
    record {
      same = turned (λ x b. enumerator b (enumerator_of x.1))
          (λ xs b. more_enumerators (more_enumerators_in xs) b) (λ x xs b s. refl)
          c.args.trees.now c.loop-tree.tree-index c.loop-tree-item.result c.loop-tree.next
          (state_of c.loop-tree.typer) c.loop-tree-test.true c.loop-tree-item.is
          c.in_ok-next.next (state_of c.enumerator.new.typer) c.in_ok-next.ensures
          ∙ c.loop-tree.invariant.same;
      low = omega (arith, levels, c.loop-tree.invariant.low);
    }
