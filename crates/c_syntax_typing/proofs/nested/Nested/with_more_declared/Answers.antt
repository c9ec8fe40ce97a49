use Rattle.std.proofs.Common.{refl, ◌∙◌, subst, arith, false}
use Rattle.std.proofs.lemmas.Result.{err_from_is_err_and}
use Rattle.c_syntax.specs.View.{declarator_of, more_declarators_in}
use Rattle.c_syntax.specs.Levels.{declarator_levels, more_declarators_levels}
use Rattle.c_faults.specs.Answer.{Fails}
use Rattle.c_declarator_typing.specs.Members.{entries_of}
use Rattle.c_declarator_typing.specs.Specifications.{specification_of}
use Rattle.c_typing_state.specs.State.{state_of}
use Rattle.c_expression_typing.specs.Constructs.{with_shape}
use Rattle.c_expression_typing.specs.Typed.{shape, with_more_declared}
use Rattle.c_syntax_typing.proofs.Loops.{failed, levels_here, turned}
use Rattle.c_syntax_typing.proofs.nested.Nested.with_more_declared.Goals as goal

pub with_declared-requires : goal.with_declared-requires
with_declared-requires g c κs =
    let levels = levels_here (λ x. declarator_levels (declarator_of x.1))
    (λ xs. more_declarators_levels (more_declarators_in xs)) (λ x xs. refl) c.args.trees.now c.loop-tree.tree-index
    c.loop-tree-item.result c.loop-tree-test.true c.loop-tree-item.is in (
      (refl, tt),
      c.requires.deeper.declarators (declarator_of c.loop-tree-item.result.1)
          (omega (arith, levels, c.loop-tree.invariant.low)),
    )

pub returns-in_err-entries : goal.returns-in_err-entries
returns-in_err-entries g c =
    let spec = specification_of c.args.specification.now in
    let f = c.in_err-entries.field-0.0 in
    let error = err_from_is_err_and c.from_residual.result c.from_residual.ensures.1 in
    rw (error.1, error.2)
    (subst (Fails f) c.loop-tree.invariant.same
    (failed (λ x es. with_shape spec es (shape false (declarator_of x.1)))
    (λ xs. with_more_declared spec (more_declarators_in xs)) (λ x xs b s. refl) c.args.trees.now
    c.loop-tree.tree-index c.loop-tree-item.result (entries_of c.loop-tree.entries) (state_of c.loop-tree.typer)
    c.loop-tree-test.true c.loop-tree-item.is f c.in_err-entries.ensures))

pub loop-tree-preserved : goal.loop-tree-preserved
loop-tree-preserved g c =
    let spec = specification_of c.args.specification.now in
    let levels = levels_here (λ x. declarator_levels (declarator_of x.1))
    (λ xs. more_declarators_levels (more_declarators_in xs)) (λ x xs. refl) c.args.trees.now c.loop-tree.tree-index
    c.loop-tree-item.result c.loop-tree-test.true c.loop-tree-item.is in
    record {
      same = turned (λ x es. with_shape spec es (shape false (declarator_of x.1)))
          (λ xs. with_more_declared spec (more_declarators_in xs)) (λ x xs b s. refl) c.args.trees.now
          c.loop-tree.tree-index c.loop-tree-item.result (entries_of c.loop-tree.entries)
          (state_of c.loop-tree.typer) c.loop-tree-test.true c.loop-tree-item.is (entries_of c.in_ok-entries.entries)
          (state_of c.with_declared.new.typer) c.in_ok-entries.ensures
          ∙ c.loop-tree.invariant.same;
      low = omega (arith, levels, c.loop-tree.invariant.low);
    }
