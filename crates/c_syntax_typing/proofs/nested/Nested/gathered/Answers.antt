use Rattle.std.proofs.Common.{refl, ◌∙◌, subst, arith}
use Rattle.std.proofs.lemmas.Result.{err_from_is_err_and}
use Rattle.c_syntax.specs.View.{specifier_of, specifiers_in}
use Rattle.c_syntax.specs.Levels.{specifier_levels, specifiers_levels}
use Rattle.c_faults.specs.Answer.{Fails}
use Rattle.c_declarator_typing.specs.Specifications.{gathered_of}
use Rattle.c_typing_state.specs.State.{state_of}
use Rattle.c_expression_typing.specs.Typed.{gathered, with_specifier}
use Rattle.c_syntax_typing.proofs.Loops.{failed, levels_here, turned}
use Rattle.c_syntax_typing.proofs.Lower.{lower}
use Rattle.c_syntax_typing.proofs.nested.Nested.gathered.Goals as goal

pub with_specifier-requires : goal.with_specifier-requires
with_specifier-requires g c κs =
    let levels = levels_here (λ x. specifier_levels (specifier_of x)) (λ xs. specifiers_levels (specifiers_in xs))
    (λ x xs. refl) c.args.trees.now c.loop-tree.tree-index c.tree-item.result c.loop-tree-test.true
    c.tree-item.is in (
      (refl, tt),
      lower _ _ _ _ _ _ c.requires.deeper (omega (arith, levels, c.loop-tree.invariant.low)),
    )

pub returns-in_err-gathered : goal.returns-in_err-gathered
returns-in_err-gathered g c =
    let f = c.in_err-gathered.field-0.0 in
    let error = err_from_is_err_and c.from_residual.result c.from_residual.ensures.1 in
    rw (error.1, error.2)
    (subst (Fails f) c.loop-tree.invariant.same
    (failed (λ x b. with_specifier c.args.is_alone c.args.line (specifier_of x) b)
    (λ xs b. gathered c.args.is_alone c.args.line (specifiers_in xs) b) (λ x xs b s. refl)
    c.args.trees.now c.loop-tree.tree-index c.tree-item.result (gathered_of c.loop-tree.gathered)
    (state_of c.loop-tree.typer) c.loop-tree-test.true c.tree-item.is f
    c.in_err-gathered.ensures))

pub loop-tree-preserved : goal.loop-tree-preserved
loop-tree-preserved g c =
    let levels = levels_here (λ x. specifier_levels (specifier_of x)) (λ xs. specifiers_levels (specifiers_in xs))
    (λ x xs. refl) c.args.trees.now c.loop-tree.tree-index c.tree-item.result c.loop-tree-test.true
    c.tree-item.is in
    record {
      same = turned (λ x b. with_specifier c.args.is_alone c.args.line (specifier_of x) b)
          (λ xs b. gathered c.args.is_alone c.args.line (specifiers_in xs) b) (λ x xs b s. refl)
          c.args.trees.now c.loop-tree.tree-index c.tree-item.result (gathered_of c.loop-tree.gathered)
          (state_of c.loop-tree.typer) c.loop-tree-test.true c.tree-item.is
          (gathered_of c.in_ok-gathered.gathered) (state_of c.with_specifier.new.typer) c.in_ok-gathered.ensures
          ∙ c.loop-tree.invariant.same;
      low = omega (arith, levels, c.loop-tree.invariant.low);
    }
