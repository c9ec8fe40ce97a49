use Rattle.std.proofs.Common.{refl, ◌∙◌, subst, arith}
use Rattle.std.proofs.lemmas.Result.{err_from_is_err_and}
use Rattle.c_syntax.specs.View.{member_of, members_in}
use Rattle.c_syntax.specs.Levels.{member_levels, members_levels}
use Rattle.c_faults.specs.Answer.{Fails}
use Rattle.c_declarator_typing.specs.Members.{entries_of}
use Rattle.c_typing_state.specs.State.{state_of}
use Rattle.c_expression_typing.specs.Typed.{with_member, with_members}
use Rattle.c_syntax_typing.proofs.Loops.{failed, levels_here, turned}
use Rattle.c_syntax_typing.proofs.Lower.{lower_names}
use Rattle.c_syntax_typing.proofs.nested.Nested.members.Goals as goal

pub with_member-requires : goal.with_member-requires
with_member-requires g c κs =
    let levels = levels_here (λ x. member_levels (member_of x)) (λ xs. members_levels (members_in xs))
    (λ x xs. refl) c.args.trees.now c.loop-tree.tree-index c.tree-item.result c.loop-tree-test.true
    c.tree-item.is in (
      (refl, tt),
      lower_names _ _ _ _ _ c.requires.deeper (omega (arith, levels, c.loop-tree.invariant.low)),
    )

pub returns-in_err-entries : goal.returns-in_err-entries
returns-in_err-entries g c =
    let f = c.in_err-entries.field-0.0 in
    let error = err_from_is_err_and c.from_residual.result c.from_residual.ensures.1 in
    rw (error.1, error.2)
    (subst (Fails f) c.loop-tree.invariant.same
    (failed (λ x b. with_member (member_of x) b)
    (λ xs b. with_members (members_in xs) b) (λ x xs b s. refl)
    c.args.trees.now c.loop-tree.tree-index c.tree-item.result (entries_of c.loop-tree.entries)
    (state_of c.loop-tree.typer) c.loop-tree-test.true c.tree-item.is f
    c.in_err-entries.ensures))

pub loop-tree-preserved : goal.loop-tree-preserved
loop-tree-preserved g c =
    let levels = levels_here (λ x. member_levels (member_of x)) (λ xs. members_levels (members_in xs))
    (λ x xs. refl) c.args.trees.now c.loop-tree.tree-index c.tree-item.result c.loop-tree-test.true
    c.tree-item.is in
    record {
      same = turned (λ x b. with_member (member_of x) b)
          (λ xs b. with_members (members_in xs) b) (λ x xs b s. refl)
          c.args.trees.now c.loop-tree.tree-index c.tree-item.result (entries_of c.loop-tree.entries)
          (state_of c.loop-tree.typer) c.loop-tree-test.true c.tree-item.is
          (entries_of c.in_ok-entries.entries) (state_of c.with_member.new.typer) c.in_ok-entries.ensures
          ∙ c.loop-tree.invariant.same;
      low = omega (arith, levels, c.loop-tree.invariant.low);
    }
