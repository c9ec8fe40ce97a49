use Rattle.std.proofs.Common.{◌≡◌, Ok, sym, subst, false}
use Rattle.c_syntax.specs.View.{declarator_of}
use Rattle.c_declarator_typing.specs.Declarators.{shape_of}
use Rattle.c_declarator_typing.specs.Members.{entries_of, member_added}
use Rattle.c_declarator_typing.specs.Specifications.{specification_of}
use Rattle.c_typing_state.specs.State.{Types, state_of}
use Rattle.c_faults.specs.Answer.{Gives}
use Rattle.c_expression_typing.specs.Constructs.{with_shape}
use Rattle.c_expression_typing.specs.Typed.{shape}
use Rattle.c_syntax_typing.proofs.Composing.{shape_added}
use Rattle.c_syntax_typing.proofs.nested.Nested.with_declared.Goals as goal

pub returns : goal.returns
returns g c =
    let s1 = state_of c.shape.new.typer in
    let typed = shape false (declarator_of c.args.tree.now) in
    let sh = c.in_ok-before.shape in
    let spec = specification_of c.args.specification.now in
    let shaped : typed (state_of c.args.typer.now) ≡ Ok (s1, shape_of sh) =
    subst (λ r. Types shape_of s1 r (typed (state_of c.args.typer.now))) c.in_ok-before.ensures.ok.1 c.shape.ensures in
    let added =
    subst (λ b. Gives entries_of c.member_added-added.result (member_added spec (shape_of sh) (entries_of b) s1))
    c.in_ok-before.ensures.ok.0 c.member_added-added.ensures in
    subst (λ r. Types entries_of s1 r (with_shape spec (entries_of c.args.before) typed (state_of c.args.typer.now)))
    (sym c.without.ensures)
    (shape_added spec (entries_of c.args.before) (shape_of sh) (state_of c.args.typer.now) s1 typed
    c.member_added-added.result shaped added)
