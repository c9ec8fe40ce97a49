use Rattle.std.proofs.Common.{sym, ap, ◌∙◌}
use Rattle.c_syntax.specs.Tree as t
use Rattle.c_syntax.specs.StatementsView.{designator_of}
use Rattle.c_syntax.specs.View.{expression_of}
use Rattle.c_typer.proofs.Designating.{designator_typed}
use Rattle.c_typer.proofs.initializers.designators.designated_once.Goals as goal

pub returns-in-Element : goal.returns-in-Element
returns-in-Element c =
    let e = c.in-Element in
    designator_typed _ _ _ _ _ _ _
    (ap (λ z. t.element e.opening (expression_of z) e.field-2) c.get.ensures ∙ sym (ap designator_of e.is))
    c.by_index.ensures
