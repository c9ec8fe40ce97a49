use Rattle.c_syntax.specs.StatementsView.{unit_of}
use Rattle.c_unit_typing.specs.Typed.{typed_unit}
use Rattle.sbcets_core.proofs.Judging.{tree_refused}
use Rattle.sbcets_core.proofs.compiler.typed_of.Goals as goal

pub returns-in-Err-typed-clause-err : goal.returns-in-Err-typed-clause-err
returns-in-Err-typed-clause-err c =
    let list = c.args.tokens.now in
    let tree = unit_of c.in-Ok.tree in
    tree_refused list tree c.typing_refusal.result c.in-Ok.ensures.supported c.in-Ok.ensures.ok
    (c.typing_refusal.ensures (typed_unit list.end tree)
    (rw c.end.ensures at c.in-Err-typed.ensures.refused))
