use Rattle.std.proofs.Common.{ap, ◌∙◌, get_or}
use Rattle.std.specs.Prelude.{not}
use Rattle.metadata_expansion.specs.declared.joins.Arrivals.TheVariants.{Never}
use Rattle.metadata_expansion.specs.Joins.{is_often}
use Rattle.metadata_expansion.proofs.Counting.{falls_unless_often, falls_to_next_alone}
use Rattle.metadata_expansion.proofs.joins.Joins.falls.Goals as goal

pub returns-then-next-node : goal.returns-then-next-node
returns-then-next-node c =
    ap not (c.is_often.ensures ∙ ap (λ z. is_often (get_or z c.args.next Never)) c.as_slice.ensures)
    ∙ falls_unless_often c.args.self.now c.args.function.now c.args.node c.args.next Never c.requires.joins
    c.if-next-node.true c.requires.inside

pub returns-else-next-node : goal.returns-else-next-node
returns-else-next-node c = falls_to_next_alone c.args.function.now c.args.node c.args.next c.if-next-node.false
