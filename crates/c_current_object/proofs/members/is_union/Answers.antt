use Rattle.std.proofs.Common.{sym, ap, ◌∙◌}
use Rattle.c_scope.specs.Names.{names_of}
use Rattle.c_current_object.specs.Members.{lies_at_start}
use Rattle.c_current_object.proofs.Starts.{ends, stays}
use Rattle.c_current_object.proofs.members.is_union.Goals as goal

pub returns-then-not-lies_at_start : goal.returns-then-not-lies_at_start
returns-then-not-lies_at_start c =
    sym (ends (names_of c.args.members.now) c.loop-number.number
    (sym (ap lies_at_start c.at.ensures) ∙ sym c.if-not-lies_at_start.ensures))
    ∙ c.loop-number.invariant

pub loop-number-preserved : goal.loop-number-preserved
loop-number-preserved c =
    sym (stays (names_of c.args.members.now) c.loop-number.number
    (sym (ap lies_at_start c.at.ensures) ∙ sym c.if-not-lies_at_start.ensures))
    ∙ c.loop-number.invariant
