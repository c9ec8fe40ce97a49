use Rattle.std.proofs.Common.{◌∙◌, ◌-◌, ◌+◌, sym, ap, arith}
use Rattle.c_current_object.specs.CurrentObject.{most_levels, reached, reached_in}
use Rattle.c_current_object.specs.Members.{lists_of}
use Rattle.c_current_object.specs.Types.{fills}
use Rattle.c_current_object.proofs.Levels.{reached_below, reached_end, reached_here}
use Rattle.c_current_object.proofs.current.CurrentObject.reached.Goals as goal

pub returns-then-fills : goal.returns-then-fills
unfolding reached
returns-then-fills c =
    sym (reached_here c.args.structures.now (lists_of c.args.members.now) c.args.filler
    (most_levels - c.loop-level._level) (most_levels - c.loop-level._level - 1) c.loop-level.current (omega arith)
    (ap (fills c.args.filler) (sym c.words.ensures) ∙ sym c.fills.ensures ∙ c.if-fills.true)) ∙ c.loop-level.invariant

pub loop-level-preserved : goal.loop-level-preserved
loop-level-preserved c =
    ap (reached_in c.args.structures.now (lists_of c.args.members.now) (most_levels - (c.loop-level._level + 1))
    c.args.filler) c.in_ok-current.ensures
    ∙ sym (reached_below c.args.structures.now (lists_of c.args.members.now) c.args.filler
    (most_levels - c.loop-level._level) (most_levels - (c.loop-level._level + 1)) c.loop-level.current (omega arith)
    (ap (fills c.args.filler) (sym c.words.ensures) ∙ sym c.fills.ensures ∙ c.if-fills.false)) ∙ c.loop-level.invariant

pub returns : goal.returns
unfolding reached
returns c =
    sym (reached_end c.args.structures.now (lists_of c.args.members.now) c.args.filler
    (most_levels - c.loop-level._level) c.loop-level.current (omega arith)) ∙ c.loop-level.invariant
