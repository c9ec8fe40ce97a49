use Rattle.std.proofs.Common.{arith, sym, ap, ◌∙◌}
use Rattle.c_lower.specs.Statements.{any_default}
use Rattle.program_lowering.proofs.StatementCode.LabelTests.{default_after}
use Rattle.program_lowering.proofs.statements.labels.default_start.Goals as goal

pub loop-i-preserved : goal.loop-i-preserved
loop-i-preserved c =
    let none = ap (λ j. any_default j.labels) c.index-items-i.is ∙ ap any_default (sym c.as_slice.ensures)
    ∙ sym c.any_default.ensures ∙ c.if-any_default.false in
    sym (default_after c.args.items.now c.args.starts.now c.loop-i.i c.index-items-i.result c.args.end
    (omega (arith, c.loop-i-test.true)) c.index-items-i.is c.requires none)
    ∙ c.loop-i.invariant
