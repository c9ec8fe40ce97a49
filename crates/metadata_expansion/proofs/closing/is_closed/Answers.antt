use Rattle.std.proofs.Common.{sym, ap, ◌∙◌, length, arith}
use Rattle.std.proofs.lemmas.Bool.{false≢true}
use Rattle.metadata_expansion.specs.ClosedSets.{in_sets}
use Rattle.metadata_expansion.proofs.ClosedSets.{temporaries_at, none_needed, covers_more, there_below, closed_by_needs}
use Rattle.metadata_expansion.proofs.closing.is_closed.Goals as goal

pub needed-requires-clause-among : goal.needed-requires-clause-among
needed-requires-clause-among g c =
    temporaries_at c.args.function.now.code c.loop-node.node _ c.instruction_at-instruction.result.now c.requires.inside
    c.instruction_at-instruction.ensures

pub is_within-requires : goal.is_within-requires
is_within-requires g c =
    c.requires.room.by c.loop-node.node c.set_at-found.result.now c.set_at-found.ensures
    ∙ sym c.in_ok-set.ensures.room

pub returns-then-not-is_within-clause-none : goal.returns-then-not-is_within-clause-none
returns-then-not-is_within-clause-none g c = λ reads none.
    sym c.if-not-is_within.true ∙ c.is_within.ensures.1 (λ y h. absurd (false≢true (sym (c.in_ok-set.ensures.needed y
    ∙ none_needed (g.U.TemporaryUse.reads c.args.program.now c.args.function.now) g.U.TemporaryUse.source
    c.args.function.now (in_sets c.args.sets.now) c.loop-node.node y
    c.instruction_at-instruction.result.now reads none c.instruction_at-instruction.ensures) ∙ h)))

pub loop-node-preserved : goal.loop-node-preserved
loop-node-preserved g c =
    covers_more (g.U.TemporaryUse.reads c.args.program.now c.args.function.now) g.U.TemporaryUse.source
    c.args.function.now c.args.sets.now c.loop-node.node c.set_at-found.result.now
    c.in_ok-set.set c.instruction_at-instruction.result.now c.loop-node.invariant c.instruction_at-instruction.ensures
    c.set_at-found.ensures c.in_ok-set.ensures.needed (c.is_within.ensures.0 c.if-not-is_within.false)

pub returns-clause-closed : goal.returns-clause-closed
returns-clause-closed g c = λ yes.
    let code = c.args.function.now.code in
    let test = c.loop-node-test.false in
    let all = ap length c.as_slice-node-end.ensures in
    closed_by_needs (g.U.TemporaryUse.reads c.args.program.now c.args.function.now) g.U.TemporaryUse.source
    c.args.function.now (in_sets c.args.sets.now) (λ n y i is need.
    (let low = there_below code n i is in
    c.loop-node.invariant n y i (omega (arith, low, test, all)) is need))
