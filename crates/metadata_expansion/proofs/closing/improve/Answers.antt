use Rattle.std.proofs.Common.{◌∙◌, subst, sym}
use Rattle.metadata_expansion.specs.ClosedSets.{AreNone, in_sets}
use Rattle.metadata_expansion.proofs.ClosedSets.{temporaries_at, none_needed}
use Rattle.metadata_expansion.proofs.closing.improve.Goals as goal

pub needed-requires-clause-among : goal.needed-requires-clause-among
needed-requires-clause-among g c =
    temporaries_at c.args.function.now.code c.args.node _ c.instruction_at-instruction.result.now c.requires.inside
    c.instruction_at-instruction.ensures

pub returns-clause-none : goal.returns-clause-none
returns-clause-none g c = λ reads none. c.replace.ensures.none none (λ y. c.in_ok-set.ensures.needed y
    ∙ none_needed (g.U.TemporaryUse.reads c.args.program.now c.args.function.now) g.U.TemporaryUse.source
    c.args.function.now (in_sets c.as_slice.result.now) c.args.node y
    c.instruction_at-instruction.result.now reads
    (subst (λ z. AreNone (in_sets z)) (sym c.as_slice.ensures.value) none) c.instruction_at-instruction.ensures)
