use Rattle.rv_codegen.specs.Generated.{AreBelow}
use Rattle.rv_codegen.proofs.generator.segments_of.Given as goal

abbrev pub invariant-loop-number : goal.invariant-loop-number
invariant-loop-number l =
    AreBelow l.map l.program l.plans l.number l.segments.rows.items l.segments.runtime.items
    l.segments.compiled.items
