use Rattle.program_expansion.specs.Expansions.{AreFunctionsOf, types_by}
use Rattle.program_expansion.proofs.program.functions_of.Given as goal

abbrev pub invariant-loop-number : goal.invariant-loop-number
invariant-loop-number g l =
    AreFunctionsOf g.S.ShadowForm.entry_read g.S.ShadowForm.entry_write l.tables.map.now l.tables.program.now
    (types_by l.tables.types.now) l.number l.list.items
