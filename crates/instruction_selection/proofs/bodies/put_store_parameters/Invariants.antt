use Rattle.std.proofs.Common.{◌≡◌, ◌++◌, drop}
use Rattle.metadata_relation.specs.InlineLists.{inline_lists}
use Rattle.metadata_relation.specs.Blocks.{store_parameters}
use Rattle.instruction_selection.proofs.bodies.put_store_parameters.Given as goal

abbrev pub invariant-loop-i : goal.invariant-loop-i
invariant-loop-i g l = l.code.items
    ++ store_parameters (inline_lists g.S.ShadowForm.entry_read g.S.ShadowForm.entry_write l.context.map.now)
    l.context.program.now l.context.function.now l.i (drop l.i l.context.function.now.parameters)
    ≡ l.initial.code.items
    ++ store_parameters (inline_lists g.S.ShadowForm.entry_read g.S.ShadowForm.entry_write l.fn.context.map.now)
    l.fn.context.program.now l.fn.context.function.now 0 l.fn.context.function.now.parameters
