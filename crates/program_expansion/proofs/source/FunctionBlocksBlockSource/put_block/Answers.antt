use Rattle.std.proofs.Common.{◌++◌, refl, sym, ap, ◌∙◌}
use Rattle.metadata_expansion.specs.ClosedSets.{in_table}
use Rattle.instruction_selection.proofs.OneEntry.{by_one_entry}
use Rattle.instruction_selection.specs.Selected.{selected}
use Rattle.program_expansion.specs.Expansions.{expansion_in}
use Rattle.program_expansion.proofs.source.FunctionBlocksBlockSource.put_block.Goals as goal

pub returns : goal.returns
returns g c =
    let read = g.S.ShadowForm.entry_read in
    let write = g.S.ShadowForm.entry_write in
    let x = c.args.self.now.context in
    let es = in_table c.args.self.now.entries.now in
    let i = c.args.instruction.now in
    let law = by_one_entry read write (expansion_in read write x es) 0 x i refl refl refl (λ f. refl) in
    c.in_ok-put_instruction.ensures
    ∙ ap (λ is. c.args.code.now.items ++ is)
    (ap (λ b. selected read write x b i) c.entry_behind-with_entry.ensures ∙ sym law)
