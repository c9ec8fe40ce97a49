use Rattle.metadata_relation.proofs.Laid.{program_expands}
use Rattle.metadata_relation.proofs.laws.laid.laid_programs_are_expanded.Goals as goal

pub returns : goal.returns
returns g c = λ e homes runtime.
    program_expands e homes runtime g.S.ShadowForm.entry (g.S.ShadowForm.IsGood e.map)
