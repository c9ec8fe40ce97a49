use Rattle.image_laws.proofs.Assignment.Expanded.{callees_of}
use Rattle.image_laws.proofs.laws.assignment.expanded_programs_have_callees.Goals as goal

pub returns : goal.returns
returns g c = λ map l expanded.
    let form = g.S.ShadowForm in callees_of l form.entry (form.IsGood map) expanded
