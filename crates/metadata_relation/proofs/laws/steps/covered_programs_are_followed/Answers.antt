use Rattle.metadata_relation.specs.Stages.{map_of}
use Rattle.metadata_relation.proofs.Simulating.{program_followed, local_by}
use Rattle.metadata_relation.proofs.laws.steps.covered_programs_are_followed.Goals as goal

pub returns : goal.returns
returns g c = λ compiled right entry covered setting memory bytes stands spaces input fine.
    program_followed compiled (g.S.ShadowForm.IsGood (map_of compiled)) right
    (local_by compiled (g.S.ShadowForm.IsGood (map_of compiled)) g.S.ShadowForm.entry entry
    (λ m m' keeps good. c.entries_are_local.ensures (map_of compiled) m m' right.mapped keeps good))
    covered setting memory bytes stands spaces input fine
