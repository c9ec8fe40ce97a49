use Rattle.metadata_relation.specs.Stages.{map_of}
use Rattle.metadata_relation.proofs.Simulating.{local_by}
use Rattle.metadata_relation.proofs.StartHolds.{holds_by}
use Rattle.metadata_relation.proofs.laws.start_data.a_file_with_static_objects_stands_for_the_source.Goals as goal

pub returns : goal.returns
returns g c = λ compiled right entry memory holds file.
    holds_by compiled (g.S.ShadowForm.IsGood (map_of compiled)) right
    (local_by compiled (g.S.ShadowForm.IsGood (map_of compiled)) g.S.ShadowForm.entry entry
    (λ m m' keeps good. c.entries_are_local.ensures (map_of compiled) m m' right.mapped keeps good))
    g.S.ShadowForm.entry entry memory holds file
