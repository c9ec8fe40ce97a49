use Rattle.metadata_relation.specs.Stages.{map_of}
use Rattle.metadata_relation.proofs.Simulating.{begins_to, local_by}
use Rattle.metadata_relation.proofs.laws.steps.the_first_call_is_followed.Goals as goal

pub returns : goal.returns
returns g c = λ compiled right entry covered s x h.
    begins_to compiled (g.S.ShadowForm.IsGood (map_of compiled)) right
    (local_by compiled (g.S.ShadowForm.IsGood (map_of compiled)) g.S.ShadowForm.entry entry
    (λ m m' keeps good. c.entries_are_local.ensures (map_of compiled) m m' right.mapped keeps good))
    covered s x h
