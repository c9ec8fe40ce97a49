use Rattle.metadata_relation.specs.Stages.{map_of}
use Rattle.metadata_relation.proofs.Following.{covered_step}
use Rattle.metadata_relation.proofs.laws.steps.covered_instructions_are_followed.Goals as goal

pub returns : goal.returns
returns g c = λ compiled right u n temps ws s covered fine x h.
    covered_step compiled (g.S.ShadowForm.IsGood (map_of compiled)) right u n temps ws s covered fine x h
