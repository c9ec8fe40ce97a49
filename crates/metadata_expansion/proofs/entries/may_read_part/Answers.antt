use Rattle.std.proofs.Common.{sym, ap, ◌∙◌}
use Rattle.metadata_plan.specs.Entries.{may_read_part}
use Rattle.metadata_expansion.proofs.GreatestStructures.{area_in}
use Rattle.metadata_expansion.proofs.entries.may_read_part.Goals as goal

pub returns-in-Named : goal.returns-in-Named
returns-in-Named c = λ t f h.
    let i = c.args.temporary in
    c.has_area.ensures
    ∙ area_in t f c.args.areas.now i h ∙ ap (λ m. may_read_part t f m i) (sym c.in-Named.is)
