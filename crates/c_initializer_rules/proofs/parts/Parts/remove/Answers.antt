use Rattle.std.proofs.Common.{◌∙◌, map, ap, rules}
use Rattle.std.proofs.lemmas.Fn.{filter_same}
use Rattle.c_initializer_rules.specs.Placed.{placed_of}
use Rattle.c_initializer_rules.proofs.Filtered.{filtered}
use Rattle.c_initializer_rules.proofs.parts.Parts.remove.Goals as goal

pub returns : goal.returns
returns c =
    ap (map placed_of) (filter_same _ _ _ (λ x b f' k. search rules) _ _ c.retain.ensures.filtered)
    ∙ filtered c.args.path.now c.args.self.now.placed.items
