use Rattle.std.proofs.Common.{◌∙◌, map, sym}
use Rattle.c_initializer_rules.proofs.Filtered.{unchanged}
use Rattle.c_initializer_rules.proofs.Ordered.{known_in_order}
use Rattle.c_initializer_rules.proofs.parts.Parts.make_room.Goals as goal

pub returns-else-not-leads_behind_last : goal.returns-else-not-leads_behind_last
returns-else-not-leads_behind_last c =
    unchanged c.args.path.now c.args.self.now.placed.items
    (known_in_order c.args.self.now.is_in_order (map (λ p. p.path) c.args.self.now.placed.items)
    c.if-not-self.false c.args.self.now.in_order)
    (sym c.leads_behind_last.ensures ∙ c.if-not-leads_behind_last.false)
