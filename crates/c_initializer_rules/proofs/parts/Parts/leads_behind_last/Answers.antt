use Rattle.std.proofs.Common.{◌∙◌, ap}
use Rattle.c_initializer_rules.specs.Order.{leads_behind}
use Rattle.c_initializer_rules.proofs.Ordered.{behind_last}
use Rattle.c_initializer_rules.proofs.parts.Parts.leads_behind_last.Goals as goal

pub returns-in-Some : goal.returns-in-Some
returns-in-Some c =
    behind_last (λ p. p.path) c.args.path.now c.args.self.now.placed.items c.deref.result.now c.in-Some.last.now
    c.leads_behind.result c.in-Some.ensures.value c.deref.ensures.value
    (c.leads_behind.ensures ∙ ap (leads_behind c.args.path.now) c.as_slice.ensures)
