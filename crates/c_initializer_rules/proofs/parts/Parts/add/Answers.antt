use Rattle.std.proofs.Common.{◌∙◌, ap, map}
use Rattle.std.proofs.lemmas.List.{map_push}
use Rattle.c_initializer_rules.specs.Order.{leads_behind_last}
use Rattle.c_initializer_rules.proofs.Ordered.{known_with_more, not_known}
use Rattle.c_initializer_rules.proofs.parts.Parts.add.Goals as goal
use Rattle.c_initializer_rules.proofs.parts.Parts.add.Goals.{then-self, else-self}

pub invariant_of-self-2 : goal.invariant_of-self-2
invariant_of-self-2 c =
    record {
      in_order = elim c.if-self.branch [
        | then-self w ↦
            known_with_more c.args.self.now.is_in_order c.if-self.is_in_order
            (map (λ p. p.path) c.args.self.now.placed.items) (map (λ p. p.path) c.push.new.items.items)
            c.args.placed.path w.if-self.true c.args.self.now.in_order
            (w.is_in_order-is ∙ w.leads_behind_last-is_in_order.ensures
            ∙ ap (λ now. leads_behind_last now (map (λ p. p.path) c.args.self.now.placed.items)) w.as_slice.ensures)
            (ap (map (λ p. p.path)) c.in_ok-push.ensures
            ∙ map_push (λ p. p.path) c.args.self.now.placed.items c.args.placed)
        | else-self w ↦
            not_known c.if-self.is_in_order (map (λ p. p.path) c.push.new.items.items)
            (w.is_in_order-is ∙ w.if-self.false)
      ];
    }
