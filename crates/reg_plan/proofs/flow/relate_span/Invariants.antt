use Rattle.std.proofs.Common.{◌≡◌, ◌+◌, ◌≤◌, ◌<◌, length}
use Rattle.reg_plan.specs.Flow.{Gains}
use Rattle.reg_plan.proofs.flow.relate_span.Given as goal

abbrev pub invariant-loop-register : goal.invariant-loop-register
invariant-loop-register l = record {
  gains : Gains l.initial.relation l.relation (λ y. (l.first ≤ y) × (y < l.register)) l.node;
  size : length l.relation.rows.items ≡ length l.initial.relation.rows.items;
  first : l.first ≡ l.fn.span.first;
  end : l.end ≡ l.fn.span.first + l.fn.span.count;
}
