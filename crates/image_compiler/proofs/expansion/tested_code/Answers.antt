use Rattle.image_compiler.proofs.Expanded.{flat_begins}
use Rattle.image_compiler.proofs.expansion.tested_code.Goals as goal

pub returns-then-branch : goal.returns-then-branch
returns-then-branch g c = record {
  expanded = c.in_ok-flat.ensures;
  encodable = c.is_encodable.ensures.yes c.if-is_encodable.true;
  startable = flat_begins _ _ _ _ _ _ _ c.in_ok-flat.ensures c.expanded_programs_are_startable.ensures
      c.propagated_programs_are_startable.ensures;
  plannable = c.in_ok-is_plannable.ensures.plannable c.if-branch.true;
  few = c.in_ok-is_plannable.ensures.few c.if-branch.true;
}
