use Rattle.c_pre.proofs.Skipping.{skips, begins_defined, begins_condition, skips_to_end, skips_to_else, skips_to_elif}
use Rattle.c_pre.proofs.Skipping.{skips_others, ends_last}
use Rattle.std.proofs.Common.{true}
use Rattle.c_pre.proofs.laws.groups_are_skipped.Goals as goal

pub returns : goal.returns
returns c = record {
  nested = skips;
  defined = begins_defined;
  condition = begins_condition;
  unmet = skips_to_end;
  to_else = skips_to_else;
  to_elif = skips_to_elif;
  met = λ s line others rest f. skips_others others s rest line true true f;
  last = ends_last;
}
