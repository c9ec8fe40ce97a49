use Rattle.std.proofs.Common.{rules, sym, ◌∙◌}
use Rattle.rv_listing.proofs.Bytes.{one_more, no_byte, too_few, all_read}
use Rattle.rv_listing.proofs.line.bytes_in.Goals as goal

pub loop-rest-preserved : goal.loop-rest-preserved
loop-rest-preserved c = record {
  read = one_more c.loop-rest.bytes c.args.text.now c.loop-rest.rest.now c.split_at.result.0.now c.split_at.result.1.now
      c.loop-rest.count c.in-Some.value (search rules) c.split_at.ensures.front c.split_at.ensures.back (search rules)
      (sym c.byte_in.ensures ∙ c.in-Some.is) c.loop-rest.invariant.read;
  room = search rules;
  size = search rules;
}

pub returns-in_default-clause-value : goal.returns-in_default-clause-value
returns-in_default-clause-value c = no_byte _ _ _ _ (search rules) c.split_at.ensures.front (sym c.byte_in.ensures
    ∙ search rules) c.loop-rest.invariant.read

pub returns-then-not-is_empty-clause-value : goal.returns-then-not-is_empty-clause-value
returns-then-not-is_empty-clause-value c = too_few _ _ _ (search rules) (search rules) c.loop-rest.invariant.read

pub returns-clause-value : goal.returns-clause-value
returns-clause-value c = all_read _ _ _ (search rules) c.loop-rest.invariant.read
