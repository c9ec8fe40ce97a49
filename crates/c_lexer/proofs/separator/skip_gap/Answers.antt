use Rattle.std.proofs.Common.{◌∙◌, sym, arith}
use Rattle.c_lexer.proofs.Gaps.{gap_turn_found, gap_turn_open}
use Rattle.c_lexer.proofs.separator.skip_gap.Goals as goal

pub loop-separator-preserved-then-has_newline : goal.loop-separator-preserved-then-has_newline
loop-separator-preserved-then-has_newline c = record {
  value = sym (gap_turn_found c.loop-separator.has_newline _ _ c.if-has_newline.true c.in-Some.ensures.value)
      ∙ c.loop-separator.invariant.value;
  within = omega (arith, c.in-Some.ensures.within);
}

pub loop-separator-preserved : goal.loop-separator-preserved
loop-separator-preserved c = record {
  value = sym (gap_turn_open c.loop-separator.has_newline _ _ c.if-has_newline.false c.in-Some.ensures.value)
      ∙ c.loop-separator.invariant.value;
  within = omega (arith, c.in-Some.ensures.within);
}
