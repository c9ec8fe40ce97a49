use Rattle.std.proofs.Common.{◌∙◌}
use Rattle.rv_codegen.proofs.Counted.{too_long}
use Rattle.rv_codegen.proofs.generator.function_words.Goals as goal

pub refusal-requires-clause-long : goal.refusal-requires-clause-long
refusal-requires-clause-long c = (
  c.args.number,
  c.requires.function,
  too_long c.args.map.now c.args.program.now c.args.plans.now c.args.number c.as_slice-items.result.now
      c.in_ok-able.able (c.as_slice-items.ensures ∙ c.in_ok-list.ensures)
      (c.lists_can_be_assembled.ensures.assembled c.args.map.now c.args.program.now c.args.plans.now c.args.number)
      c.in_ok-able.ensures c.if-able.false,
)
