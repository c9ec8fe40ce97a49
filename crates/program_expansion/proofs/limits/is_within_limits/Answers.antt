use Rattle.program_expansion.proofs.Prepared.{variables_few}
use Rattle.program_expansion.proofs.Small.{temporaries_few}
use Rattle.program_expansion.proofs.limits.is_within_limits.Goals as goal

pub has_areas-requires : goal.has_areas-requires
has_areas-requires c = temporaries_few c.args.function.now (c.is_small.ensures.0 c.if-not-is_small.false).registers

pub name_own-requires : goal.name_own-requires
name_own-requires c = variables_few c.args.function.now (c.is_small.ensures.0 c.if-not-is_small.false)
