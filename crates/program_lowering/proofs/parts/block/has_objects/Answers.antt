use Rattle.std.proofs.Common.{◌∙◌}
use Rattle.program_lowering.proofs.StatementParts.Opened.{any_is}
use Rattle.program_lowering.proofs.parts.block.has_objects.Goals as goal

pub returns : goal.returns
returns c = c.any_object.ensures ∙ any_is c.args.variables.now c.args.numbers.now
