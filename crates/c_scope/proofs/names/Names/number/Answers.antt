use Rattle.std.proofs.Common.{◌∙◌}
use Rattle.c_scope.proofs.Numbering.{numbered}
use Rattle.c_scope.proofs.names.Names.number.Goals as goal

pub returns : goal.returns
returns g c = c.get_index_of.ensures.index ∙ numbered c.args.name.now _
