use Rattle.std.proofs.Common.{◌∙◌}
use Rattle.c_scope.proofs.Scoping.{looked_up}
use Rattle.c_scope.proofs.names.Names.get.Goals as goal

pub returns : goal.returns
returns g c = c.get.ensures.value ∙ looked_up c.args.name.now _
