use Rattle.std.proofs.Common.{◌∙◌, map, ap}
use Rattle.c_scope.proofs.Scoping.{taken_in}
use Rattle.c_scope.proofs.names.Names.bind.Goals as goal

pub returns : goal.returns
returns g c = ap (map (λ e. (e.0.now, e.1))) c.in_ok-insert.ensures.entries ∙ taken_in c.args.name c.args.what _
