use Rattle.c_scope.proofs.Numbering.{found_at}
use Rattle.c_scope.proofs.names.Names.at.Goals as goal

pub returns : goal.returns
returns g c =
    found_at c.args.self.now.entries.entries c.args.number c.in_ok-what.field-0-0.now c.in_ok-what.what.now
    c.in_ok-what.ensures.entry
