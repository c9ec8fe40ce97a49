use Rattle.flat_propagation.specs.Tables.{facts_of}
use Rattle.flat_propagation.proofs.Tables.{forgotten}
use Rattle.flat_propagation.proofs.table.FactTable.forget.Goals as goal

pub returns-clause-nothing : goal.returns-clause-nothing
unfolding facts_of
returns-clause-nothing c = λ y. forgotten c.args.self.now.entries.items c.args.time y c.requires.entries
