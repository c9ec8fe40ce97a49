-- Items of a switch without where they lie in memory.
use Rattle.std.specs.Prelude.{List}
use Rattle.c_tree.specs.declared.statement.CaseLabel.{CaseLabel}
use Rattle.c_tree.specs.declared.statement.SwitchItem as ri
use Rattle.c_tree.specs.Statements.{Statement}
use Rattle.c_tree.specs.View.{item_step, statement_step}

abbrev pub item_of : ri.SwitchItem → List CaseLabel × Statement
item_of = ri.fold-SwitchItem Statement (List CaseLabel × Statement) statement_step item_step
