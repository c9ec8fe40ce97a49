-- What a statement stands in, and its labels, without where these lie in memory.
use Rattle.std.specs.Prelude.{List, option_map}
use Rattle.c_tree.specs.declared.statement.CaseLabel.{CaseLabel}
use Rattle.c_tree.specs.declared.statement.Statement as code_statement
use Rattle.c_tree.specs.declared.statement.SwitchItem as code_item
use Rattle.c_tree.specs.Statements.{Statement}
use Rattle.c_tree.specs.View.{expression_of, first_of, item_step, statement_of, statement_step}
use Rattle.c_unit_typing.specs.Constructs.{Around, Head, Labels, Labelled}
use Rattle.c_typer.specs.declared.statements.around.Around as code
use Rattle.c_typer.specs.declared.statements.heads.Head as code_head
use Rattle.c_typer.specs.declared.statements.labels.Labels as code_labels

abbrev pub around_of : code.Around → Around
around_of a = record {
  inside = record { may_break = a.may_break; may_continue = a.may_continue };
  result = a.result.now;
}

-- an item's labels so far, where they stand
abbrev pub labels_of : code_labels.Labels → (own : List CaseLabel) → Labels
labels_of ls own = record { switch = ls.switch; earlier = ls.earlier.now; own = own }

-- a statement with its labels
abbrev pub labelled_of : (labels : List CaseLabel) → code_statement.Statement → Labelled
labelled_of labels s = record { labels = labels; statement = statement_of s }

-- an item of a switch
abbrev pub item_of : code_item.SwitchItem → List CaseLabel × Statement
item_of = code_item.fold-SwitchItem Statement (List CaseLabel × Statement) statement_step item_step

abbrev pub head_of : code_head.Head → Head
head_of h = record {
  first = first_of h.first;
  condition = option_map expression_of h.condition;
  step = option_map expression_of h.step;
}
