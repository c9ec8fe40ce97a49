-- The typing of statements and blocks (C99 6.8), in the order of the tokens.
use Rattle.std.specs.Prelude.{List, [], ◌++◌}
use Rattle.obj_memory.specs.declared.int_type.IntType.{IntType}
use Rattle.c_syntax.specs.Statements.{Block, BlockItem, BlockItems, Statement}
use Rattle.c_syntax.specs.Statements as t
use Rattle.c_tree.specs.declared.statement.CaseLabel.{CaseLabel}
use Rattle.c_tree.specs.Statements as tree
use Rattle.c_tree.specs.Tree.{kind_of}
use Rattle.c_const.specs.Integers.{type_of}
use Rattle.c_rules.specs.Values.{Value}
use Rattle.c_typing_state.specs.State.{judged}
use Rattle.c_unit_typing.specs.Constructs.{Around, Labelled, Labels, case_label, controlled, declaration_typed}
use Rattle.c_unit_typing.specs.Constructs.{default_label, do_typed, expression_typed, for_typed, if_else_typed}
use Rattle.c_unit_typing.specs.Constructs.{if_typed, in_scope, jump, labelled, labels_on, looping, no_labels, returned}
use Rattle.c_unit_typing.specs.Constructs.{switch_typed, switching, while_typed, without_labels}
use Rattle.c_unit_typing.specs.Files.{FileTyping, finished, in_state, ◌~>◌}

abbrev mutual
  -- a statement with the labels of a switch that it may have
  pub statement : Around → Labels → Statement → FileTyping Labelled
  statement a ls (t.compound b) = labelled ls (block a b)
  statement a ls (t.expression e at) = labelled ls (in_state (expression_typed e))
  statement a ls (t.if_then at l e r s) = labelled ls (if_typed at.line e (controlled (statement a no_labels s)))
  statement a ls (t.if_else at l e r s word other) =
      labelled ls (if_else_typed at.line e (controlled (statement a no_labels s))
      (controlled (statement a no_labels other)))
  statement a ls (t.switch at l e r b) = labelled ls (switch_typed at.line e (λ v. switch_block (switching a) v b))
  statement a ls (t.while_do at l e r s) =
      labelled ls (while_typed at.line e (controlled (statement (looping a) no_labels s)))
  statement a ls (t.do_while at s word l e r end) =
      labelled ls (do_typed at.line (controlled (statement (looping a) no_labels s)) e)
  statement a ls (t.for at l first condition semicolon step r s) =
      labelled ls (for_typed at.line first condition step (controlled (statement (looping a) no_labels s)))
  statement a ls (t.case at e colon s) = in_state (case_label ls at.line e) ~> λ ls. statement a ls s
  statement a ls (t.default at colon s) = in_state (judged (default_label ls at.line)) ~> λ ls. statement a ls s
  statement a ls (t.break at end) = labelled ls (in_state (judged (jump a.inside.may_break at.line tree.break)))
  statement a ls (t.continue at end) =
      labelled ls (in_state (judged (jump a.inside.may_continue at.line tree.continue)))
  statement a ls (t.return at e end) = labelled ls (in_state (returned at.line a.result e))

  pub block : Around → Block → FileTyping tree.Statement
  block a (t.block l xs r) = in_scope (block_items a xs) ~> λ ss. finished (tree.block l.line ss)

  pub block_items : Around → BlockItems → FileTyping tree.Statements
  block_items a t.no_items = finished tree.no_statements
  block_items a (t.items x more) = block_item a x ~> λ s. block_items a more ~> λ ss. finished (tree.statements s ss)

  pub block_item : Around → BlockItem → FileTyping tree.Statement
  block_item a (t.local d) = declaration_typed d
  block_item a (t.inner s) = without_labels (statement a no_labels s)

  -- the block of a switch with a value
  pub switch_block : Around → Value → Block → FileTyping tree.Statement
  switch_block a v (t.block l xs r) =
      in_scope (switch_items a (type_of (kind_of v.tree)) [] xs) ~> λ is. finished (tree.switch v.tree l.line is)

  -- its items, behind those with some labels
  pub switch_items : Around → IntType → (earlier : List CaseLabel) → BlockItems → FileTyping tree.SwitchItems
  switch_items a type earlier t.no_items = finished tree.no_items
  switch_items a type earlier (t.items x more) =
      switch_item a (labels_on type earlier) x ~> λ s. switch_items a type (earlier ++ s.labels) more ~> λ is.
      finished (tree.items s.labels s.statement is)

  pub switch_item : Around → Labels → BlockItem → FileTyping Labelled
  switch_item a ls (t.local d) = labelled ls (declaration_typed d)
  switch_item a ls (t.inner s) = statement a ls s
