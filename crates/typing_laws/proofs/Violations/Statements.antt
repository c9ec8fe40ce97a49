-- The first violation in a statement or block is what typing answers.
use Rattle.std.proofs.Common.{refl, subst, List, [], Some}
use Rattle.std.specs.Prelude.{Ok, false}
use Rattle.obj_memory.specs.declared.int_type.IntType.{IntType}
use Rattle.c_syntax.specs.Statements.{Block, BlockItem, BlockItems, Statement}
use Rattle.c_syntax.specs.Statements as t
use Rattle.c_tree.specs.declared.statement.CaseLabel.{CaseLabel}
use Rattle.c_tree.specs.Statements as tree
use Rattle.c_tree.specs.Tree.{kind_of}
use Rattle.c_const.specs.Integers.{type_of}
use Rattle.c_rules.specs.Values.{Value}
use Rattle.c_typing_state.specs.State.{judged}
use Rattle.c_unit_typing.specs.Constructs.{Around, Labels, in_scope as typed_in_scope, jump, labels_on}
use Rattle.c_unit_typing.specs.Constructs.{looping as typed_looping, no_labels, scope_opened}
use Rattle.c_unit_typing.specs.Constructs.{switching as typed_switching}
use Rattle.c_unit_typing.specs.Files.{File}
use Rattle.c_unit_typing.specs.Statements as typing
use Rattle.typing_laws.specs.Violations.Agreeing.{Agrees}
use Rattle.typing_laws.specs.Violations.Statements.{block, block_item, block_items, for_with, if_else, if_then}
use Rattle.typing_laws.specs.Violations.Statements.{outside, place_with, statement, statements, switch_block}
use Rattle.typing_laws.specs.Violations.Statements.{switch_item}
use Rattle.typing_laws.specs.Violations.Statements.{switch_items, switch_with, switching, while_do, within}
use Rattle.typing_laws.proofs.Violations.Agreeing.{answer_agrees, followed_agrees, in_turn, made_agrees, three_made}
use Rattle.typing_laws.proofs.Violations.Agreeing.{two_made}
use Rattle.typing_laws.proofs.Violations.Constructs.{Bears, Stands, along_agrees, case_agrees, controlling_agrees}
use Rattle.typing_laws.proofs.Violations.Constructs.{default_agrees}
use Rattle.typing_laws.proofs.Violations.Constructs.{do_agrees, expression_agrees, head_agrees, item_stands}
use Rattle.typing_laws.proofs.Violations.Constructs.{items_agree}
use Rattle.typing_laws.proofs.Violations.Constructs.{returned_agrees, scope_agrees, switching_agrees, without_labels}
use Rattle.typing_laws.proofs.Violations.Declarations.{declaration_agrees, put_agrees}

mutual
  pub statement_agrees : (a : Around) (p : Labels) (x : Statement) (own : List CaseLabel) (f : File)
      → Bears (statement (within a) p x (f, own)) (typing.statement a (place_with p own) x f)
  statement_agrees a p (t.compound b) own f = along_agrees own (block_agrees a b f)
  statement_agrees a p (t.expression e at) own f = along_agrees own (put_agrees f (expression_agrees e f.state))
  statement_agrees a p (t.if_then at l e r s) own f =
      along_agrees own (scope_agrees (two_made if_then
      (put_agrees (scope_opened f) (controlling_agrees at e (scope_opened f).state))
      (λ g. scope_agrees (without_labels (statement_agrees a no_labels s [] (scope_opened g))))))
  statement_agrees a p (t.if_else at l e r s word other) own f =
      along_agrees own (scope_agrees (three_made if_else
      (put_agrees (scope_opened f) (controlling_agrees at e (scope_opened f).state))
      (λ g. scope_agrees (without_labels (statement_agrees a no_labels s [] (scope_opened g))))
      (λ g. scope_agrees (without_labels (statement_agrees a no_labels other [] (scope_opened g))))))
  statement_agrees a p (t.switch at l e r b) own f =
      along_agrees own (scope_agrees (followed_agrees (switch_block (switching (within a)) b)
      (λ v. typing.switch_block (typed_switching a) v b)
      (put_agrees (scope_opened f) (switching_agrees at e (scope_opened f).state))
      (λ v g. switch_agrees (typed_switching a) v b g)))
  statement_agrees a p (t.while_do at l e r s) own f =
      along_agrees own (scope_agrees (two_made while_do
      (put_agrees (scope_opened f) (controlling_agrees at e (scope_opened f).state))
      (λ g. scope_agrees (without_labels (statement_agrees (typed_looping a) no_labels s [] (scope_opened g))))))
  statement_agrees a p (t.do_while at s word l e r end) own f =
      along_agrees own (scope_agrees (do_agrees at e (scope_opened f)
      (scope_agrees (without_labels
      (statement_agrees (typed_looping a) no_labels s [] (scope_opened (scope_opened f)))))))
  statement_agrees a p (t.for at l first condition semicolon step r s) own f =
      along_agrees own (scope_agrees (two_made (for_with at.line)
      (head_agrees at first condition step (scope_opened f))
      (λ g. scope_agrees (without_labels (statement_agrees (typed_looping a) no_labels s [] (scope_opened g))))))
  statement_agrees a p (t.case at e colon s) own f =
      case_agrees at e p own f (statement (within a) p s) (λ ls. typing.statement a ls s)
      (λ own g. statement_agrees a p s own g)
  statement_agrees a p (t.default at colon s) own f =
      default_agrees at p own f (statement (within a) p s) (λ ls. typing.statement a ls s)
      (λ own g. statement_agrees a p s own g)
  statement_agrees a p (t.break at end) own f =
      along_agrees own (put_agrees f (answer_agrees at.at f.state
      (judged (jump a.inside.may_break at.line tree.break) f.state)))
  statement_agrees a p (t.continue at end) own f =
      along_agrees own (put_agrees f (answer_agrees at.at f.state
      (judged (jump a.inside.may_continue at.line tree.continue) f.state)))
  statement_agrees a p (t.return at e end) own f =
      along_agrees own (put_agrees f (returned_agrees at a.result e f.state))

  pub block_agrees : (a : Around) (x : Block) (f : File) → Agrees (block (within a) x f) (typing.block a x f)
  block_agrees a (t.block l xs r) f =
      made_agrees (tree.block l.line) (scope_agrees (items_agree_in a xs (scope_opened f)))

  pub items_agree_in : (a : Around) (x : BlockItems) (f : File)
      → Agrees (block_items (within a) x f) (typing.block_items a x f)
  items_agree_in a t.no_items f = record { by = refl }
  items_agree_in a (t.items x more) f = two_made statements (item_agrees a x f) (λ g. items_agree_in a more g)

  item_agrees : (a : Around) (x : BlockItem) (f : File) → Agrees (block_item (within a) x f) (typing.block_item a x f)
  item_agrees a (t.local d) f = made_agrees tree.declaration (declaration_agrees false d f)
  item_agrees a (t.inner s) f = without_labels (statement_agrees a no_labels s [] f)

  switch_agrees : (a : Around) (v : Value) (x : Block) (f : File)
      → Agrees (switch_block (within a) x (Some v) f) (typing.switch_block a v x f)
  switch_agrees a v (t.block l xs r) f =
      subst (Agrees (switch_block (within a) (t.block l xs r) (Some v) f))
      (in_turn (typed_in_scope (typing.switch_items a (type_of (kind_of v.tree)) [] xs) f) (λ q. Ok (q.0, (v, q.1)))
      (λ q. Ok (q.0, switch_with l.line q.1)))
      (made_agrees (switch_with l.line) (made_agrees (λ is. (v, is))
      (scope_agrees (switch_items_agree a (type_of (kind_of v.tree)) [] xs (scope_opened f)))))

  switch_items_agree : (a : Around) (type : IntType) (earlier : List CaseLabel) (x : BlockItems) (f : File)
      → Agrees (outside (switch_items (within a) type x (f, earlier))) (typing.switch_items a type earlier x f)
  switch_items_agree a type earlier t.no_items f = record { by = refl }
  switch_items_agree a type earlier (t.items x more) f =
      items_agree (switch_items (within a) type more) (λ own. typing.switch_items a type own more) earlier
      (switch_item_agrees a type earlier x f) (λ own g. switch_items_agree a type own more g)

  switch_item_agrees : (a : Around) (type : IntType) (earlier : List CaseLabel) (x : BlockItem) (f : File)
      → Stands earlier (switch_item (within a) type x (f, earlier)) (typing.switch_item a (labels_on type earlier) x f)
  switch_item_agrees a type earlier (t.local d) f =
      item_stands earlier (along_agrees [] (made_agrees tree.declaration (declaration_agrees false d f)))
  switch_item_agrees a type earlier (t.inner s) f =
      item_stands earlier (statement_agrees a (labels_on type earlier) s [] f)
