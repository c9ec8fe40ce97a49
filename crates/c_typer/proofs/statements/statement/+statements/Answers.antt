use Rattle.std.proofs.Common.{◌≡◌, ◌∙◌, Ok, [], map, ap, refl, rules, sym}
use Rattle.c_syntax.specs.StatementsView.{block_item_of, items_in, statement_of}
use Rattle.c_syntax.specs.View.{expression_of}
use Rattle.c_tree.specs.Statements.{statements_in}
use Rattle.c_tree.specs.View as tree
use Rattle.c_programs.specs.FileState.{file_of}
use Rattle.c_unit_typing.specs.Constructs.{controlled, labels_on, no_labels}
use Rattle.c_unit_typing.specs.Statements.{block_item, block_items, statement, switch_item, switch_items}
use Rattle.c_typer.specs.Around.{around_of, item_of, labelled_of, labels_of}
use Rattle.c_typer.specs.Branches.{branch}
use Rattle.c_typer.proofs.Arms.{block_arm, break_arm, case_arm, continue_arm, default_arm, do_arm}
use Rattle.c_typer.proofs.Arms.{expression_arm, for_arm, if_arm, if_else_arm, return_arm, switch_arm}
use Rattle.c_typer.proofs.Arms.{while_arm}
use Rattle.c_typer.proofs.Otherwise.{steps_typed}
use Rattle.c_typer.proofs.Turns.{block_done, block_turn, grown, result_typed, switch_done, switch_refused}
use Rattle.c_typer.proofs.Turns.{switch_turn}
use Rattle.c_typer.proofs.statements.statement.+statements.Goals as goal

pub statement-returns-in-Block : goal.statement-returns-in-Block
statement-returns-in-Block t c =
    let e = c.in-Block in
    block_arm (around_of c.args.around) (labels_of c.args.labels c.args.own.now.items) e.tree c.args.tree.now
    (file_of c.args.file.now) _ _ e.is c.block.ensures

pub statement-returns-in-Expression : goal.statement-returns-in-Expression
statement-returns-in-Expression t c =
    let e = c.in-Expression in
    expression_arm (around_of c.args.around)
    (labels_of c.args.labels c.args.own.now.items) e.tree e.field-1 c.args.tree.now
    (file_of c.args.file.now) _ _ e.is c.expression_statement.ensures

pub statement-returns-in-If : goal.statement-returns-in-If
statement-returns-in-If t c =
    let e = c.in-If in
    if_arm (around_of c.args.around)
    (labels_of c.args.labels c.args.own.now.items) e.at e.condition e.body _ _ c.args.tree.now
    (file_of c.args.file.now) _ _ e.is c.get-in-If.ensures c.get.ensures c.if_then.ensures

pub statement-returns-in-IfElse : goal.statement-returns-in-IfElse
statement-returns-in-IfElse t c =
    let e = c.in-IfElse in
    let f = file_of c.args.file.now in
    let a = around_of c.args.around in
    let condition = expression_of c.get-in-IfElse-2.result.now in
    let body = controlled (statement a no_labels (statement_of c.get-in-IfElse.result.now)) in
    let other = controlled (statement a no_labels (statement_of c.get-in-IfElse-3.result.now)) in
    if_else_arm a (labels_of c.args.labels c.args.own.now.items) e.at e.condition e.body e.field-3 e.other _ _ _
    c.args.tree.now f _ _ e.is c.get-in-IfElse-2.ensures c.get-in-IfElse.ensures c.get-in-IfElse-3.ensures
    (steps_typed e.at.line condition body other f _ _
    (c.with_else.ensures (branch e.at.line condition body f) c.up_to_else-begun.ensures))

pub statement-returns-in-Switch : goal.statement-returns-in-Switch
statement-returns-in-Switch t c =
    let e = c.in-Switch in
    switch_arm (around_of c.args.around)
    (labels_of c.args.labels c.args.own.now.items) e.at e.value e.block _ c.args.tree.now
    (file_of c.args.file.now) _ _ e.is c.get-in-Switch.ensures c.switch.ensures

pub statement-returns-in-While : goal.statement-returns-in-While
statement-returns-in-While t c =
    let e = c.in-While in
    while_arm (around_of c.args.around)
    (labels_of c.args.labels c.args.own.now.items) e.at e.condition e.body _ _ c.args.tree.now
    (file_of c.args.file.now) _ _ e.is c.get-in-While-2.ensures c.get-in-While.ensures c.while_do.ensures

pub statement-returns-in-Do : goal.statement-returns-in-Do
statement-returns-in-Do t c =
    let e = c.in-Do in
    do_arm (around_of c.args.around)
    (labels_of c.args.labels c.args.own.now.items) e.at e.body e.end _ _ c.args.tree.now
    (file_of c.args.file.now) _ _ e.is c.get-in-Do.ensures c.get-in-Do-2.ensures c.do_while.ensures

pub statement-returns-in-For : goal.statement-returns-in-For
statement-returns-in-For t c =
    let e = c.in-For in
    for_arm (around_of c.args.around)
    (labels_of c.args.labels c.args.own.now.items) e.at e.head e.body _ c.args.tree.now
    (file_of c.args.file.now) _ _ e.is c.get-in-For.ensures c.for_loop.ensures

pub statement-returns-in-Case : goal.statement-returns-in-Case
statement-returns-in-Case t c =
    let e = c.in-Case in
    case_arm (around_of c.args.around)
    (labels_of c.args.labels c.args.own.now.items) _ e.label e.inner _ c.args.tree.now
    (file_of c.args.file.now) _ _ e.is c.get-in-Case.ensures c.case.ensures

pub statement-returns-in-Default : goal.statement-returns-in-Default
statement-returns-in-Default t c =
    let e = c.in-Default in
    default_arm (around_of c.args.around)
    (labels_of c.args.labels c.args.own.now.items) _ e.at e.field-1 e.inner _ c.args.tree.now
    (file_of c.args.file.now) _ _ e.is c.get-in-Default.ensures c.default.ensures

pub statement-returns-in-Break : goal.statement-returns-in-Break
statement-returns-in-Break t c =
    let e = c.in-Break in
    break_arm (around_of c.args.around) (labels_of c.args.labels c.args.own.now.items) e.at e.field-1 c.args.tree.now
    (file_of c.args.file.now) _ e.is c.break_at.ensures

pub statement-returns-in-Continue : goal.statement-returns-in-Continue
statement-returns-in-Continue t c =
    let e = c.in-Continue in
    continue_arm (around_of c.args.around)
    (labels_of c.args.labels c.args.own.now.items) e.at e.field-1 c.args.tree.now
    (file_of c.args.file.now) _ e.is c.continue_at.ensures

pub statement-returns-in-Return : goal.statement-returns-in-Return
statement-returns-in-Return t c =
    let e = c.in-Return in
    return_arm (around_of c.args.around)
    (labels_of c.args.labels c.args.own.now.items) e.at e.value e.field-2 c.args.tree.now
    (file_of c.args.file.now) _ _ e.is c.returned.ensures

pub block_items-loop-item-preserved : goal.block_items-loop-item-preserved
block_items-loop-item-preserved t c =
    let a = around_of c.args.around in
    let x = c.item-item.result in
    let f = file_of c.loop-item.file in
    let new = file_of c.block_item.new.file in
    let s = c.in_ok-before.statement in
    block_turn a c.args.items.now c.loop-item.item-index x c.loop-item.statements.items
    c.in_ok-statements.statements.items s f new (block_items a (items_in c.args.items.now) (file_of c.args.file.now))
    c.loop-item-test.true c.item-item.is
    (result_typed s c.block_item.result tree.statement_of new (block_item a (block_item_of x) f)
    c.in_ok-before.ensures.ok.1 c.block_item.ensures)
    (grown c.in_ok-before.before c.loop-item.statements c.in_ok-statements.statements (λ v. v.items) s
    c.in_ok-before.ensures.ok.0 c.in_ok-statements.ensures)
    c.loop-item.invariant

pub block_items-returns : goal.block_items-returns
block_items-returns t c =
    let a = around_of c.args.around in
    let f = file_of c.loop-item.file in
    block_done a c.args.items.now c.loop-item.item-index c.loop-item.statements.items f
    (block_items a (items_in c.args.items.now) (file_of c.args.file.now)) c.loop-item-test.false
    c.loop-item.invariant
    ∙ ap (λ z. Ok (f, statements_in (map tree.statement_of z))) (sym c.from_vec.ensures)

pub switch_items-loop-item-preserved : goal.switch_items-loop-item-preserved
switch_items-loop-item-preserved t c =
    let a = around_of c.args.around in
    let x = c.item-item.result in
    let f = file_of c.loop-item.file in
    let new = file_of c.labelled_item.new.file in
    let i = c.in_ok-before.item in
    let type = c.args.value_type in
    switch_turn a type c.args.items.now c.loop-item.item-index x c.loop-item.earlier
    c.with_switch_item.new.earlier c.loop-item.typed.items c.in_ok-typed.typed.items
    (labelled_of i.0.items i.1) f new
    (switch_items a type [] (items_in c.args.items.now) (file_of c.args.file.now)) c.loop-item-test.true c.item-item.is
    (result_typed i c.labelled_item.result (λ item. labelled_of item.0.items item.1) new
    (switch_item a (labels_on type c.loop-item.earlier) (block_item_of x) f) c.in_ok-before.ensures.ok.1
    c.labelled_item.ensures)
    c.in_ok-typed.ensures.labels
    (grown c.in_ok-before.before c.loop-item.typed c.in_ok-typed.typed (λ v. map item_of v.items)
    (i.0.items, tree.statement_of i.1) c.in_ok-before.ensures.ok.0 c.in_ok-typed.ensures.items)
    c.loop-item.invariant

pub switch_items-returns : goal.switch_items-returns
switch_items-returns t c =
    let a = around_of c.args.around in
    switch_done a c.args.value_type c.args.items.now c.loop-item.item-index c.loop-item.earlier
    c.loop-item.typed.items (file_of c.loop-item.file)
    (switch_items a c.args.value_type [] (items_in c.args.items.now) (file_of c.args.file.now)) c.loop-item-test.false
    c.loop-item.invariant

pub switch_items-returns-in_err-before : goal.switch_items-returns-in_err-before
switch_items-returns-in_err-before t c =
    let a = around_of c.args.around in
    let i = c.labelled_item.result in
    switch_refused _ (λ item. labelled_of item.0.items item.1) a c.args.value_type c.args.items.now
    c.loop-item.item-index c.item-item.result c.loop-item.earlier c.loop-item.typed.items (file_of c.loop-item.file)
    (file_of c.labelled_item.new.file)
    (switch_items a c.args.value_type [] (items_in c.args.items.now) (file_of c.args.file.now))
    c.from_residual.result i c.in_err-before.field-0.0 c.loop-item-test.true c.item-item.is c.labelled_item.ensures
    (c.in_err-before.ensures.err _ refl) (search rules)
    c.loop-item.invariant
