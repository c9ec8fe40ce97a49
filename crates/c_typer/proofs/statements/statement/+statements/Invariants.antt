use Rattle.std.proofs.Common.{◌≡◌, [], drop, map}
use Rattle.c_syntax.specs.StatementsView.{items_in}
use Rattle.c_tree.specs.View.{statement_of}
use Rattle.c_programs.specs.FileState.{file_of}
use Rattle.c_unit_typing.specs.Statements.{block_items, switch_items}
use Rattle.c_typer.specs.Around.{around_of, item_of}
use Rattle.c_typer.proofs.Items.{items_behind, switch_items_behind}
use Rattle.c_typer.proofs.statements.statement.+statements.Given as goal

abbrev pub invariant-block_items-loop-item : goal.invariant-block_items-loop-item
invariant-block_items-loop-item l =
    items_behind (around_of l.around) (map statement_of l.statements.items) (items_in (drop l.item-index l.items))
    (file_of l.file)
    ≡ block_items (around_of l.around) (items_in l.items) (file_of l.fn.file)

abbrev pub invariant-switch_items-loop-item : goal.invariant-switch_items-loop-item
invariant-switch_items-loop-item l =
    switch_items_behind (around_of l.around) l.value_type l.earlier (map item_of l.typed.items)
    (items_in (drop l.item-index l.items)) (file_of l.file)
    ≡ switch_items (around_of l.around) l.value_type [] (items_in l.items) (file_of l.fn.file)
