-- Lists as the code has them, for the contracts of functions that read statements.
use Rattle.std.specs.Prelude.{List, map}
use Rattle.c_syntax.specs.declared.statement.BlockItem as rk
use Rattle.c_syntax.specs.Statements as s
use Rattle.c_syntax.specs.StatementsView.{block_item_of}

-- declarations and statements of a block
abbrev pub block_items_in : List rk.BlockItem → List s.BlockItem
block_items_in z = map block_item_of z
