use Rattle.std.proofs.Common.{◌≡◌, ◌-◌, ◌+◌, ◌*◌, length}
use Rattle.c_grammar.specs.Reader.{up_to_brace}
use Rattle.c_grammar.specs.StatementReader.{statements, block_item_from}
use Rattle.c_parser.specs.StatementSteps.{block_items_in}
use Rattle.c_grammar.proofs.Extending.{extending}
use Rattle.c_parser.proofs.statement.Statements.+reader.Given as goal

abbrev pub decreases-block : goal.decreases-block
decreases-block l = 10 * l.depth + 1

abbrev pub decreases-block_at : goal.decreases-block_at
decreases-block_at l = 10 * l.depth + 5

abbrev pub decreases-block_item : goal.decreases-block_item
decreases-block_item l = 10 * l.depth + 3

abbrev pub decreases-block_items : goal.decreases-block_items
decreases-block_items l = 10 * l.depth + 4

abbrev pub decreases-by_keyword : goal.decreases-by_keyword
decreases-by_keyword l = 10 * l.depth + 7

abbrev pub decreases-by_punctuator : goal.decreases-by_punctuator
decreases-by_punctuator l = 10 * l.depth + 7

abbrev pub decreases-by_word : goal.decreases-by_word
decreases-by_word l = 10 * l.depth + 8

abbrev pub decreases-case_statement : goal.decreases-case_statement
decreases-case_statement l = 10 * l.depth + 5

abbrev pub decreases-default_statement : goal.decreases-default_statement
decreases-default_statement l = 10 * l.depth + 5

abbrev pub decreases-do_statement : goal.decreases-do_statement
decreases-do_statement l = 10 * l.depth + 5

abbrev pub decreases-for_statement : goal.decreases-for_statement
decreases-for_statement l = 10 * l.depth + 5

abbrev pub decreases-if_statement : goal.decreases-if_statement
decreases-if_statement l = 10 * l.depth + 5

abbrev pub decreases-otherwise : goal.decreases-otherwise
decreases-otherwise l = 10 * l.depth + 3

abbrev pub decreases-outer : goal.decreases-outer
decreases-outer l = 10 * l.depth + 6

abbrev pub decreases-statement : goal.decreases-statement
decreases-statement l = 10 * l.depth

abbrev pub decreases-statement_at : goal.decreases-statement_at
decreases-statement_at l = 10 * l.depth + 9

abbrev pub decreases-switch_statement : goal.decreases-switch_statement
decreases-switch_statement l = 10 * l.depth + 5

abbrev pub decreases-while_statement : goal.decreases-while_statement
decreases-while_statement l = 10 * l.depth + 5

abbrev pub invariant-block_items-loop : goal.invariant-block_items-loop
invariant-block_items-loop l =
    up_to_brace (block_item_from l.self.levels l.self.names.now (statements l.self.levels l.self.names.now l.depth))
    (length l.fn.tokens.rest.now) l.fn.tokens.rest.now
    ≡ extending (block_items_in l.items.items)
    (up_to_brace (block_item_from l.self.levels l.self.names.now (statements l.self.levels l.self.names.now l.depth))
    (l.end - l.counter) l.tokens.rest.now)
