use Rattle.std.proofs.Common.{rules, arith, ◌≡◌, ◌-◌, ◌+◌, suc, length, ap, sym, ◌∙◌, subst}
use Rattle.std.proofs.lemmas.Grind.{common_steps}
use Rattle.c_syntax.specs.StatementsView.{statement_of, block_of, block_item_of}
use Rattle.c_grammar.specs.Reader.{up_to_brace}
use Rattle.c_grammar.specs.Reads.{Reads}
use Rattle.c_grammar.specs.StatementReader.{statements, block_item_from}
use Rattle.c_parser.specs.StatementSteps.{block_items_in}
use Rattle.c_grammar.proofs.Extending.{extending, brace_turn, brace_end, each_fails, each_done}
use Rattle.c_grammar.proofs.Taking.{first_word}
use Rattle.c_grammar.proofs.Turns.{one_more, no_more}
use Rattle.c_parser.proofs.FirstWord.{by_first_word}
use Rattle.c_parser.proofs.statement.Statements.+reader.Goals as goal

pub statement-returns-then-depth-eq0 : goal.statement-returns-then-depth-eq0
unfolding statements
statement-returns-then-depth-eq0 t c =
    let none : c.args.depth ≡ 0 = omega arith in
    ap (λ n. (statements c.args.self.now.levels c.args.self.now.names.now n).statement c.args.tokens.now.rest.now) none

pub statement-returns : goal.statement-returns
unfolding statements
statement-returns t c =
    let e : suc (c.args.depth - 1) ≡ c.args.depth = omega arith in
    subst (λ n. Reads statement_of ((statements c.args.self.now.levels c.args.self.now.names.now n).statement
    c.args.tokens.now.rest.now) c.statement_at.result c.statement_at.new.tokens.rest.now) e c.statement_at.ensures

pub block-returns-then-depth-eq0 : goal.block-returns-then-depth-eq0
unfolding statements
block-returns-then-depth-eq0 t c =
    let none : c.args.depth ≡ 0 = omega arith in
    ap (λ n. (statements c.args.self.now.levels c.args.self.now.names.now n).block c.args.tokens.now.rest.now) none

pub block-returns : goal.block-returns
unfolding statements
block-returns t c =
    let e : suc (c.args.depth - 1) ≡ c.args.depth = omega arith in
    subst (λ n. Reads block_of ((statements c.args.self.now.levels c.args.self.now.names.now n).block
    c.args.tokens.now.rest.now) c.block_at.result c.block_at.new.tokens.rest.now) e c.block_at.ensures

pub block_items-returns-then-next_is : goal.block_items-returns-then-next_is
block_items-returns-then-next_is t c =
    let e = one_more (λ n. extending (block_items_in c.loop.items.items)
    (up_to_brace (block_item_from c.args.self.now.levels c.args.self.now.names.now
    (statements c.args.self.now.levels c.args.self.now.names.now c.args.depth)) n c.loop.tokens.rest.now)) _
    c.loop.counter c.loop-test.true c.loop.invariant in
    let f = e ∙ brace_end (block_item_from c.args.self.now.levels c.args.self.now.names.now
    (statements c.args.self.now.levels c.args.self.now.names.now c.args.depth))
    (length c.args.tokens.now.rest.now - (c.loop.counter + 1)) (block_items_in c.loop.items.items)
    c.loop.tokens.rest.now (sym c.next_is.ensures ∙ c.if-next_is.true) in
    first_of (search rules, grind (arith, common_steps))

pub block_items-returns-in_err-item : goal.block_items-returns-in_err-item
block_items-returns-in_err-item t c =
    let e = one_more (λ n. extending (block_items_in c.loop.items.items)
    (up_to_brace (block_item_from c.args.self.now.levels c.args.self.now.names.now
    (statements c.args.self.now.levels c.args.self.now.names.now c.args.depth)) n c.loop.tokens.rest.now)) _
    c.loop.counter c.loop-test.true c.loop.invariant in
    let f = each_fails (block_item_from c.args.self.now.levels c.args.self.now.names.now
    (statements c.args.self.now.levels c.args.self.now.names.now c.args.depth))
    (length c.args.tokens.now.rest.now - (c.loop.counter + 1)) (block_items_in c.loop.items.items)
    c.loop.tokens.rest.now c.block_item.new.tokens.rest.now _ c.in_err-item.field-0.0 e
    (sym c.next_is.ensures ∙ c.if-next_is.false) c.in_err-item.ensures in
    first_of (search rules, grind (arith, common_steps))

pub block_items-loop-preserved : goal.block_items-loop-preserved
block_items-loop-preserved t c =
    let e = one_more (λ n. extending (block_items_in c.loop.items.items)
    (up_to_brace (block_item_from c.args.self.now.levels c.args.self.now.names.now
    (statements c.args.self.now.levels c.args.self.now.names.now c.args.depth)) n c.loop.tokens.rest.now)) _
    c.loop.counter c.loop-test.true c.loop.invariant in
    rw c.in_ok-push.ensures.items (e ∙ brace_turn block_item_of
    (block_item_from c.args.self.now.levels c.args.self.now.names.now
    (statements c.args.self.now.levels c.args.self.now.names.now c.args.depth))
    (length c.args.tokens.now.rest.now - (c.loop.counter + 1)) c.loop.items.items c.in_ok-item.item
    c.loop.tokens.rest.now c.block_item.new.tokens.rest.now (sym c.next_is.ensures ∙ c.if-next_is.false)
    c.in_ok-item.ensures)

pub block_items-returns : goal.block_items-returns
block_items-returns t c =
    let e = no_more (λ n. extending (block_items_in c.loop.items.items)
    (up_to_brace (block_item_from c.args.self.now.levels c.args.self.now.names.now
    (statements c.args.self.now.levels c.args.self.now.names.now c.args.depth)) n c.loop.tokens.rest.now)) _
    c.loop.counter c.loop-test.false c.loop.invariant ∙ each_done
    (block_item_from c.args.self.now.levels c.args.self.now.names.now
    (statements c.args.self.now.levels c.args.self.now.names.now c.args.depth)) (block_items_in c.loop.items.items)
    c.loop.tokens.rest.now in
    first_of (search rules, grind (arith, common_steps))

pub statement_at-by_word-requires : goal.statement_at-by_word-requires
statement_at-by_word-requires t c =
    let f = first_word c.args.tokens.now.rest.now c.first-item.result c.in-len1-up.len_at_least c.first-item.is in
    first_of (search rules, grind (arith, common_steps))

pub statement_at-returns : goal.statement_at-returns
statement_at-returns t c =
    subst (λ o. Reads statement_of o c.by_word.result c.by_word.new.tokens.rest.now)
    (by_first_word c.args.self.now.levels c.args.self.now.names.now
    (statements c.args.self.now.levels c.args.self.now.names.now c.args.depth) c.args.depth c.args.tokens.now.rest.now
    c.first-item.result c.in-len1-up.len_at_least c.first-item.is)
    c.by_word.ensures
