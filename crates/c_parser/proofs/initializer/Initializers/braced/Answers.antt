use Rattle.std.proofs.Common.{Ok, sym, ap, ◌∙◌}
use Rattle.c_syntax.specs.StatementsView.{item_of}
use Rattle.c_syntax.proofs.StatementViews.{braced_view}
use Rattle.c_grammar.specs.InitializerReader.{item_from, initializers}
use Rattle.c_grammar.specs.Nested.{readers}
use Rattle.c_parser.specs.InitializerSteps.{items_to_brace}
use Rattle.c_expressions.proofs.Given.{read}
use Rattle.c_parser.proofs.InitializerLists.{braced_read}
use Rattle.c_parser.proofs.initializer.Initializers.braced.Goals as goal

pub returns : goal.returns
returns g c =
    let m = read items_to_brace _ _ _ _ c.more_items.ensures c.in_ok-first-2.ensures.ok.1 in
    let r = read (λ p. p) _ _ _ _ c.expect-right.ensures.read c.in_ok-first-3.ensures.ok.1 in
    let first = ap (λ z. z.0) c.in_ok-first-3.ensures.ok.0 ∙ c.in_ok-first-2.ensures.ok.0 ∙ c.in_ok-first.ensures in
    let others = ap (λ z. z.1) c.in_ok-first-3.ensures.ok.0 in
    rw (first, others) (
    braced_read (item_from (readers c.args.self.now.names.now c.args.self.now.levels)
    (initializers c.args.self.now.names.now c.args.self.now.levels)) c.args.tokens.now.rest.now
    c.expect.new.self.rest.now c.item.new.tokens.rest.now c.more_items.new.tokens.rest.now
    c.expect-right.new.self.rest.now c.in_ok-left.left c.in_ok-first-3.right
    (item_of c.in_ok-item.field-0) (items_to_brace (c.in_ok-first-2.others, c.in_ok-first-2.comma))
    c.in_ok-left.ensures.read c.in_ok-item.ensures m r
    ∙ ap (λ y. Ok (y, c.expect-right.new.self.rest.now))
    (sym (braced_view c.in_ok-left.left c.in_ok-item.field-0 c.in_ok-first-2.others c.in_ok-first-2.comma
    c.in_ok-first-3.right))
    )
