use Rattle.std.proofs.Common.{rules, arith, ◌-◌, ◌+◌, length, sym, ◌∙◌, map, refl}
use Rattle.std.proofs.lemmas.Grind.{common_steps}
use Rattle.c_syntax.specs.View.{behind_comma}
use Rattle.c_syntax.specs.StatementsView.{item_of}
use Rattle.c_grammar.specs.InitializerReader.{item_from, initializers}
use Rattle.c_grammar.specs.Nested.{readers}
use Rattle.c_grammar.specs.Reader.{behind_commas_to_brace}
use Rattle.c_parser.proofs.InitializerLists.{extending_to_brace, to_brace_turn, to_brace_fails, to_brace_last}
use Rattle.c_parser.proofs.InitializerLists.{to_brace_end, to_brace_done}
use Rattle.c_expressions.proofs.Given.{read, refused}
use Rattle.c_grammar.proofs.Turns.{one_more, no_more}
use Rattle.c_parser.proofs.initializer.Initializers.more_items.Goals as goal

pub returns-in_default : goal.returns-in_default
returns-in_default g c =
    let e = c.loop.invariant ∙ to_brace_end (item_from (readers c.args.self.now.names.now c.args.self.now.levels)
    (initializers c.args.self.now.names.now c.args.self.now.levels)) _ (map (behind_comma item_of) c.loop.others.items)
    c.loop.tokens.rest.now c.in_default.ensures.0 in
    first_of (search rules, grind (arith, common_steps))

pub returns-then-next_is : goal.returns-then-next_is
returns-then-next_is g c =
    let e = one_more (λ n. extending_to_brace (map (behind_comma item_of) c.loop.others.items)
    (behind_commas_to_brace (item_from (readers c.args.self.now.names.now c.args.self.now.levels)
    (initializers c.args.self.now.names.now c.args.self.now.levels)) n c.loop.tokens.rest.now)) _ c.loop.counter
    c.loop-test.true c.loop.invariant in
    let f = e ∙ to_brace_last (item_from (readers c.args.self.now.names.now c.args.self.now.levels)
    (initializers c.args.self.now.names.now c.args.self.now.levels))
    (length c.args.tokens.now.rest.now - (c.loop.counter + 1)) (map (behind_comma item_of) c.loop.others.items)
    c.loop.tokens.rest.now c.in-Some.position c.take.new.self.rest.now c.in-Some.ensures
    (sym c.next_is.ensures ∙ c.if-next_is.true) in
    first_of (search rules, grind (arith, common_steps))

pub returns-in_err-before : goal.returns-in_err-before
returns-in_err-before g c =
    let e = one_more (λ n. extending_to_brace (map (behind_comma item_of) c.loop.others.items)
    (behind_commas_to_brace (item_from (readers c.args.self.now.names.now c.args.self.now.levels)
    (initializers c.args.self.now.names.now c.args.self.now.levels)) n c.loop.tokens.rest.now)) _ c.loop.counter
    c.loop-test.true c.loop.invariant in
    let f = to_brace_fails (item_from (readers c.args.self.now.names.now c.args.self.now.levels)
    (initializers c.args.self.now.names.now c.args.self.now.levels))
    (length c.args.tokens.now.rest.now - (c.loop.counter + 1)) (map (behind_comma item_of) c.loop.others.items)
    c.loop.tokens.rest.now c.in-Some.position c.take.new.self.rest.now c.item.new.tokens.rest.now _
    c.in_err-before.field-0.0 e c.in-Some.ensures (sym c.next_is.ensures ∙ c.if-next_is.false)
    (refused item_of _ _ _ _ c.item.ensures (c.in_err-before.ensures.err _ refl)) in
    first_of (search rules, grind (arith, common_steps))

pub loop-preserved : goal.loop-preserved
loop-preserved g c =
    let e = one_more (λ n. extending_to_brace (map (behind_comma item_of) c.loop.others.items)
    (behind_commas_to_brace (item_from (readers c.args.self.now.names.now c.args.self.now.levels)
    (initializers c.args.self.now.names.now c.args.self.now.levels)) n c.loop.tokens.rest.now)) _ c.loop.counter
    c.loop-test.true c.loop.invariant in
    rw (c.in_ok-others.ensures, c.in_ok-before.ensures.ok.0) (e
    ∙ to_brace_turn item_of (item_from (readers c.args.self.now.names.now c.args.self.now.levels)
    (initializers c.args.self.now.names.now c.args.self.now.levels))
    (length c.args.tokens.now.rest.now - (c.loop.counter + 1)) c.loop.others.items c.in_ok-before.item
    c.loop.tokens.rest.now c.in-Some.position c.take.new.self.rest.now c.item.new.tokens.rest.now c.in-Some.ensures
    (sym c.next_is.ensures ∙ c.if-next_is.false) (read item_of _ _ _ _ c.item.ensures c.in_ok-before.ensures.ok.1))

pub returns : goal.returns
returns g c =
    let e = no_more (λ n. extending_to_brace (map (behind_comma item_of) c.loop.others.items)
    (behind_commas_to_brace (item_from (readers c.args.self.now.names.now c.args.self.now.levels)
    (initializers c.args.self.now.names.now c.args.self.now.levels)) n c.loop.tokens.rest.now)) _ c.loop.counter
    c.loop-test.false c.loop.invariant ∙ to_brace_done (item_from
    (readers c.args.self.now.names.now c.args.self.now.levels)
    (initializers c.args.self.now.names.now c.args.self.now.levels)) (map (behind_comma item_of) c.loop.others.items)
    c.loop.tokens.rest.now in
    first_of (search rules, grind (arith, common_steps))
