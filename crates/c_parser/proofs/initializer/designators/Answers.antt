use Rattle.std.proofs.Common.{rules, arith, ◌-◌, ◌+◌, length, sym, ◌∙◌, refl}
use Rattle.std.proofs.lemmas.Grind.{common_steps}
use Rattle.c_syntax.specs.StatementsView.{designator_of, designators_in}
use Rattle.c_grammar.specs.InitializerReader.{designators_from}
use Rattle.c_grammar.specs.Nested.{readers}
use Rattle.c_grammar.proofs.Extending.{extending}
use Rattle.c_parser.proofs.InitializerLists.{designator_turn, designator_fails, designators_end, designators_done}
use Rattle.c_expressions.proofs.Given.{read, refused}
use Rattle.c_grammar.proofs.Turns.{one_more, no_more}
use Rattle.c_parser.proofs.initializer.designators.Goals as goal

pub returns-then-not-begins_designator : goal.returns-then-not-begins_designator
returns-then-not-begins_designator c =
    let e = c.loop.invariant ∙ designators_end (readers c.args.names.now c.args.levels) _
    (designators_in c.loop.designators.items) c.loop.tokens.rest.now
    (sym c.begins_designator.ensures ∙ c.if-not-begins_designator.true) in
    first_of (search rules, grind (arith, common_steps))

pub returns-in_err-before : goal.returns-in_err-before
returns-in_err-before c =
    let e = one_more (λ n. extending (designators_in c.loop.designators.items)
    (designators_from (readers c.args.names.now c.args.levels) n c.loop.tokens.rest.now)) _ c.loop.counter
    c.loop-test.true c.loop.invariant in
    let f = designator_fails (readers c.args.names.now c.args.levels)
    (length c.args.tokens.now.rest.now - (c.loop.counter + 1)) (designators_in c.loop.designators.items)
    c.loop.tokens.rest.now c.designator.new.tokens.rest.now _ c.in_err-before.field-0.0 e
    (sym c.begins_designator.ensures ∙ c.if-not-begins_designator.false)
    (refused designator_of _ _ _ _ c.designator.ensures (c.in_err-before.ensures.err _ refl)) in
    first_of (search rules, grind (arith, common_steps))

pub loop-preserved : goal.loop-preserved
loop-preserved c =
    let e = one_more (λ n. extending (designators_in c.loop.designators.items)
    (designators_from (readers c.args.names.now c.args.levels) n c.loop.tokens.rest.now)) _ c.loop.counter
    c.loop-test.true c.loop.invariant in
    rw (c.in_ok-designators.ensures, c.in_ok-before.ensures.ok.0)
    (e ∙ designator_turn (readers c.args.names.now c.args.levels)
    (length c.args.tokens.now.rest.now - (c.loop.counter + 1)) c.loop.designators.items c.in_ok-before.next
    c.loop.tokens.rest.now c.designator.new.tokens.rest.now (sym c.begins_designator.ensures
    ∙ c.if-not-begins_designator.false) (read designator_of _ _ _ _ c.designator.ensures
    c.in_ok-before.ensures.ok.1))

pub returns : goal.returns
returns c =
    let e = no_more (λ n. extending (designators_in c.loop.designators.items)
    (designators_from (readers c.args.names.now c.args.levels) n c.loop.tokens.rest.now)) _ c.loop.counter
    c.loop-test.false c.loop.invariant ∙ designators_done (readers c.args.names.now c.args.levels)
    (designators_in c.loop.designators.items) c.loop.tokens.rest.now in
    first_of (search rules, grind (arith, common_steps))
