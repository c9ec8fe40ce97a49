use Rattle.std.proofs.Common.{rules, arith, ◌-◌, ◌+◌, length, sym, ◌∙◌}
use Rattle.std.proofs.lemmas.Grind.{common_steps}
use Rattle.c_syntax.specs.StatementsView.{externals_in}
use Rattle.c_grammar.specs.UnitReader.{externals_from}
use Rattle.c_grammar.proofs.Extending.{extending}
use Rattle.c_parser.proofs.UnitLists.{external_turn, external_fails, externals_end}
use Rattle.c_grammar.proofs.Turns.{one_more}
use Rattle.c_parser.proofs.unit.externals.Goals as goal

pub returns-then-is_empty : goal.returns-then-is_empty
returns-then-is_empty c =
    let e = c.loop.invariant ∙ externals_end c.args.levels _ c.loop.names (externals_in c.loop.externals.items)
    c.loop.tokens.rest.now (sym c.is_empty.ensures ∙ c.if-is_empty.true) in
    first_of (search rules, grind (arith, common_steps))

pub returns-in_err-external : goal.returns-in_err-external
returns-in_err-external c =
    let e = one_more (λ n. extending (externals_in c.loop.externals.items)
    (externals_from c.args.levels n c.loop.names c.loop.tokens.rest.now)) _ c.loop.counter c.loop-test.true
    c.loop.invariant in
    let f = external_fails c.args.levels (length c.args.tokens.now.rest.now - (c.loop.counter + 1)) c.loop.names
    (externals_in c.loop.externals.items) c.loop.tokens.rest.now c.external.new.tokens.rest.now _
    c.in_err-external.field-0.0 e (sym c.is_empty.ensures ∙ c.if-is_empty.false) c.in_err-external.ensures.read in
    first_of (search rules, grind (arith, common_steps))

pub loop-preserved : goal.loop-preserved
loop-preserved c =
    let e = one_more (λ n. extending (externals_in c.loop.externals.items)
    (externals_from c.args.levels n c.loop.names c.loop.tokens.rest.now)) _ c.loop.counter c.loop-test.true
    c.loop.invariant in
    rw (c.in_ok-push.ensures.items, c.in_ok-external.ensures.names)
    (e ∙ external_turn c.args.levels (length c.args.tokens.now.rest.now - (c.loop.counter + 1)) c.loop.names
    c.loop.externals.items c.in_ok-external.external c.loop.tokens.rest.now c.external.new.tokens.rest.now
    (sym c.is_empty.ensures ∙ c.if-is_empty.false) c.in_ok-external.ensures.read)
