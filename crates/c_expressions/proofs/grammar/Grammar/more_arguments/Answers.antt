use Rattle.std.proofs.Common.{rules, arith, None, ◌-◌, ◌+◌, length, refl, ◌∙◌, ap}
use Rattle.std.proofs.lemmas.Grind.{common_steps}
use Rattle.c_syntax.specs.View.{expression_of}
use Rattle.c_syntax.specs.Levels.{expression_levels}
use Rattle.c_grammar.specs.Nested.{readers}
use Rattle.c_grammar.specs.Reader.{behind_commas}
use Rattle.c_grammar.specs.LeastPrecedence as least
use Rattle.c_expressions.specs.Steps.{arguments_behind, arguments_behind_levels}
use Rattle.c_grammar.proofs.Extending.{extending, comma_turn, comma_fails, comma_end, levels_turn}
use Rattle.c_expressions.proofs.Given.{given, failed}
use Rattle.c_grammar.proofs.Turns.{one_more}
use Rattle.c_expressions.proofs.grammar.Grammar.more_arguments.Goals as goal

pub returns-in_err-before : goal.returns-in_err-before
returns-in_err-before g c =
    let e = one_more (λ n. extending (arguments_behind c.loop.others.tree.items)
    (behind_commas ((readers c.args.self.now.names.now c.args.self.now.levels).expression None least.assignment) n
    c.loop.tokens.rest.now)) (length c.args.tokens.now.rest.now) c.loop.counter c.loop-test.true
    c.loop.invariant.read in
    let f = comma_fails ((readers c.args.self.now.names.now c.args.self.now.levels).expression None least.assignment)
    (length c.args.tokens.now.rest.now - (c.loop.counter + 1)) (arguments_behind c.loop.others.tree.items)
    c.loop.tokens.rest.now c.in-Some.position c.take.new.self.rest.now c.expression.new.tokens.rest.now _
    c.in_err-before.field-0.0 e c.in-Some.ensures (failed expression_of expression_levels _ _ _ _ _ c.expression.ensures
    (c.in_err-before.ensures.err _ refl)) in
    first_of (search rules, grind (arith, common_steps))

pub loop-preserved : goal.loop-preserved
loop-preserved g c =
    let r = given expression_of expression_levels _ _ _ _ _ c.expression.ensures c.in_ok-before.ensures.ok.1 in
    let e = one_more (λ n. extending (arguments_behind c.loop.others.tree.items)
    (behind_commas ((readers c.args.self.now.names.now c.args.self.now.levels).expression None least.assignment) n
    c.loop.tokens.rest.now)) (length c.args.tokens.now.rest.now) c.loop.counter c.loop-test.true
    c.loop.invariant.read in
    record {
      read = rw (c.in_ok-others.ensures.0, c.in_ok-before.ensures.ok.0)
          (e ∙ comma_turn expression_of
          ((readers c.args.self.now.names.now c.args.self.now.levels).expression None least.assignment)
          (length c.args.tokens.now.rest.now - (c.loop.counter + 1)) c.loop.others.tree.items
          c.in_ok-before.argument.tree
          c.loop.tokens.rest.now c.in-Some.position c.take.new.self.rest.now c.expression.new.tokens.rest.now
          c.in-Some.ensures r.0);
      known = c.in_ok-others.ensures.1 ∙ rw (
        c.in_ok-others.ensures.0,
        c.in_ok-before.ensures.ok.0,
        levels_turn (λ x. expression_levels x.1) arguments_behind_levels refl (λ x z. refl)
            (λ x. (x.0, expression_of x.1)) c.loop.others.tree.items (c.in-Some.position, c.in_ok-before.argument.tree),
      )
          (cc (c.loop.invariant.known, r.1.said_levels));
      low = omega (
        arith,
        c.in_ok-others.ensures.1,
        ap (λ x. x.levels) c.in_ok-before.ensures.ok.0,
        c.loop.invariant.low,
        r.1.low,
      );
    }

pub returns-in_default : goal.returns-in_default
returns-in_default g c =
    let e = c.loop.invariant.read ∙ comma_end ((readers c.args.self.now.names.now c.args.self.now.levels).expression
    None 2) _ (arguments_behind c.loop.others.tree.items) c.loop.tokens.rest.now c.in_default.ensures.0 in
    first_of (search rules, grind (arith, common_steps))
