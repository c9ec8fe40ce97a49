use Rattle.std.proofs.Common.{rules, arith, ◌-◌, ◌+◌, sym, ◌∙◌}
use Rattle.std.proofs.lemmas.Grind.{common_steps}
use Rattle.c_syntax.specs.View.{expression_of}
use Rattle.c_grammar.specs.ExpressionReader.{operations_from}
use Rattle.c_grammar.specs.Nested.{readers}
use Rattle.c_expressions.proofs.OperationSteps.{operation_turn, operation_fails, operation_end, operation_done}
use Rattle.c_grammar.proofs.Turns.{one_more, no_more}
use Rattle.c_expressions.proofs.grammar.Grammar.operations.Goals as goal

pub returns-in_err-left : goal.returns-in_err-left
returns-in_err-left g c =
    let e = one_more (λ n. operations_from c.args.self.now.names.now
    (readers c.args.self.now.names.now c.args.self.now.levels) c.args.self.now.levels n c.args.least
    (expression_of c.loop.left.tree) c.loop.tokens.rest.now) c.args.self.now.levels c.loop.counter c.loop-test.true
    c.loop.invariant.read in
    let f = operation_fails c.args.self.now.names.now (readers c.args.self.now.names.now c.args.self.now.levels)
    c.args.self.now.levels (c.args.self.now.levels - (c.loop.counter + 1)) c.args.least (expression_of c.loop.left.tree)
    c.loop.tokens.rest.now c.operation.new.tokens.rest.now c.loop.left.levels _ c.in_err-left.field-0.0 e
    c.loop.invariant.known.said_levels (sym c.goes_on.ensures ∙ c.if-not-goes_on.false) c.in_err-left.ensures in
    first_of (search rules, grind (arith, common_steps))

pub returns-then-not-goes_on : goal.returns-then-not-goes_on
returns-then-not-goes_on g c = (
  c.loop.invariant.read ∙ operation_end c.args.self.now.names.now
      (readers c.args.self.now.names.now c.args.self.now.levels) c.args.self.now.levels _ c.args.least
      (expression_of c.loop.left.tree) c.loop.tokens.rest.now c.loop.left.levels
      c.loop.invariant.known.said_levels (sym c.goes_on.ensures ∙ c.if-not-goes_on.true),
  c.loop.invariant.known,
)

pub loop-preserved : goal.loop-preserved
loop-preserved g c =
    let e = one_more (λ n. operations_from c.args.self.now.names.now
    (readers c.args.self.now.names.now c.args.self.now.levels) c.args.self.now.levels n c.args.least
    (expression_of c.loop.left.tree) c.loop.tokens.rest.now) c.args.self.now.levels c.loop.counter c.loop-test.true
    c.loop.invariant.read in
    record {
      read = e ∙ operation_turn c.args.self.now.names.now (readers c.args.self.now.names.now c.args.self.now.levels)
          c.args.self.now.levels (c.args.self.now.levels - (c.loop.counter + 1)) c.args.least
          (expression_of c.loop.left.tree) (expression_of c.in_ok-left.left.tree)
          c.loop.tokens.rest.now c.operation.new.tokens.rest.now c.loop.left.levels c.loop.invariant.known.said_levels
          (sym c.goes_on.ensures ∙ c.if-not-goes_on.false) c.in_ok-left.ensures.0;
      known = c.in_ok-left.ensures.1;
    }

pub returns : goal.returns
returns g c = (
  no_more (λ n. operations_from c.args.self.now.names.now (readers c.args.self.now.names.now c.args.self.now.levels)
      c.args.self.now.levels n c.args.least (expression_of c.loop.left.tree) c.loop.tokens.rest.now)
      c.args.self.now.levels c.loop.counter c.loop-test.false c.loop.invariant.read
      ∙ operation_done c.args.self.now.names.now (readers c.args.self.now.names.now c.args.self.now.levels)
      c.args.self.now.levels c.args.least (expression_of c.loop.left.tree) c.loop.tokens.rest.now,
  c.loop.invariant.known,
)
