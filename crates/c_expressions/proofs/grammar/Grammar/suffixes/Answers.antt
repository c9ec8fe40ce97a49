use Rattle.std.proofs.Common.{rules, arith, ◌-◌, ◌+◌, sym, ◌∙◌}
use Rattle.std.proofs.lemmas.Grind.{common_steps}
use Rattle.c_syntax.specs.View.{declarator_of}
use Rattle.c_grammar.specs.DeclaratorReader.{suffixes_from}
use Rattle.c_grammar.specs.Nested.{readers}
use Rattle.c_expressions.proofs.SuffixSteps.{suffix_turn, suffix_fails, suffix_end, suffix_done}
use Rattle.c_grammar.proofs.Turns.{one_more, no_more}
use Rattle.c_expressions.proofs.grammar.Grammar.suffixes.Goals as goal

pub returns-in_err-left : goal.returns-in_err-left
returns-in_err-left g c =
    let e = one_more (λ n. suffixes_from c.args.self.now.names.now
    (readers c.args.self.now.names.now c.args.self.now.levels) c.args.self.now.levels n (declarator_of c.loop.left.tree)
    c.loop.tokens.rest.now) c.args.self.now.levels c.loop.counter c.loop-test.true c.loop.invariant.read in
    let f = suffix_fails c.args.self.now.names.now (readers c.args.self.now.names.now c.args.self.now.levels)
    c.args.self.now.levels (c.args.self.now.levels - (c.loop.counter + 1)) (declarator_of c.loop.left.tree)
    c.loop.tokens.rest.now c.suffix.new.tokens.rest.now c.loop.left.levels _ c.in_err-left.field-0.0 e
    c.loop.invariant.known.said_levels (sym c.begins_suffix.ensures ∙ c.if-not-begins_suffix.false)
    c.in_err-left.ensures in
    first_of (search rules, grind (arith, common_steps))

pub returns-then-not-begins_suffix : goal.returns-then-not-begins_suffix
returns-then-not-begins_suffix g c = (
  c.loop.invariant.read ∙ suffix_end c.args.self.now.names.now
      (readers c.args.self.now.names.now c.args.self.now.levels) c.args.self.now.levels _
      (declarator_of c.loop.left.tree) c.loop.tokens.rest.now c.loop.left.levels
      c.loop.invariant.known.said_levels (sym c.begins_suffix.ensures ∙ c.if-not-begins_suffix.true),
  c.loop.invariant.known,
)

pub loop-preserved : goal.loop-preserved
loop-preserved g c =
    let e = one_more (λ n. suffixes_from c.args.self.now.names.now
    (readers c.args.self.now.names.now c.args.self.now.levels) c.args.self.now.levels n (declarator_of c.loop.left.tree)
    c.loop.tokens.rest.now) c.args.self.now.levels c.loop.counter c.loop-test.true c.loop.invariant.read in
    record {
      read = e ∙ suffix_turn c.args.self.now.names.now (readers c.args.self.now.names.now c.args.self.now.levels)
          c.args.self.now.levels (c.args.self.now.levels - (c.loop.counter + 1)) (declarator_of c.loop.left.tree)
          (declarator_of c.in_ok-left.left.tree)
          c.loop.tokens.rest.now c.suffix.new.tokens.rest.now c.loop.left.levels c.loop.invariant.known.said_levels
          (sym c.begins_suffix.ensures ∙ c.if-not-begins_suffix.false) c.in_ok-left.ensures.0;
      known = c.in_ok-left.ensures.1;
    }

pub returns : goal.returns
returns g c = (
  no_more (λ n. suffixes_from c.args.self.now.names.now (readers c.args.self.now.names.now c.args.self.now.levels)
      c.args.self.now.levels n (declarator_of c.loop.left.tree) c.loop.tokens.rest.now) c.args.self.now.levels
      c.loop.counter c.loop-test.false c.loop.invariant.read
      ∙ suffix_done c.args.self.now.names.now (readers c.args.self.now.names.now c.args.self.now.levels)
      c.args.self.now.levels (declarator_of c.loop.left.tree) c.loop.tokens.rest.now,
  c.loop.invariant.known,
)
