use Rattle.std.proofs.Common.{rules, arith, ◌-◌, ◌+◌, length, refl, ap, sym, ◌∙◌}
use Rattle.std.proofs.lemmas.Grind.{common_steps}
use Rattle.c_syntax.specs.Levels.{specifier_levels, specifiers_levels}
use Rattle.c_syntax.specs.View.{specifier_of, specifiers_of}
use Rattle.c_grammar.specs.Nested.{readers}
use Rattle.c_grammar.specs.SpecifierReader.{specifiers_behind, specifiers_at}
use Rattle.c_expressions.specs.Steps.{specifiers_extending}
use Rattle.c_grammar.proofs.Extending.{levels_turn}
use Rattle.c_expressions.proofs.SpecifierSteps.{specifier_turn, specifier_fails, specifier_end, specifier_done}
use Rattle.c_expressions.proofs.Given.{given, failed}
use Rattle.c_grammar.proofs.Turns.{one_more, no_more}
use Rattle.c_expressions.proofs.grammar.Grammar.specifiers_at.Goals as goal

pub returns-then-not-has_specifier : goal.returns-then-not-has_specifier
unfolding specifiers_at
returns-then-not-has_specifier g c =
    let e = c.loop.invariant.read ∙ ap (λ o. specifiers_extending c.loop.specifiers.tree.items o)
    (specifier_end c.args.self.now.names.now (readers c.args.self.now.names.now c.args.self.now.levels)
    c.args.self.now.levels c.args.allowed _ c.loop.words c.loop.tokens.rest.now
    (sym c.has_specifier.ensures ∙ c.if-not-has_specifier.true)) in
    first_of (search rules, grind (arith, common_steps))

pub returns-in_err-before : goal.returns-in_err-before
unfolding specifiers_at
returns-in_err-before g c =
    let e = one_more (λ n. specifiers_extending c.loop.specifiers.tree.items
    (specifiers_behind c.args.self.now.names.now (readers c.args.self.now.names.now c.args.self.now.levels)
    c.args.self.now.levels c.args.allowed n c.loop.words c.loop.tokens.rest.now)) (length c.args.tokens.now.rest.now)
    c.loop.counter c.loop-test.true c.loop.invariant.read in
    let f = specifier_fails c.args.self.now.names.now (readers c.args.self.now.names.now c.args.self.now.levels)
    c.args.self.now.levels c.args.allowed (length c.args.tokens.now.rest.now - (c.loop.counter + 1)) c.loop.words
    c.loop.specifiers.tree.items c.loop.tokens.rest.now c.specifier.new.tokens.rest.now _ c.in_err-before.field-0.0 e
    (sym c.has_specifier.ensures ∙ c.if-not-has_specifier.false)
    (failed specifier_of specifier_levels _ _ _ _ _ c.specifier.ensures (c.in_err-before.ensures.err _ refl)) in
    first_of (search rules, grind (arith, common_steps))

pub loop-preserved : goal.loop-preserved
loop-preserved g c =
    let r = given specifier_of specifier_levels _ _ _ _ _ c.specifier.ensures c.in_ok-before.ensures.ok.1 in
    let e = one_more (λ n. specifiers_extending c.loop.specifiers.tree.items
    (specifiers_behind c.args.self.now.names.now (readers c.args.self.now.names.now c.args.self.now.levels)
    c.args.self.now.levels c.args.allowed n c.loop.words c.loop.tokens.rest.now)) (length c.args.tokens.now.rest.now)
    c.loop.counter c.loop-test.true c.loop.invariant.read in
    let l = levels_turn specifier_levels (λ z. specifiers_levels (specifiers_of z)) refl (λ x z. refl) specifier_of
    c.loop.specifiers.tree.items c.in_ok-before.specifier.tree in
    record {
      read = rw (c.in_ok-specifiers.ensures.0, c.in_ok-before.ensures.ok.0, c.words_with-words.ensures)
          (e ∙ specifier_turn c.args.self.now.names.now (readers c.args.self.now.names.now c.args.self.now.levels)
          c.args.self.now.levels c.args.allowed (length c.args.tokens.now.rest.now - (c.loop.counter + 1)) c.loop.words
          c.loop.specifiers.tree.items c.in_ok-before.specifier.tree
          c.loop.tokens.rest.now c.specifier.new.tokens.rest.now (sym c.has_specifier.ensures
          ∙ c.if-not-has_specifier.false) r.0);
      known = record {
        said_levels = c.in_ok-specifiers.ensures.1 ∙ rw (c.in_ok-specifiers.ensures.0, c.in_ok-before.ensures.ok.0, l)
            (cc (c.loop.invariant.known.said_levels, r.1.said_levels));
        low = omega (
          arith,
          c.in_ok-specifiers.ensures.1,
          ap (λ x. x.levels) c.in_ok-before.ensures.ok.0,
          c.loop.invariant.known.low,
          r.1.low,
        );
      };
    }

pub returns : goal.returns
unfolding specifiers_at
returns g c =
    let e = no_more (λ n. specifiers_extending c.loop.specifiers.tree.items
    (specifiers_behind c.args.self.now.names.now (readers c.args.self.now.names.now c.args.self.now.levels)
    c.args.self.now.levels c.args.allowed n c.loop.words c.loop.tokens.rest.now)) (length c.args.tokens.now.rest.now)
    c.loop.counter c.loop-test.false c.loop.invariant.read
    ∙ ap (λ o. specifiers_extending c.loop.specifiers.tree.items o)
    (specifier_done c.args.self.now.names.now (readers c.args.self.now.names.now c.args.self.now.levels)
    c.args.self.now.levels c.args.allowed c.loop.words c.loop.tokens.rest.now) in
    first_of (search rules, grind (arith, common_steps))
