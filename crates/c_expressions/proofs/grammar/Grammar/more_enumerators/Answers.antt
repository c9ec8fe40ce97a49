use Rattle.std.proofs.Common.{rules, arith, map, length, refl, sym, ◌∙◌, ap}
use Rattle.std.proofs.lemmas.Grind.{common_steps}
use Rattle.c_syntax.specs.Levels.{enumerator_levels, more_enumerators_levels}
use Rattle.c_syntax.specs.View.{enumerator_of, behind_comma, more_enumerators_of}
use Rattle.c_grammar.specs.Nested.{readers}
use Rattle.c_grammar.specs.Reader.{behind_commas_to_brace}
use Rattle.c_grammar.specs.SpecifierReader.{enumerator_from}
use Rattle.c_grammar.proofs.Extending.{extending_last, last_turn, last_fails, last_comma, last_end, last_done}
use Rattle.c_grammar.proofs.Extending.{levels_turn}
use Rattle.c_expressions.proofs.Given.{given, failed}
use Rattle.c_grammar.proofs.Turns.{one_more, no_more}
use Rattle.c_expressions.proofs.grammar.Grammar.more_enumerators.Goals as goal

pub returns-in_default : goal.returns-in_default
returns-in_default g c =
    let e = c.loop.invariant.read ∙ last_end (enumerator_from c.args.self.now.names.now
    (readers c.args.self.now.names.now c.args.self.now.levels) c.args.self.now.levels) _
    (map (behind_comma enumerator_of) c.loop.others.tree.items) c.loop.tokens.rest.now c.in_default.ensures.0 in
    first_of (search rules, grind (arith, common_steps))

pub returns-then-next_is : goal.returns-then-next_is
returns-then-next_is g c =
    let e = one_more (λ n. extending_last (map (behind_comma enumerator_of) c.loop.others.tree.items)
    (behind_commas_to_brace (enumerator_from c.args.self.now.names.now
    (readers c.args.self.now.names.now c.args.self.now.levels) c.args.self.now.levels) n c.loop.tokens.rest.now))
    (length c.args.tokens.now.rest.now) c.loop.counter c.loop-test.true c.loop.invariant.read
    ∙ last_comma (enumerator_from c.args.self.now.names.now (readers c.args.self.now.names.now c.args.self.now.levels)
    c.args.self.now.levels) _ (map (behind_comma enumerator_of) c.loop.others.tree.items) c.loop.tokens.rest.now
    c.in-Some.position c.take.new.self.rest.now c.in-Some.ensures (sym c.next_is.ensures ∙ c.if-next_is.true) in
    first_of (search rules, grind (arith, common_steps))

pub returns-in_err-before : goal.returns-in_err-before
returns-in_err-before g c =
    let e = one_more (λ n. extending_last (map (behind_comma enumerator_of) c.loop.others.tree.items)
    (behind_commas_to_brace (enumerator_from c.args.self.now.names.now
    (readers c.args.self.now.names.now c.args.self.now.levels) c.args.self.now.levels) n c.loop.tokens.rest.now))
    (length c.args.tokens.now.rest.now) c.loop.counter c.loop-test.true c.loop.invariant.read in
    let f = last_fails (enumerator_from c.args.self.now.names.now
    (readers c.args.self.now.names.now c.args.self.now.levels) c.args.self.now.levels) _
    (map (behind_comma enumerator_of) c.loop.others.tree.items) c.loop.tokens.rest.now c.in-Some.position
    c.take.new.self.rest.now c.enumerator.new.tokens.rest.now _ c.in_err-before.field-0.0 e c.in-Some.ensures
    (sym c.next_is.ensures ∙ c.if-next_is.false) (failed enumerator_of enumerator_levels _ _ _ _ _ c.enumerator.ensures
    (c.in_err-before.ensures.err _ refl)) in
    first_of (search rules, grind (arith, common_steps))

pub loop-preserved : goal.loop-preserved
loop-preserved g c =
    let r = given enumerator_of enumerator_levels _ _ _ _ _ c.enumerator.ensures c.in_ok-before.ensures.ok.1 in
    let e = one_more (λ n. extending_last (map (behind_comma enumerator_of) c.loop.others.tree.items)
    (behind_commas_to_brace (enumerator_from c.args.self.now.names.now
    (readers c.args.self.now.names.now c.args.self.now.levels) c.args.self.now.levels) n c.loop.tokens.rest.now))
    (length c.args.tokens.now.rest.now) c.loop.counter c.loop-test.true c.loop.invariant.read in
    let l = levels_turn (λ x. enumerator_levels x.1) (λ z. more_enumerators_levels (more_enumerators_of z)) refl
    (λ x z. refl) (λ x. (x.0, enumerator_of x.1)) c.loop.others.tree.items
    (c.in-Some.position, c.in_ok-before.enumerator.tree) in
    record {
      read = rw (c.in_ok-others.ensures.0, c.in_ok-before.ensures.ok.0)
          (e ∙ last_turn enumerator_of (enumerator_from c.args.self.now.names.now
          (readers c.args.self.now.names.now c.args.self.now.levels) c.args.self.now.levels) _ c.loop.others.tree.items
          c.in_ok-before.enumerator.tree
          c.loop.tokens.rest.now c.in-Some.position c.take.new.self.rest.now c.enumerator.new.tokens.rest.now
          c.in-Some.ensures (sym c.next_is.ensures ∙ c.if-next_is.false) r.0);
      known = c.in_ok-others.ensures.1 ∙ rw (c.in_ok-others.ensures.0, c.in_ok-before.ensures.ok.0, l)
          (cc (c.loop.invariant.known, r.1.said_levels));
      low = omega (
        arith,
        c.in_ok-others.ensures.1,
        ap (λ x. x.levels) c.in_ok-before.ensures.ok.0,
        c.loop.invariant.low,
        r.1.low,
      );
    }

pub returns : goal.returns
returns g c =
    let e = no_more (λ n. extending_last (map (behind_comma enumerator_of) c.loop.others.tree.items)
    (behind_commas_to_brace (enumerator_from c.args.self.now.names.now
    (readers c.args.self.now.names.now c.args.self.now.levels) c.args.self.now.levels) n c.loop.tokens.rest.now))
    (length c.args.tokens.now.rest.now) c.loop.counter c.loop-test.false c.loop.invariant.read
    ∙ last_done (enumerator_from c.args.self.now.names.now (readers c.args.self.now.names.now c.args.self.now.levels)
    c.args.self.now.levels) (map (behind_comma enumerator_of) c.loop.others.tree.items) c.loop.tokens.rest.now in
    first_of (search rules, grind (arith, common_steps))
