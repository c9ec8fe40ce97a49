use Rattle.std.proofs.Common.{rules, arith, ◌≡◌, ◌-◌, [], ◌∷◌, map, length, refl, ap, sym, ◌∙◌}
use Rattle.std.proofs.lemmas.Grind.{common_steps}
use Rattle.c_syntax.specs.Levels.{member_levels, members_levels}
use Rattle.c_syntax.specs.View.{member_of, members_of}
use Rattle.c_grammar.specs.Nested.{readers}
use Rattle.c_grammar.specs.Reader.{up_to_brace}
use Rattle.c_grammar.specs.SpecifierReader.{member_from}
use Rattle.c_grammar.proofs.Extending.{extending, brace_turn, brace_fails, brace_end, brace_done, levels_turn}
use Rattle.c_expressions.proofs.MemberSteps.{members_read, members_start, members_fail}
use Rattle.c_expressions.proofs.Given.{given, failed}
use Rattle.c_grammar.proofs.Turns.{one_more, no_more}
use Rattle.c_expressions.proofs.grammar.Grammar.members.Goals as goal

pub returns-in_err-first : goal.returns-in_err-first
returns-in_err-first g c =
    let f = members_fail c.args.self.now.names.now (readers c.args.self.now.names.now c.args.self.now.levels)
    c.args.self.now.levels c.args.tokens.now.rest.now c.member_declaration.new.tokens.rest.now c.in_err-first.field-0.0
    c.in_err-first.ensures in
    first_of (search rules, grind (arith, common_steps))

pub loop-init : goal.loop-init
loop-init g c =
    let e = members_start c.args.self.now.names.now (readers c.args.self.now.names.now c.args.self.now.levels)
    c.args.self.now.levels c.in_ok-first.first.tree c.args.tokens.now.rest.now c.member_declaration.new.tokens.rest.now
    c.in_ok-first.ensures.0 in
    let none : length c.member_declaration.new.tokens.rest.now - 0 ≡ length c.member_declaration.new.tokens.rest.now =
    omega arith in
    record {
      read = rw (c.in_ok-members.ensures.0, c.no_trees-none.ensures.trees)
          (e
          ∙ ap (λ n. members_read (extending (member_of c.in_ok-first.first.tree ∷ [])
          (up_to_brace (member_from c.args.self.now.names.now (readers c.args.self.now.names.now c.args.self.now.levels)
          c.args.self.now.levels) n c.member_declaration.new.tokens.rest.now))) (sym none));
      known = rw (
        c.in_ok-members.ensures.0,
        c.in_ok-members.ensures.1,
        c.no_trees-none.ensures.trees,
        c.no_trees-none.ensures.levels,
      ) (omega (arith, c.in_ok-first.ensures.1.said_levels));
      low = omega (arith, c.in_ok-members.ensures.1, c.no_trees-none.ensures.levels, c.in_ok-first.ensures.1.low);
    }

pub returns-then-next_is : goal.returns-then-next_is
returns-then-next_is g c =
    let e =
    one_more (λ n. members_read (extending (map member_of c.loop.members.tree.items)
    (up_to_brace (member_from c.args.self.now.names.now (readers c.args.self.now.names.now c.args.self.now.levels)
    c.args.self.now.levels) n c.loop.tokens.rest.now))) (length c.member_declaration.new.tokens.rest.now) c.loop.counter
    c.loop-test.true c.loop.invariant.read ∙ ap members_read (brace_end
    (member_from c.args.self.now.names.now (readers c.args.self.now.names.now c.args.self.now.levels)
    c.args.self.now.levels) _ (map member_of c.loop.members.tree.items) c.loop.tokens.rest.now
    (sym c.next_is.ensures ∙ c.if-next_is.true)) in
    first_of (search rules, grind (arith, common_steps))

pub returns-in_err-before : goal.returns-in_err-before
returns-in_err-before g c =
    let e =
    one_more (λ n. members_read (extending (map member_of c.loop.members.tree.items)
    (up_to_brace (member_from c.args.self.now.names.now (readers c.args.self.now.names.now c.args.self.now.levels)
    c.args.self.now.levels) n c.loop.tokens.rest.now))) (length c.member_declaration.new.tokens.rest.now) c.loop.counter
    c.loop-test.true c.loop.invariant.read in
    let f = brace_fails (member_from c.args.self.now.names.now
    (readers c.args.self.now.names.now c.args.self.now.levels) c.args.self.now.levels) _
    (map member_of c.loop.members.tree.items) c.loop.tokens.rest.now c.member_declaration-in-loop.new.tokens.rest.now
    members_of _ c.in_err-before.field-0.0 e (sym c.next_is.ensures ∙ c.if-next_is.false)
    (failed member_of member_levels _ _ _ _ _ c.member_declaration-in-loop.ensures
    (c.in_err-before.ensures.err _ refl)) in
    first_of (search rules, grind (arith, common_steps))

pub loop-preserved : goal.loop-preserved
loop-preserved g c =
    let r = given member_of member_levels _ _ _ _ _ c.member_declaration-in-loop.ensures c.in_ok-before.ensures.ok.1 in
    let e =
    one_more (λ n. members_read (extending (map member_of c.loop.members.tree.items)
    (up_to_brace (member_from c.args.self.now.names.now (readers c.args.self.now.names.now c.args.self.now.levels)
    c.args.self.now.levels) n c.loop.tokens.rest.now))) (length c.member_declaration.new.tokens.rest.now) c.loop.counter
    c.loop-test.true c.loop.invariant.read in
    let l = levels_turn member_levels (λ z. members_levels (members_of z)) refl (λ x z. refl) member_of
    c.loop.members.tree.items c.in_ok-before.member.tree in
    record {
      read = rw (c.in_ok-members-2.ensures.0, c.in_ok-before.ensures.ok.0)
          (e
          ∙ ap members_read (brace_turn member_of (member_from c.args.self.now.names.now
          (readers c.args.self.now.names.now c.args.self.now.levels) c.args.self.now.levels) _ c.loop.members.tree.items
          c.in_ok-before.member.tree c.loop.tokens.rest.now c.member_declaration-in-loop.new.tokens.rest.now
          (sym c.next_is.ensures ∙ c.if-next_is.false) r.0));
      known = c.in_ok-members-2.ensures.1 ∙ rw (c.in_ok-members-2.ensures.0, c.in_ok-before.ensures.ok.0, l)
          (cc (c.loop.invariant.known, r.1.said_levels));
      low = omega (
        arith,
        c.in_ok-members-2.ensures.1,
        ap (λ x. x.levels) c.in_ok-before.ensures.ok.0,
        c.loop.invariant.low,
        r.1.low,
      );
    }

pub returns : goal.returns
returns g c =
    no_more (λ n. members_read (extending (map member_of c.loop.members.tree.items)
    (up_to_brace (member_from c.args.self.now.names.now (readers c.args.self.now.names.now c.args.self.now.levels)
    c.args.self.now.levels) n c.loop.tokens.rest.now))) (length c.member_declaration.new.tokens.rest.now) c.loop.counter
    c.loop-test.false c.loop.invariant.read ∙ brace_done (member_from c.args.self.now.names.now
    (readers c.args.self.now.names.now c.args.self.now.levels) c.args.self.now.levels)
    (map member_of c.loop.members.tree.items) c.loop.tokens.rest.now members_of
