use Rattle.std.proofs.Common.{rules, arith, ◌-◌, ◌+◌, length, ◌∙◌, ◌≡◌, true, refl}
use Rattle.std.proofs.lemmas.Grind.{common_steps}
use Rattle.c_syntax.specs.Formed.{names_after}
use Rattle.c_syntax.specs.View.{declarator_of}
use Rattle.c_syntax.specs.StatementsView.{init_declarator_of, more_init_declarators_in}
use Rattle.c_grammar.specs.DeclarationReader.{more_init_declarators_from}
use Rattle.c_grammar.proofs.Extending.{extending}
use Rattle.c_parser.proofs.Typedefs.{init_declarator_turn, init_declarator_fails, init_declarators_end}
use Rattle.c_parser.proofs.Typedefs.{init_declarators_done, names_turn}
use Rattle.c_expressions.proofs.Given.{read, refused, of_ok}
use Rattle.c_grammar.proofs.Turns.{one_more, no_more}
use Rattle.c_parser.proofs.declaration.more_typedef_declarators.Goals as goal

pub returns-in_default-clause-read : goal.returns-in_default-clause-read
returns-in_default-clause-read c =
    let e = c.loop.invariant.read ∙ init_declarators_end c.args.levels true _ c.loop.names
    (more_init_declarators_in c.loop.others.items) c.loop.tokens.rest.now c.in_default.ensures.0 in
    first_of (search rules, grind (arith, common_steps))

pub returns-in_err-before-clause-read : goal.returns-in_err-before-clause-read
returns-in_err-before-clause-read c =
    let e = one_more (λ n. extending (more_init_declarators_in c.loop.others.items)
    (more_init_declarators_from c.args.levels true n c.loop.names c.loop.tokens.rest.now)) _ c.loop.counter
    c.loop-test.true c.loop.invariant.read in
    let f = init_declarator_fails c.args.levels true (length c.args.tokens.now.rest.now - (c.loop.counter + 1))
    c.loop.names (more_init_declarators_in c.loop.others.items) c.loop.tokens.rest.now c.in-Some.position
    c.take.new.self.rest.now c.typedef_declarator.new.tokens.rest.now _ c.in_err-before.field-0.0 e c.in-Some.ensures
    (refused init_declarator_of _ _ _ _ c.typedef_declarator.ensures.read (c.in_err-before.ensures.err _ refl)) in
    first_of (search rules, grind (arith, common_steps))

pub loop-preserved : goal.loop-preserved
loop-preserved c =
    let n = of_ok (λ x. c.typedef_declarator.new.names ≡ names_after true (declarator_of x.declarator)
    c.loop.names) _ _ c.typedef_declarator.ensures.names c.in_ok-before.ensures.ok.1 in
    let e = one_more (λ n. extending (more_init_declarators_in c.loop.others.items)
    (more_init_declarators_from c.args.levels true n c.loop.names c.loop.tokens.rest.now)) _ c.loop.counter
    c.loop-test.true c.loop.invariant.read in
    record {
      read = rw (c.in_ok-others.ensures, c.in_ok-before.ensures.ok.0, n)
          (e ∙ init_declarator_turn c.args.levels true (length c.args.tokens.now.rest.now - (c.loop.counter + 1))
          c.loop.names c.loop.others.items c.in_ok-before.other c.loop.tokens.rest.now c.in-Some.position
          c.take.new.self.rest.now c.typedef_declarator.new.tokens.rest.now c.in-Some.ensures
          (read init_declarator_of _ _ _ _ c.typedef_declarator.ensures.read c.in_ok-before.ensures.ok.1));
      added = rw (c.in_ok-others.ensures, c.in_ok-before.ensures.ok.0)
          (names_turn c.loop.others.items c.in-Some.position c.in_ok-before.other c.args.names.now
          c.loop.names c.typedef_declarator.new.names c.loop.invariant.added n);
    }

pub returns-clause-read : goal.returns-clause-read
returns-clause-read c =
    let e = no_more (λ n. extending (more_init_declarators_in c.loop.others.items)
    (more_init_declarators_from c.args.levels true n c.loop.names c.loop.tokens.rest.now)) _ c.loop.counter
    c.loop-test.false c.loop.invariant.read ∙ init_declarators_done c.args.levels true c.loop.names
    (more_init_declarators_in c.loop.others.items) c.loop.tokens.rest.now in
    first_of (search rules, grind (arith, common_steps))
