use Rattle.std.proofs.Common.{rules, arith, ◌-◌, ◌+◌, length, ◌∙◌, false, refl}
use Rattle.std.proofs.lemmas.Grind.{common_steps}
use Rattle.c_syntax.specs.StatementsView.{init_declarator_of, more_init_declarators_in}
use Rattle.c_grammar.specs.DeclarationReader.{more_init_declarators_from}
use Rattle.c_grammar.proofs.Extending.{extending}
use Rattle.c_parser.proofs.Typedefs.{init_declarator_turn, init_declarator_fails, init_declarators_end}
use Rattle.c_parser.proofs.Typedefs.{init_declarators_done}
use Rattle.c_expressions.proofs.Given.{read, refused}
use Rattle.c_grammar.proofs.Turns.{one_more, no_more}
use Rattle.c_parser.proofs.declaration.more_init_declarators.Goals as goal

pub returns-in_default : goal.returns-in_default
returns-in_default c =
    let e = c.loop.invariant ∙ init_declarators_end c.args.levels false _ c.args.names.now
    (more_init_declarators_in c.loop.others.items) c.loop.tokens.rest.now c.in_default.ensures.0 in
    first_of (search rules, grind (arith, common_steps))

pub returns-in_err-before : goal.returns-in_err-before
returns-in_err-before c =
    let e = one_more (λ n. extending (more_init_declarators_in c.loop.others.items)
    (more_init_declarators_from c.args.levels false n c.args.names.now c.loop.tokens.rest.now)) _ c.loop.counter
    c.loop-test.true c.loop.invariant in
    let f = init_declarator_fails c.args.levels false (length c.args.tokens.now.rest.now - (c.loop.counter + 1))
    c.args.names.now (more_init_declarators_in c.loop.others.items) c.loop.tokens.rest.now c.in-Some.position
    c.take.new.self.rest.now c.init_declarator.new.tokens.rest.now _ c.in_err-before.field-0.0 e c.in-Some.ensures
    (refused init_declarator_of _ _ _ _ c.init_declarator.ensures (c.in_err-before.ensures.err _ refl)) in
    first_of (search rules, grind (arith, common_steps))

pub loop-preserved : goal.loop-preserved
loop-preserved c =
    let e = one_more (λ n. extending (more_init_declarators_in c.loop.others.items)
    (more_init_declarators_from c.args.levels false n c.args.names.now c.loop.tokens.rest.now)) _ c.loop.counter
    c.loop-test.true c.loop.invariant in
    rw (c.in_ok-others.ensures, c.in_ok-before.ensures.ok.0) (e
    ∙ init_declarator_turn c.args.levels false (length c.args.tokens.now.rest.now - (c.loop.counter + 1))
    c.args.names.now c.loop.others.items c.in_ok-before.other c.loop.tokens.rest.now c.in-Some.position
    c.take.new.self.rest.now c.init_declarator.new.tokens.rest.now c.in-Some.ensures
    (read init_declarator_of _ _ _ _ c.init_declarator.ensures c.in_ok-before.ensures.ok.1))

pub returns : goal.returns
returns c =
    let e = no_more (λ n. extending (more_init_declarators_in c.loop.others.items)
    (more_init_declarators_from c.args.levels false n c.args.names.now c.loop.tokens.rest.now)) _ c.loop.counter
    c.loop-test.false c.loop.invariant ∙ init_declarators_done c.args.levels false c.args.names.now
    (more_init_declarators_in c.loop.others.items) c.loop.tokens.rest.now in
    first_of (search rules, grind (arith, common_steps))
