use Rattle.std.proofs.Common.{◌≡◌, suc, ◌-◌, ap, subst, arith}
use Rattle.c_syntax.specs.View.{expression_of, specifiers_in, declarator_of}
use Rattle.c_syntax.specs.Levels.{expression_levels, specifiers_levels, declarator_levels}
use Rattle.c_grammar.specs.Nested.{readers}
use Rattle.c_expressions.specs.LeveledReads.{ReadsLeveled}
use Rattle.c_expressions.proofs.nested.+reader.Goals as goal

pub expression-returns-then-levels-eq0 : goal.expression-returns-then-levels-eq0
unfolding readers
expression-returns-then-levels-eq0 t c =
    let none : c.args.levels ≡ 0 = omega arith in
    ap (λ n. (readers c.args.names.now n).expression c.args.opened c.args.least c.args.tokens.now.rest.now) none

pub expression-returns : goal.expression-returns
unfolding readers
expression-returns t c =
    let e : suc (c.args.levels - 1) ≡ c.args.levels = omega arith in
    subst (λ n. ReadsLeveled expression_of expression_levels n
    ((readers c.args.names.now n).expression c.args.opened c.args.least c.args.tokens.now.rest.now)
    c.expression_at.result c.expression_at.new.tokens.rest.now) e c.expression_at.ensures

pub specifiers-returns-then-levels-eq0 : goal.specifiers-returns-then-levels-eq0
unfolding readers
specifiers-returns-then-levels-eq0 t c =
    let none : c.args.levels ≡ 0 = omega arith in
    ap (λ n. (readers c.args.names.now n).specifiers c.args.allowed c.args.tokens.now.rest.now) none

pub specifiers-returns : goal.specifiers-returns
unfolding readers
specifiers-returns t c =
    let e : suc (c.args.levels - 1) ≡ c.args.levels = omega arith in
    subst (λ n. ReadsLeveled specifiers_in specifiers_levels n
    ((readers c.args.names.now n).specifiers c.args.allowed c.args.tokens.now.rest.now) c.specifiers_at.result
    c.specifiers_at.new.tokens.rest.now) e c.specifiers_at.ensures

pub declarator-returns-then-levels-eq0 : goal.declarator-returns-then-levels-eq0
unfolding readers
declarator-returns-then-levels-eq0 t c =
    let none : c.args.levels ≡ 0 = omega arith in
    ap (λ n. (readers c.args.names.now n).declarator c.args.kind c.args.tokens.now.rest.now) none

pub declarator-returns : goal.declarator-returns
unfolding readers
declarator-returns t c =
    let e : suc (c.args.levels - 1) ≡ c.args.levels = omega arith in
    subst (λ n. ReadsLeveled declarator_of declarator_levels n
    ((readers c.args.names.now n).declarator c.args.kind c.args.tokens.now.rest.now) c.declarator_at.result
    c.declarator_at.new.tokens.rest.now) e c.declarator_at.ensures
