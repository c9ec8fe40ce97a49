use Rattle.std.proofs.Common.{◌≡◌, suc, ◌-◌, ap, subst, sym, ◌∙◌, arith}
use Rattle.c_syntax.specs.StatementsView.{initializer_of}
use Rattle.c_grammar.specs.Reads.{Reads}
use Rattle.c_grammar.specs.InitializerReader.{initializers}
use Rattle.c_parser.proofs.InitializerLists.{braced_is, value_is}
use Rattle.c_parser.proofs.initializer.+initializer.Goals as goal

pub returns-then-levels-eq0 : goal.returns-then-levels-eq0
unfolding initializers
returns-then-levels-eq0 t c =
    let none : c.args.levels ≡ 0 = omega arith in
    ap (λ n. initializers c.args.names.now n c.args.tokens.now.rest.now) none

pub returns-then-not-begins_braced : goal.returns-then-not-begins_braced
returns-then-not-begins_braced t c =
    let e : suc (c.args.levels - 1) ≡ c.args.levels = omega arith in
    subst (λ o. Reads initializer_of o c.value.result c.value.new.tokens.rest.now)
    (value_is c.args.names.now c.args.levels (c.args.levels - 1) c.args.tokens.now.rest.now e
    (sym c.begins_braced.ensures ∙ c.if-not-begins_braced.true)) c.value.ensures

pub returns : goal.returns
returns t c =
    let e : suc (c.args.levels - 1) ≡ c.args.levels = omega arith in
    subst (λ o. Reads initializer_of o c.braced.result c.braced.new.tokens.rest.now)
    (braced_is c.args.names.now c.args.levels (c.args.levels - 1) c.args.tokens.now.rest.now e
    (sym c.begins_braced.ensures ∙ c.if-not-begins_braced.false)) c.braced.ensures
