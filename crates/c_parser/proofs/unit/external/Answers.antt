use Rattle.std.proofs.Common.{rules, arith, ◌≡◌, suc, ◌+◌, Ok, true, subst, sym, ◌∙◌}
use Rattle.std.proofs.lemmas.Grind.{common_steps}
use Rattle.c_syntax.specs.View.{specifiers_in, declarator_of}
use Rattle.c_syntax.specs.StatementsView.{external_of}
use Rattle.c_grammar.specs.Nested.{readers}
use Rattle.c_grammar.specs.Reads.{Reads}
use Rattle.c_grammar.specs.declared.declarator_kind.DeclaratorKind.TheVariants as kind
use Rattle.c_parser.proofs.UnitLists.{external_is}
use Rattle.c_parser.proofs.unit.external.Goals as goal

pub returns-clause-read : goal.returns-clause-read
returns-clause-read c =
    let e : c.args.levels + 1 ≡ suc c.args.levels = omega arith in
    let first : (readers c.args.names.now (c.args.levels + 1)).specifiers true c.args.tokens.now.rest.now
    ≡ Ok (specifiers_in c.in_ok-specifiers.specifiers.tree, c.specifiers.new.tokens.rest.now) =
    first_of (search rules, grind (arith, common_steps)) in
    let named : (readers c.args.names.now (suc c.args.levels)).declarator kind.Named
    c.specifiers.new.tokens.rest.now
    ≡ Ok (declarator_of c.in_ok-declarator.declarator, c.named_declarator.new.tokens.rest.now) =
    first_of (search rules, grind (arith, common_steps)) in
    subst (λ o. Reads external_of o c.external_behind.result c.external_behind.new.tokens.rest.now)
    (external_is c.args.levels (c.args.levels + 1) c.args.names.now c.args.tokens.now.rest.now
    c.specifiers.new.tokens.rest.now c.named_declarator.new.tokens.rest.now _ _ e first
    (sym c.next_is.ensures ∙ c.if-next_is.false) named) c.external_behind.ensures.read
