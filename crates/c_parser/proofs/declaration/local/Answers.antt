use Rattle.std.proofs.Common.{◌≡◌, suc, ◌+◌, subst, sym, ◌∙◌, arith}
use Rattle.c_syntax.specs.StatementsView.{declaration_of}
use Rattle.c_syntax.specs.View.{declarator_of}
use Rattle.c_grammar.specs.Reads.{Reads}
use Rattle.c_expressions.proofs.Given.{read}
use Rattle.c_parser.proofs.Typedefs.{local_is}
use Rattle.c_parser.proofs.declaration.local.Goals as goal

pub returns : goal.returns
returns c =
    let e : c.args.levels + 1 ≡ suc c.args.levels = omega arith in
    let named = read declarator_of _ _ _ _ c.named_declarator-declarator.ensures c.in_ok-specifiers-2.ensures.ok.1 in
    subst (λ o. Reads declaration_of o c.plain_declaration_behind.result c.plain_declaration_behind.new.tokens.rest.now)
    (local_is c.args.levels (c.args.levels + 1) c.args.names.now c.args.tokens.now.rest.now
    c.specifiers.new.tokens.rest.now c.named_declarator-declarator.new.tokens.rest.now _ _ e
    (rw c.in_ok-specifiers-2.ensures.ok.0 c.in_ok-specifiers.ensures.0)
    (sym c.next_is.ensures ∙ c.if-next_is.false) named) c.plain_declaration_behind.ensures.read
