use Rattle.std.proofs.Common.{suc, sym, subst}
use Rattle.c_grammar.specs.Nested.{readers}
use Rattle.c_expressions.specs.LeveledReads.{ReadsExpression}
use Rattle.c_expressions.proofs.OperandSteps.{strings_next}
use Rattle.c_expressions.proofs.grammar.Grammar.operand.Goals as goal

pub returns-in-StringLiteral : goal.returns-in-StringLiteral
returns-in-StringLiteral g c =
    let e = strings_next c.args.self.now.names.now (readers c.args.self.now.names.now c.args.self.now.levels)
    c.args.self.now.levels c.args.least c.args.tokens.now.rest.now c.first-item.result c.in-StringLiteral.spelling
    c.in-len1-up.len_at_least c.first-item.is c.in-StringLiteral.is in
    subst (λ o. ReadsExpression (suc c.args.self.now.levels) o c.string_literals.result
    c.string_literals.new.tokens.rest.now) (sym e) (c.string_literals.ensures c.args.self.now.levels)
