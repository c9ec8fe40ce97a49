use Rattle.std.proofs.Common.{sym, ap, ◌∙◌, subst}
use Rattle.c_tree.specs.Statements.{literal_content}
use Rattle.c_tree.specs.View.{content_of}
use Rattle.program_lowering.specs.StatementParts.Code.{ContentCode}
use Rattle.program_lowering.proofs.StatementParts.InitializerParts.{value_code, literal_code}
use Rattle.program_lowering.proofs.parts.initializer.content.Goals as goal

pub returns-in_ok-first-in-Value : goal.returns-in_ok-first-in-Value
returns-in_ok-first-in-Value c =
    subst (λ x. ContentCode c.args.code.now c.expression.new.self c.args.variable c.args.offset x
    c.in_ok-first-in-Value.first c.args.next)
    (sym (ap content_of c.in-Value.is))
    (value_code c.in-Value.e c.in_ok-store-in-Value.ensures c.in_ok-first-in-Value.ensures)

pub returns-in_ok-store-in-Literal : goal.returns-in_ok-store-in-Literal
returns-in_ok-store-in-Literal c =
    subst (λ x. ContentCode c.args.code.now c.add-in-Literal.new.self c.args.variable c.args.offset x
    c.in_ok-store-in-Literal.store c.args.next)
    (sym (ap content_of c.in-Literal.is ∙ sym (ap literal_content c.as_slice.ensures)))
    (literal_code c.in_ok-text-in-Literal.ensures c.in_ok-store-in-Literal.ensures)
