use Rattle.std.proofs.Common.{sym, ap, ◌∙◌}
use Rattle.c_syntax.specs.View.{expression_of}
use Rattle.c_syntax_typing.proofs.Composing.{expression_typed}
use Rattle.c_syntax_typing.proofs.Views.{call_view, cast_view, conditional_view, parenthesized_view}
use Rattle.c_syntax_typing.proofs.Views.{sizeof_expression_view, sizeof_type_view, subscript_view, unary_view}
use Rattle.c_syntax_typing.proofs.nested.Nested.expression_at.Goals as goal

pub returns-in-Parenthesized : goal.returns-in-Parenthesized
returns-in-Parenthesized g c =
    let e = c.in-Parenthesized in
    expression_typed _ _ _ _ _ _
    (sym (ap expression_of e.is ∙ parenthesized_view e.opening e.inner e.field-2))
    (c.parenthesized.ensures e.field-2)

pub returns-in-Subscript : goal.returns-in-Subscript
returns-in-Subscript g c =
    let e = c.in-Subscript in
    expression_typed _ _ _ _ _ _
    (sym (ap expression_of e.is ∙ subscript_view e.array e.opening e.index e.field-3))
    (c.subscript.ensures e.field-3)

pub returns-in-Call : goal.returns-in-Call
returns-in-Call g c =
    let e = c.in-Call in
    expression_typed _ _ _ _ _ _
    (sym (ap expression_of e.is ∙ call_view e.function e.opening e.arguments e.field-3))
    (c.call.ensures e.field-3)

pub returns-in-Unary : goal.returns-in-Unary
returns-in-Unary g c =
    let e = c.in-Unary in
    expression_typed _ _ _ _ _ _
    (sym (ap expression_of e.is ∙ unary_view e.operator e.at e.inner))
    c.unary.ensures

pub returns-in-SizeofExpression : goal.returns-in-SizeofExpression
returns-in-SizeofExpression g c =
    let e = c.in-SizeofExpression in
    expression_typed _ _ _ _ _ _
    (sym (ap expression_of e.is ∙ sizeof_expression_view e.at e.inner))
    (c.sizeof_expression.ensures c.args.is_evaluated)

pub returns-in-SizeofType : goal.returns-in-SizeofType
returns-in-SizeofType g c =
    let e = c.in-SizeofType in
    expression_typed _ _ _ _ _ _
    (sym (ap expression_of e.is ∙ sizeof_type_view e.at e.field-1 e.name e.field-3))
    (c.sizeof_type.ensures c.args.is_evaluated e.field-1 e.field-3)

pub returns-in-Cast : goal.returns-in-Cast
returns-in-Cast g c =
    let e = c.in-Cast in
    expression_typed _ _ _ _ _ _
    (sym (ap expression_of e.is ∙ cast_view e.opening e.name e.field-2 e.inner))
    (c.cast.ensures e.field-2)

pub returns-in-Conditional : goal.returns-in-Conditional
returns-in-Conditional g c =
    let e = c.in-Conditional in
    expression_typed _ _ _ _ _ _
    (sym (ap expression_of e.is ∙ conditional_view e.condition e.question e.first e.field-3 e.second))
    (c.conditional.ensures e.field-3)
