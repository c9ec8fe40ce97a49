use Rattle.std.proofs.Common.{sym, ap, ◌∙◌}
use Rattle.c_syntax.specs.View.{declarator_of}
use Rattle.c_syntax_typing.proofs.Composing.{declarator_typed}
use Rattle.c_syntax_typing.proofs.Views.{array_view, function_view, open_array_view}
use Rattle.c_syntax_typing.proofs.nested.Nested.declarator_at.Goals as goal

pub returns-in-OpenArray : goal.returns-in-OpenArray
returns-in-OpenArray g c =
    let e = c.in-OpenArray in
    declarator_typed _ _ _ _ _ _
    (sym (ap declarator_of e.is ∙ open_array_view e.inner e.field-1 e.field-2))
    (c.open_array.ensures e.field-1 e.field-2)

pub returns-in-Array : goal.returns-in-Array
returns-in-Array g c =
    let e = c.in-Array in
    declarator_typed _ _ _ _ _ _
    (sym (ap declarator_of e.is ∙ array_view e.inner e.opening e.size e.field-3))
    (c.array.ensures e.field-3)

pub returns-in-Function : goal.returns-in-Function
returns-in-Function g c =
    let e = c.in-Function in
    declarator_typed _ _ _ _ _ _
    (sym (ap declarator_of e.is ∙ function_view e.inner e.opening e.parameters e.field-3))
    (c.function.ensures e.field-3)
