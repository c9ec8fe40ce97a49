-- The state behind what is typed is laid out.
use Rattle.std.proofs.Common.{◌≡◌, Bool, true, false}
use Rattle.c_syntax.specs.Tree.{Declarator, Expression, Specifiers, TypedDeclarator}
use Rattle.c_typing_state.specs.State.{State}
use Rattle.c_expression_typing.specs.Typed.{shape, specification, type_name, typed}
use Rattle.typing_laws.specs.Validity.Regular.{are_regular_specifiers, is_regular, is_regular_declarator}
use Rattle.typing_laws.specs.Validity.Regular.{is_regular_name}
use Rattle.typing_laws.specs.Validity.Sound.{IsFormed}
use Rattle.typing_laws.specs.Declarators.Given.{IsShapeOf, IsSpecified, OperandHasWords, anything}
use Rattle.typing_laws.proofs.Declarators.Recursion.{name_extends, shape_extends, specification_extends, typed_extends}
use Rattle.typing_laws.specs.Layouts.Listed.{HasArrays, IfLaidOut, IsLaidOut}
use Rattle.typing_laws.proofs.Layouts.Chained.{to_laid_out}
use Rattle.typing_laws.proofs.Layouts.Recursion.{name_laid, shape_laid, specification_laid, typed_laid}

pub expression_behind : (is : Bool) (e : Expression) → is_regular e ≡ true → (s : State) → IsFormed s → IsLaidOut s
    → IfLaidOut anything (typed is e s)
expression_behind is e c s formed laid =
    to_laid_out false s laid OperandHasWords anything (typed is e s) (typed_extends is e c s formed)
    (typed_laid is e c s formed laid)

pub name_behind : (x : TypedDeclarator) → is_regular_name x ≡ true → (s : State) → IsFormed s → IsLaidOut s
    → IfLaidOut anything (type_name x s)
name_behind x c s formed laid =
    to_laid_out false s laid anything anything (type_name x s) (name_extends x c s formed) (name_laid x c s formed laid)

pub shape_behind : (in_definition : Bool) (d : Declarator) → is_regular_declarator d ≡ true → (s : State)
    → IsFormed s → IsLaidOut s → IfLaidOut anything (shape in_definition d s)
shape_behind in_definition d c s formed laid =
    to_laid_out false s laid (λ u sh. IsShapeOf u d sh) anything (shape in_definition d s)
    (shape_extends in_definition d c s formed) (shape_laid in_definition d c s formed laid)

pub specification_behind : (is_alone : Bool) (specs : Specifiers) → are_regular_specifiers specs ≡ true → (s : State)
    → IsFormed s → IsLaidOut s → IfLaidOut HasArrays (specification is_alone specs s)
specification_behind is_alone specs c s formed laid =
    to_laid_out false s laid IsSpecified HasArrays (specification is_alone specs s)
    (specification_extends is_alone specs c s formed) (specification_laid is_alone specs c s formed laid)
