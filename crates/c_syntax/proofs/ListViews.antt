-- The views of trees that have a first part and others behind commas.
use Rattle.std.proofs.Common.{rules, arith, ◌≡◌, List, Option}
use Rattle.c_syntax.specs.declared.position.Position.{Position}
use Rattle.c_syntax.specs.declared.position.Spelled.{Spelled}
use Rattle.c_syntax.specs.declared.tree.Arguments.{the_lemmas}
use Rattle.c_syntax.specs.declared.tree.Arguments.TheViews as views
use Rattle.c_syntax.specs.declared.tree.Enumerator as re
use Rattle.c_syntax.specs.declared.tree.Expression as rx
use Rattle.c_syntax.specs.declared.tree.TypedDeclarator as rt
use Rattle.c_syntax.specs.Tree as t
use Rattle.c_syntax.specs.View.{arguments_of, expression_of, more_arguments_in, parameters_of, typed_of}
use Rattle.c_syntax.specs.View.{more_parameters_in, specifier_of, enumerator_of, more_enumerators_in}

pub arguments_view : (x : rx.Expression) (z : List (Position × rx.Expression))
    → arguments_of (views.Arguments::Given x z) ≡ t.arguments (expression_of x) (more_arguments_in z)
arguments_view x z = first_of (search (rules, the_lemmas), grind (arith, the_lemmas))

pub parameters_view : (x : rt.TypedDeclarator) (z : List (Position × rt.TypedDeclarator))
    → parameters_of (views.Parameters::Given x z) ≡ t.parameters (typed_of x) (more_parameters_in z)
parameters_view x z = first_of (search (rules, the_lemmas), grind (arith, the_lemmas))

pub enumeration_view : (at : Position) (tag : Option Spelled) (l : Position) (x : re.Enumerator)
    (z : List (Position × re.Enumerator)) (c : Option Position) (r : Position) →
    specifier_of (views.EnumerationBody at tag l x z c r) ≡ t.enumeration_body at tag l (enumerator_of x)
    (more_enumerators_in z) c r
enumeration_view at tag l x z c r = first_of (search (rules, the_lemmas), grind (arith, the_lemmas))
