-- The views of trees that hold others, by their parts.
use Rattle.std.proofs.Common.{rules, arith, ◌≡◌, List, Option}
use Rattle.c_lexer.specs.declared.keyword.Keyword.{Keyword}
use Rattle.c_lexer.specs.declared.punctuator.Punctuator.{Punctuator}
use Rattle.c_syntax.specs.declared.position.Position.{Position}
use Rattle.c_syntax.specs.declared.position.Spelled.{Spelled}
use Rattle.c_syntax.specs.declared.tree.Arguments.{the_lemmas}
use Rattle.c_syntax.specs.declared.tree.Arguments as ra
use Rattle.c_syntax.specs.declared.tree.Arguments.TheViews as views
use Rattle.c_syntax.specs.declared.tree.Declarator as rd
use Rattle.c_syntax.specs.declared.tree.Expression as rx
use Rattle.c_syntax.specs.declared.tree.Member as rm
use Rattle.c_syntax.specs.declared.tree.Parameters as rp
use Rattle.c_syntax.specs.declared.tree.TypedDeclarator as rt
use Rattle.c_syntax.specs.Tree as t
use Rattle.c_syntax.specs.View.{arguments_of, declarator_of, expression_of, members_in, parameters_of, specifier_of}
use Rattle.c_syntax.specs.View.{typed_of}

pub parenthesized_view : (l : Position) (x : rx.Expression) (r : Position)
    → expression_of (rx.Parenthesized l x r) ≡ t.parenthesized l (expression_of x) r
parenthesized_view l x r = first_of (search (rules, the_lemmas), grind (arith, the_lemmas))

pub subscript_view : (x : rx.Expression) (l : Position) (y : rx.Expression) (r : Position)
    → expression_of (rx.Subscript x l y r) ≡ t.subscript (expression_of x) l (expression_of y) r
subscript_view x l y r = first_of (search (rules, the_lemmas), grind (arith, the_lemmas))

pub call_view : (x : rx.Expression) (l : Position) (a : ra.Arguments) (r : Position)
    → expression_of (rx.Call x l a r) ≡ t.call (expression_of x) l (arguments_of a) r
call_view x l a r = first_of (search (rules, the_lemmas), grind (arith, the_lemmas))

pub unary_view : (w : Punctuator) (at : Position) (x : rx.Expression)
    → expression_of (rx.Unary w at x) ≡ t.unary w at (expression_of x)
unary_view w at x = first_of (search (rules, the_lemmas), grind (arith, the_lemmas))

pub sizeof_expression_view : (at : Position) (x : rx.Expression)
    → expression_of (rx.SizeofExpression at x) ≡ t.sizeof_expression at (expression_of x)
sizeof_expression_view at x = first_of (search (rules, the_lemmas), grind (arith, the_lemmas))

pub sizeof_type_view : (at l : Position) (y : rt.TypedDeclarator) (r : Position)
    → expression_of (rx.SizeofType at l y r) ≡ t.sizeof_type at l (typed_of y) r
sizeof_type_view at l y r = first_of (search (rules, the_lemmas), grind (arith, the_lemmas))

pub cast_view : (l : Position) (y : rt.TypedDeclarator) (r : Position) (x : rx.Expression)
    → expression_of (rx.Cast l y r x) ≡ t.cast l (typed_of y) r (expression_of x)
cast_view l y r x = first_of (search (rules, the_lemmas), grind (arith, the_lemmas))

pub conditional_view : (x : rx.Expression) (q : Position) (y : rx.Expression) (c : Position) (z : rx.Expression)
    → expression_of (rx.Conditional x q y c z) ≡ t.conditional (expression_of x) q (expression_of y) c (expression_of z)
conditional_view x q y c z = first_of (search (rules, the_lemmas), grind (arith, the_lemmas))

pub open_array_view : (d : rd.Declarator) (l r : Position)
    → declarator_of (rd.OpenArray d l r) ≡ t.open_array (declarator_of d) l r
open_array_view d l r = first_of (search (rules, the_lemmas), grind (arith, the_lemmas))

pub array_view : (d : rd.Declarator) (l : Position) (x : rx.Expression) (r : Position)
    → declarator_of (rd.Array d l x r) ≡ t.array (declarator_of d) l (expression_of x) r
array_view d l x r = first_of (search (rules, the_lemmas), grind (arith, the_lemmas))

pub function_view : (d : rd.Declarator) (l : Position) (p : rp.Parameters) (r : Position)
    → declarator_of (rd.Function d l p r) ≡ t.function (declarator_of d) l (parameters_of p) r
function_view d l p r = first_of (search (rules, the_lemmas), grind (arith, the_lemmas))

pub structure_view : (w : Keyword) (at : Position) (tag : Option Spelled) (l : Position) (ms : List rm.Member)
    (r : Position)
    → specifier_of (views.StructureBody w at tag l ms r) ≡ t.structure_body w at tag l (members_in ms) r
structure_view w at tag l ms r = first_of (search (rules, the_lemmas), grind (arith, the_lemmas))
