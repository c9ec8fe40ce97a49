-- The view of a type name or parameter, by its parts, and when it is not the word `void` alone.
use Rattle.std.proofs.Common.{rules, arith, ◌≡◌, ◌≤◌, false, List, [], ◌∷◌, length}
use mathlib.Core.Path.{refl}
use Rattle.c_syntax.specs.declared.position.Position.{Position}
use Rattle.c_syntax.specs.declared.tree.Arguments.{the_lemmas}
use Rattle.c_syntax.specs.declared.tree.Specifier as rs
use Rattle.c_syntax.specs.declared.tree.TypedDeclarator as rt
use Rattle.c_syntax.specs.Tree.{Specifier, Specifiers, TypedDeclarator}
use Rattle.c_syntax.specs.Tree as t
use Rattle.c_syntax.specs.Formed.{is_void, is_lone_void}
use Rattle.c_syntax.specs.View.{typed_of, specifiers_in, declarator_of, more_parameters_in}

pub typed_view : (x : rt.TypedDeclarator) → typed_of x ≡ t.typed (specifiers_in x.specifiers)
    (declarator_of x.declarator)
typed_view x = first_of (search (rules, the_lemmas), grind (arith, the_lemmas))

two_words : (x y : Specifier) (z : Specifiers) → is_void (t.typed (t.specifiers x (t.specifiers y z)) t.unnamed) ≡ false
two_words x y z = first_of (search rules, grind arith)

pub two_are_not_void : (z : List rs.Specifier) → 2 ≤ length z → is_void (t.typed (specifiers_in z) t.unnamed) ≡ false
two_are_not_void [] e = first_of (search rules, grind arith)
two_are_not_void (x ∷ []) e = first_of (search rules, grind arith)
two_are_not_void (x ∷ y ∷ z) e = two_words _ _ _

pub others_are_not_lone : (x : TypedDeclarator) (z : List (Position × rt.TypedDeclarator)) → 1 ≤ length z
    → is_lone_void x (more_parameters_in z) ≡ false
others_are_not_lone x [] e = first_of (search rules, grind arith)
others_are_not_lone x (y ∷ z) e = refl
