-- When `void` between parentheses is the empty list of parameters (C99 6.7.5.3).
use Rattle.std.proofs.Common.{◌≡◌, max, Bool, true, false, List, length, Ok, Option, Some, None, refl, ap}
use Rattle.c_lexer.specs.declared.keyword.Keyword.TheVariants as k
use Rattle.c_syntax.specs.declared.position.Position.{Position}
use Rattle.c_syntax.specs.Tree.{TypedDeclarator, Specifier, Specifiers, Declarator, MoreParameters, Parameters}
use Rattle.c_syntax.specs.Tree as t
use Rattle.c_lexer.specs.declared.punctuator.Punctuator.TheVariants as p
use Rattle.c_syntax.specs.Levels.{parameters_levels, more_parameters_levels, typed_levels}
use Rattle.c_syntax.specs.View.{more_parameters_of}
use Rattle.c_syntax.specs.Words.{Words}
use Rattle.c_grammar.specs.declared.declarator_kind.DeclaratorKind.TheVariants as kind
use Rattle.c_grammar.specs.Reader.{next_is_punctuator, behind_commas}
use Rattle.c_grammar.specs.Readers.{Readers, typed_from, parameters_from, parameters_of}
use Rattle.c_expressions.specs.Steps.{void_word, lone_void}

abbrev by_void : Option Position → TypedDeclarator → MoreParameters → Parameters
by_void (Some at) x m = t.void_parameters at
by_void None x m = t.parameters x m

abbrev is_unnamed : Declarator → Bool
is_unnamed t.unnamed = true
is_unnamed _ = false

-- `void` with another parameter is no empty list
void_and_more : (x : TypedDeclarator) (at : Position) (y : TypedDeclarator) (m : MoreParameters)
    → parameters_of x (t.more_parameters at y m) ≡ t.parameters x (t.more_parameters at y m)
void_and_more (t.typed (t.specifiers (t.keyword k.Void void) t.no_specifiers) t.unnamed) at y m = refl
void_and_more _ at y m = refl

-- nor with a declarator
void_declared : (z : Specifiers) (d : Declarator) → is_unnamed d ≡ false
    → parameters_of (t.typed z d) t.end_of_parameters ≡ t.parameters (t.typed z d) t.end_of_parameters
void_declared (t.specifiers (t.keyword k.Void at) t.no_specifiers) t.unnamed h = cc
void_declared z d h = refl

-- nor with another specifier
void_and_word : (x y : Specifier) (z : Specifiers) → parameters_of
    (t.typed (t.specifiers x (t.specifiers y z)) t.unnamed) t.end_of_parameters
    ≡ t.parameters (t.typed (t.specifiers x (t.specifiers y z)) t.unnamed) t.end_of_parameters
void_and_word (t.keyword k.Void at) y z = refl
void_and_word _ y z = refl

one_word : (x : Specifier) → parameters_of (t.typed (t.specifiers x t.no_specifiers) t.unnamed) t.end_of_parameters
    ≡ by_void (void_word x) (t.typed (t.specifiers x t.no_specifiers) t.unnamed) t.end_of_parameters
one_word (t.keyword k.Void at) = refl
one_word _ = refl

-- the empty list or parameters
pub void_or_given : (x : TypedDeclarator) (m : MoreParameters) → parameters_of x m ≡ by_void (lone_void x m) x m
void_or_given (t.typed t.no_specifiers t.unnamed) t.end_of_parameters = refl
void_or_given (t.typed (t.specifiers x t.no_specifiers) t.unnamed) t.end_of_parameters = one_word x
void_or_given (t.typed (t.specifiers x (t.specifiers y z)) t.unnamed) t.end_of_parameters = void_and_word x y z
void_or_given (t.typed z d) t.end_of_parameters = void_declared z d refl
void_or_given x (t.more_parameters at y m) = void_and_more x at y m

one_word_levels : (x : Specifier) → parameters_levels (parameters_of
    (t.typed (t.specifiers x t.no_specifiers) t.unnamed) t.end_of_parameters)
    ≡ max (typed_levels (t.typed (t.specifiers x t.no_specifiers) t.unnamed)) 0
one_word_levels (t.keyword k.Void at) = refl
one_word_levels _ = refl

-- the levels of either
pub levels_of_parameters : (x : TypedDeclarator) (m : MoreParameters)
    → parameters_levels (parameters_of x m) ≡ max (typed_levels x) (more_parameters_levels m)
levels_of_parameters (t.typed t.no_specifiers t.unnamed) t.end_of_parameters = refl
levels_of_parameters (t.typed (t.specifiers x t.no_specifiers) t.unnamed) t.end_of_parameters = one_word_levels x
levels_of_parameters (t.typed (t.specifiers x (t.specifiers y z)) t.unnamed) t.end_of_parameters =
    ap parameters_levels (void_and_word x y z)
levels_of_parameters (t.typed z d) t.end_of_parameters = ap parameters_levels (void_declared z d refl)
levels_of_parameters x (t.more_parameters at y m) = ap parameters_levels (void_and_more x at y m)

-- what is read where `)` is not next
pub parameters_read : (deeper : Readers) (i i1 i2 : Words) (x : TypedDeclarator) (z : List (Position × TypedDeclarator))
    → next_is_punctuator p.RightParenthesis i ≡ false
    → typed_from deeper kind.Either i ≡ Ok (x, i1) → behind_commas (typed_from deeper kind.Either) (length i1) i1
    ≡ Ok (z, i2)
    → parameters_from deeper i ≡ Ok (parameters_of x (more_parameters_of z), i2)
unfolding parameters_from
parameters_read deeper i i1 i2 x z more one others = rw (more, one, others) refl
