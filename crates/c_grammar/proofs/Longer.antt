-- The words of a tree go before what follows it.
use Rattle.std.proofs.Common.{suc, ◌≤◌, List, [], ◌∷◌, length, Option, Some, None, arith}
use Rattle.c_lexer.specs.declared.punctuator.Punctuator.TheVariants as p
use Rattle.c_syntax.specs.declared.position.Position.{Position}
use Rattle.c_syntax.specs.declared.position.Spelled.{Spelled}
use Rattle.c_syntax.specs.Tree.{Expression, Arguments, MoreArguments, TypedDeclarator, Declarator, Parameters}
use Rattle.c_syntax.specs.Tree.{MoreParameters, Specifiers, Specifier, Members, Member, MoreDeclarators, Enumerator}
use Rattle.c_syntax.specs.Tree.{MoreEnumerators}
use Rattle.c_syntax.specs.Tree as t
use Rattle.c_syntax.specs.Words.{Words, punctuator, identifier, strings_words, const_words, tag_words, comma_words}
use Rattle.c_syntax.specs.Words.{expression_words, arguments_words, more_arguments_words, typed_words, declarator_words}
use Rattle.c_syntax.specs.Words.{parameters_words, more_parameters_words, specifiers_words, specifier_words}
use Rattle.c_syntax.specs.Words.{members_words, member_words, more_declarators_words, enumerator_words}
use Rattle.c_syntax.specs.Words.{more_enumerators_words}

pub strings_longer : (z : List Spelled) (i : Words) → length i ≤ length (strings_words z i)
strings_longer [] i = omega arith
strings_longer (x ∷ z) i = omega (arith, strings_longer z i)

pub const_longer : (z : List Position) (i : Words) → length i ≤ length (const_words z i)
const_longer [] i = omega arith
const_longer (at ∷ z) i = omega (arith, const_longer z i)

pub tag_longer : (x : Option Spelled) (i : Words) → length i ≤ length (tag_words x i)
tag_longer None i = omega arith
tag_longer (Some x) i = omega arith

pub comma_longer : (c : Option Position) (i : Words) → length i ≤ length (comma_words c i)
comma_longer None i = omega arith
comma_longer (Some at) i = omega arith

mutual
  pub expression_longer : (e : Expression) (i : Words) → length i ≤ length (expression_words e i)
  expression_longer (t.identifier x) i = omega arith
  expression_longer (t.integer x) i = omega arith
  expression_longer (t.character x) i = omega arith
  expression_longer (t.strings x z) i = omega (arith, strings_longer z i)
  expression_longer (t.parenthesized l e r) i = omega (arith, expression_longer e (punctuator p.RightParenthesis r ∷ i))
  expression_longer (t.subscript e l x r) i =
      omega (
        arith,
        expression_longer e (punctuator p.LeftBracket l
            ∷ expression_words x (punctuator p.RightBracket r ∷ i)),
        expression_longer x (punctuator p.RightBracket r ∷ i),
      )
  expression_longer (t.call e l a r) i = omega (
    arith,
    expression_longer e
        (punctuator p.LeftParenthesis l ∷ arguments_words a (punctuator p.RightParenthesis r ∷ i)),
    arguments_longer a (punctuator p.RightParenthesis r ∷ i),
  )
  expression_longer (t.member e w at x) i = omega (arith, expression_longer e (punctuator w at ∷ identifier x ∷ i))
  expression_longer (t.postfix e w at) i = omega (arith, expression_longer e (punctuator w at ∷ i))
  expression_longer (t.unary w at e) i = omega (arith, expression_longer e i)
  expression_longer (t.sizeof_expression at e) i = omega (arith, expression_longer e i)
  expression_longer (t.sizeof_type at l x r) i = omega (arith, typed_longer x (punctuator p.RightParenthesis r ∷ i))
  expression_longer (t.cast l x r e) i = omega (
    arith,
    typed_longer x
        (punctuator p.RightParenthesis r ∷ expression_words e i),
    expression_longer e i,
  )
  expression_longer (t.binary a w at b) i = omega (
    arith,
    expression_longer a (punctuator w at ∷ expression_words b i),
    expression_longer b i,
  )
  expression_longer (t.conditional c q a colon b) i =
      omega (
        arith,
        expression_longer c (punctuator p.Question q
            ∷ expression_words a (punctuator p.Colon colon ∷ expression_words b i)),
        expression_longer a (punctuator p.Colon colon ∷ expression_words b i),
        expression_longer b i,
      )
  expression_longer (t.assignment a w at b) i =
      omega (arith, expression_longer a (punctuator w at ∷ expression_words b i), expression_longer b i)

  pub arguments_longer : (a : Arguments) (i : Words) → length i ≤ length (arguments_words a i)
  arguments_longer t.no_arguments i = omega arith
  arguments_longer (t.arguments e m) i = omega (
    arith,
    expression_longer e (more_arguments_words m i),
    more_arguments_longer m i,
  )

  pub more_arguments_longer : (m : MoreArguments) (i : Words) → length i ≤ length (more_arguments_words m i)
  more_arguments_longer t.end_of_arguments i = omega arith
  more_arguments_longer (t.more_arguments at e m) i =
      omega (arith, expression_longer e (more_arguments_words m i), more_arguments_longer m i)

  pub typed_longer : (x : TypedDeclarator) (i : Words) → length i ≤ length (typed_words x i)
  typed_longer (t.typed z d) i = omega (arith, specifiers_longer z (declarator_words d i), declarator_longer d i)

  pub declarator_longer : (d : Declarator) (i : Words) → length i ≤ length (declarator_words d i)
  declarator_longer (t.named x) i = omega arith
  declarator_longer t.unnamed i = omega arith
  declarator_longer (t.pointer at z d) i = omega (arith, const_longer z (declarator_words d i), declarator_longer d i)
  declarator_longer (t.grouped l d r) i = omega (arith, declarator_longer d (punctuator p.RightParenthesis r ∷ i))
  declarator_longer (t.open_array d l r) i =
      omega (arith, declarator_longer d (punctuator p.LeftBracket l ∷ punctuator p.RightBracket r ∷ i))
  declarator_longer (t.array d l e r) i = omega (
    arith,
    declarator_longer d
        (punctuator p.LeftBracket l ∷ expression_words e (punctuator p.RightBracket r ∷ i)),
    expression_longer e (punctuator p.RightBracket r ∷ i),
  )
  declarator_longer (t.function d l a r) i =
      omega (
        arith,
        declarator_longer d (punctuator p.LeftParenthesis l
            ∷ parameters_words a (punctuator p.RightParenthesis r ∷ i)),
        parameters_longer a (punctuator p.RightParenthesis r ∷ i),
      )

  pub parameters_longer : (a : Parameters) (i : Words) → length i ≤ length (parameters_words a i)
  parameters_longer t.no_parameters i = omega arith
  parameters_longer (t.void_parameters at) i = omega arith
  parameters_longer (t.parameters x m) i = omega (
    arith,
    typed_longer x (more_parameters_words m i),
    more_parameters_longer m i,
  )

  pub more_parameters_longer : (m : MoreParameters) (i : Words) → length i ≤ length (more_parameters_words m i)
  more_parameters_longer t.end_of_parameters i = omega arith
  more_parameters_longer (t.more_parameters at x m) i = omega
      (arith, typed_longer x (more_parameters_words m i), more_parameters_longer m i)

  pub specifiers_longer : (z : Specifiers) (i : Words) → length i ≤ length (specifiers_words z i)
  specifiers_longer t.no_specifiers i = omega arith
  specifiers_longer (t.specifiers x z) i = omega (
    arith,
    specifier_longer x (specifiers_words z i),
    specifiers_longer z i,
  )

  pub specifier_longer : (x : Specifier) (i : Words) → suc (length i) ≤ length (specifier_words x i)
  specifier_longer (t.keyword w at) i = omega arith
  specifier_longer (t.typedef_name x) i = omega arith
  specifier_longer (t.structure w at x) i = omega arith
  specifier_longer (t.structure_body w at x l m r) i =
      omega (
        arith,
        tag_longer x (punctuator p.LeftBrace l ∷ members_words m (punctuator p.RightBrace r ∷ i)),
        members_longer m (punctuator p.RightBrace r ∷ i),
      )
  specifier_longer (t.enumeration at x) i = omega arith
  specifier_longer (t.enumeration_body at x l e m c r) i =
      omega (
        arith,
        tag_longer x (punctuator p.LeftBrace l ∷ enumerator_words e
            (more_enumerators_words m (comma_words c (punctuator p.RightBrace r ∷ i)))),
        enumerator_longer e (more_enumerators_words m (comma_words c (punctuator p.RightBrace r ∷ i))),
        more_enumerators_longer m (comma_words c (punctuator p.RightBrace r ∷ i)),
        comma_longer c (punctuator p.RightBrace r ∷ i),
      )

  pub members_longer : (m : Members) (i : Words) → length i ≤ length (members_words m i)
  members_longer t.no_members i = omega arith
  members_longer (t.members x m) i = omega (arith, member_longer x (members_words m i), members_longer m i)

  pub member_longer : (x : Member) (i : Words) → suc (length i) ≤ length (member_words x i)
  member_longer (t.member_declaration z d m at) i =
      omega (
        arith,
        specifiers_longer z (declarator_words d (more_declarators_words m (punctuator p.Semicolon at ∷ i))),
        declarator_longer d (more_declarators_words m (punctuator p.Semicolon at ∷ i)),
        more_declarators_longer m (punctuator p.Semicolon at ∷ i),
      )

  pub more_declarators_longer : (m : MoreDeclarators) (i : Words) → length i ≤ length (more_declarators_words m i)
  more_declarators_longer t.end_of_declarators i = omega arith
  more_declarators_longer (t.more_declarators at d m) i = omega
      (arith, declarator_longer d (more_declarators_words m i), more_declarators_longer m i)

  pub enumerator_longer : (e : Enumerator) (i : Words) → length i ≤ length (enumerator_words e i)
  enumerator_longer (t.plain x) i = omega arith
  enumerator_longer (t.valued x at e) i = omega (arith, expression_longer e i)

  pub more_enumerators_longer : (m : MoreEnumerators) (i : Words) → length i ≤ length (more_enumerators_words m i)
  more_enumerators_longer t.end_of_enumerators i = omega arith
  more_enumerators_longer (t.more_enumerators at e m) i = omega
      (arith, enumerator_longer e (more_enumerators_words m i), more_enumerators_longer m i)
