-- Trees whose structures and unions have members with names, as well-formed ones have (C99 6.7.2.1).
use Rattle.std.specs.Prelude.{Bool, true, not, ◌&&◌}
use Rattle.c_syntax.specs.Formed.{has_name, is_no_member}
use Rattle.c_syntax.specs.Tree.{Expression, Arguments, MoreArguments, TypedDeclarator, Declarator, Parameters}
use Rattle.c_syntax.specs.Tree.{MoreParameters, Specifiers, Specifier, Members, Member, MoreDeclarators, Enumerator}
use Rattle.c_syntax.specs.Tree.{MoreEnumerators}
use Rattle.c_syntax.specs.Tree as t

abbrev mutual
  pub is_regular : Expression → Bool
  is_regular (t.identifier x) = true
  is_regular (t.integer x) = true
  is_regular (t.character x) = true
  is_regular (t.strings x more) = true
  is_regular (t.parenthesized l e r) = is_regular e
  is_regular (t.subscript a l b r) = is_regular a && is_regular b
  is_regular (t.call f l args r) = is_regular f && are_regular args
  is_regular (t.member e w at x) = is_regular e
  is_regular (t.postfix e w at) = is_regular e
  is_regular (t.unary w at e) = is_regular e
  is_regular (t.sizeof_expression at e) = is_regular e
  is_regular (t.sizeof_type at l x r) = is_regular_name x
  is_regular (t.cast l x r e) = is_regular_name x && is_regular e
  is_regular (t.binary a w at b) = is_regular a && is_regular b
  is_regular (t.conditional c q a colon b) = is_regular c && is_regular a && is_regular b
  is_regular (t.assignment a w at b) = is_regular a && is_regular b

  pub are_regular : Arguments → Bool
  are_regular t.no_arguments = true
  are_regular (t.arguments e more) = is_regular e && more_are_regular more

  pub more_are_regular : MoreArguments → Bool
  more_are_regular t.end_of_arguments = true
  more_are_regular (t.more_arguments at e more) = is_regular e && more_are_regular more

  -- a type name or a parameter
  pub is_regular_name : TypedDeclarator → Bool
  is_regular_name (t.typed specs d) = are_regular_specifiers specs && is_regular_declarator d

  pub is_regular_declarator : Declarator → Bool
  is_regular_declarator (t.named x) = true
  is_regular_declarator t.unnamed = true
  is_regular_declarator (t.pointer at consts d) = is_regular_declarator d
  is_regular_declarator (t.grouped l d r) = is_regular_declarator d
  is_regular_declarator (t.open_array d l r) = is_regular_declarator d
  is_regular_declarator (t.array d l e r) = is_regular_declarator d && is_regular e
  is_regular_declarator (t.function d l ps r) = is_regular_declarator d && are_regular_parameters ps

  pub are_regular_parameters : Parameters → Bool
  are_regular_parameters t.no_parameters = true
  are_regular_parameters (t.void_parameters at) = true
  are_regular_parameters (t.parameters x more) = is_regular_name x && more_are_regular_parameters more

  pub more_are_regular_parameters : MoreParameters → Bool
  more_are_regular_parameters t.end_of_parameters = true
  more_are_regular_parameters (t.more_parameters at x more) = is_regular_name x && more_are_regular_parameters more

  pub are_regular_specifiers : Specifiers → Bool
  are_regular_specifiers t.no_specifiers = true
  are_regular_specifiers (t.specifiers x more) = is_regular_specifier x && are_regular_specifiers more

  pub is_regular_specifier : Specifier → Bool
  is_regular_specifier (t.keyword w at) = true
  is_regular_specifier (t.typedef_name x) = true
  is_regular_specifier (t.structure w at x) = true
  is_regular_specifier (t.structure_body w at x l ms r) = not (is_no_member ms) && are_regular_members ms
  is_regular_specifier (t.enumeration at x) = true
  is_regular_specifier (t.enumeration_body at x l e more comma r) =
      is_regular_enumerator e && more_are_regular_enumerators more

  pub are_regular_members : Members → Bool
  are_regular_members t.no_members = true
  are_regular_members (t.members m more) = is_regular_member m && are_regular_members more

  pub is_regular_member : Member → Bool
  is_regular_member (t.member_declaration specs d more at) =
      are_regular_specifiers specs && has_name d && is_regular_declarator d && more_are_regular_declarators more

  pub more_are_regular_declarators : MoreDeclarators → Bool
  more_are_regular_declarators t.end_of_declarators = true
  more_are_regular_declarators (t.more_declarators at d more) =
      has_name d && is_regular_declarator d && more_are_regular_declarators more

  pub is_regular_enumerator : Enumerator → Bool
  is_regular_enumerator (t.plain x) = true
  is_regular_enumerator (t.valued x at e) = is_regular e

  pub more_are_regular_enumerators : MoreEnumerators → Bool
  more_are_regular_enumerators t.end_of_enumerators = true
  more_are_regular_enumerators (t.more_enumerators at x more) =
      is_regular_enumerator x && more_are_regular_enumerators more
