-- Trees without where they lie in memory: from the code's trees to the plain ones.
use Rattle.std.specs.Prelude.{List, [], ◌∷◌, map}
use Rattle.c_syntax.specs.declared.position.Position.{Position}
use Rattle.c_syntax.specs.declared.tree.Arguments.TheOpen.{Arguments-F, Declarator-F, Enumerator-F, Expression-F}
use Rattle.c_syntax.specs.declared.tree.Arguments.TheOpen.{Parameters-F, Specifier-F, Member-F, TypedDeclarator-F}
use Rattle.c_syntax.specs.declared.tree.Arguments as ra
use Rattle.c_syntax.specs.declared.tree.Declarator as rd
use Rattle.c_syntax.specs.declared.tree.Enumerator as re
use Rattle.c_syntax.specs.declared.tree.Expression as rx
use Rattle.c_syntax.specs.declared.tree.Parameters as rp
use Rattle.c_syntax.specs.declared.tree.Specifier as rs
use Rattle.c_syntax.specs.declared.tree.Member as rm
use Rattle.c_syntax.specs.declared.tree.TypedDeclarator as rt
use Rattle.c_syntax.specs.Tree.{Expression, Arguments, MoreArguments, TypedDeclarator, Declarator, Parameters}
use Rattle.c_syntax.specs.Tree.{MoreParameters, Specifiers, Specifier, Members, Member, MoreDeclarators, Enumerator}
use Rattle.c_syntax.specs.Tree.{MoreEnumerators}
use Rattle.c_syntax.specs.Tree as t

abbrev pub more_arguments_of : List (Position × Expression) → MoreArguments
more_arguments_of [] = t.end_of_arguments
more_arguments_of (x ∷ z) = t.more_arguments x.0 x.1 (more_arguments_of z)

abbrev pub more_parameters_of : List (Position × TypedDeclarator) → MoreParameters
more_parameters_of [] = t.end_of_parameters
more_parameters_of (x ∷ z) = t.more_parameters x.0 x.1 (more_parameters_of z)

abbrev pub more_declarators_of : List (Position × Declarator) → MoreDeclarators
more_declarators_of [] = t.end_of_declarators
more_declarators_of (x ∷ z) = t.more_declarators x.0 x.1 (more_declarators_of z)

abbrev pub more_enumerators_of : List (Position × Enumerator) → MoreEnumerators
more_enumerators_of [] = t.end_of_enumerators
more_enumerators_of (x ∷ z) = t.more_enumerators x.0 x.1 (more_enumerators_of z)

abbrev pub specifiers_of : List Specifier → Specifiers
specifiers_of [] = t.no_specifiers
specifiers_of (x ∷ z) = t.specifiers x (specifiers_of z)

abbrev pub members_of : List Member → Members
members_of [] = t.no_members
members_of (x ∷ z) = t.members x (members_of z)

abbrev pub arguments_step : Arguments-F Arguments Declarator Enumerator Expression Parameters Specifier Member
    TypedDeclarator → Arguments
arguments_step Arguments-F.Arguments::Empty = t.no_arguments
arguments_step (Arguments-F.Arguments::Given e z) = t.arguments e (more_arguments_of z)

abbrev pub declarator_step : Declarator-F Arguments Declarator Enumerator Expression Parameters Specifier Member
    TypedDeclarator → Declarator
declarator_step (Declarator-F.Named x) = t.named x
declarator_step Declarator-F.Unnamed = t.unnamed
declarator_step (Declarator-F.Pointer at z d) = t.pointer at z d
declarator_step (Declarator-F.Declarator::Parenthesized l d r) = t.grouped l d r
declarator_step (Declarator-F.OpenArray d l r) = t.open_array d l r
declarator_step (Declarator-F.Array d l e r) = t.array d l e r
declarator_step (Declarator-F.Function d l a r) = t.function d l a r

abbrev pub enumerator_step : Enumerator-F Arguments Declarator Enumerator Expression Parameters Specifier Member
    TypedDeclarator → Enumerator
enumerator_step (Enumerator-F.Plain x) = t.plain x
enumerator_step (Enumerator-F.Valued x at e) = t.valued x at e

abbrev pub expression_step : Expression-F Arguments Declarator Enumerator Expression Parameters Specifier Member
    TypedDeclarator → Expression
expression_step (Expression-F.Identifier x) = t.identifier x
expression_step (Expression-F.Integer x) = t.integer x
expression_step (Expression-F.Character x) = t.character x
expression_step (Expression-F.Strings x z) = t.strings x z
expression_step (Expression-F.Expression::Parenthesized l e r) = t.parenthesized l e r
expression_step (Expression-F.Subscript e l x r) = t.subscript e l x r
expression_step (Expression-F.Call e l a r) = t.call e l a r
expression_step (Expression-F.Member e w at x) = t.member e w at x
expression_step (Expression-F.Postfix e w at) = t.postfix e w at
expression_step (Expression-F.Unary w at e) = t.unary w at e
expression_step (Expression-F.SizeofExpression at e) = t.sizeof_expression at e
expression_step (Expression-F.SizeofType at l x r) = t.sizeof_type at l x r
expression_step (Expression-F.Cast l x r e) = t.cast l x r e
expression_step (Expression-F.Binary a w at b) = t.binary a w at b
expression_step (Expression-F.Conditional c q a colon b) = t.conditional c q a colon b
expression_step (Expression-F.Assignment a w at b) = t.assignment a w at b

abbrev pub parameters_step : Parameters-F Arguments Declarator Enumerator Expression Parameters Specifier Member
    TypedDeclarator → Parameters
parameters_step Parameters-F.Parameters::Empty = t.no_parameters
parameters_step (Parameters-F.Void at) = t.void_parameters at
parameters_step (Parameters-F.Parameters::Given x z) = t.parameters x (more_parameters_of z)

abbrev pub specifier_step : Specifier-F Arguments Declarator Enumerator Expression Parameters Specifier Member
    TypedDeclarator → Specifier
specifier_step (Specifier-F.Keyword w at) = t.keyword w at
specifier_step (Specifier-F.TypedefName x) = t.typedef_name x
specifier_step (Specifier-F.Structure w at x) = t.structure w at x
specifier_step (Specifier-F.StructureBody w at x l m r) = t.structure_body w at x l (members_of m) r
specifier_step (Specifier-F.Enumeration at x) = t.enumeration at x
specifier_step (Specifier-F.EnumerationBody at x l e z c r) = t.enumeration_body at x l e (more_enumerators_of z) c r

abbrev pub member_step : Member-F Arguments Declarator Enumerator Expression Parameters Specifier Member TypedDeclarator
    → Member
member_step m = t.member_declaration (specifiers_of m.specifiers) m.first (more_declarators_of m.others) m.semicolon

abbrev pub typed_step : TypedDeclarator-F Arguments Declarator Enumerator Expression Parameters Specifier Member
    TypedDeclarator → TypedDeclarator
typed_step x = t.typed (specifiers_of x.specifiers) x.declarator

abbrev pub arguments_of : ra.Arguments → Arguments
arguments_of = ra.fold-Arguments Arguments Declarator Enumerator Expression Parameters Specifier Member TypedDeclarator
    arguments_step declarator_step enumerator_step expression_step parameters_step specifier_step member_step typed_step

abbrev pub declarator_of : rd.Declarator → Declarator
declarator_of = rd.fold-Declarator Arguments Declarator Enumerator Expression Parameters Specifier Member
    TypedDeclarator
    arguments_step declarator_step enumerator_step expression_step parameters_step specifier_step member_step typed_step

abbrev pub enumerator_of : re.Enumerator → Enumerator
enumerator_of = re.fold-Enumerator Arguments Declarator Enumerator Expression Parameters Specifier Member
    TypedDeclarator
    arguments_step declarator_step enumerator_step expression_step parameters_step specifier_step member_step typed_step

abbrev pub expression_of : rx.Expression → Expression
expression_of = rx.fold-Expression Arguments Declarator Enumerator Expression Parameters Specifier Member
    TypedDeclarator
    arguments_step declarator_step enumerator_step expression_step parameters_step specifier_step member_step typed_step

abbrev pub parameters_of : rp.Parameters → Parameters
parameters_of = rp.fold-Parameters Arguments Declarator Enumerator Expression Parameters Specifier Member
    TypedDeclarator
    arguments_step declarator_step enumerator_step expression_step parameters_step specifier_step member_step typed_step

abbrev pub specifier_of : rs.Specifier → Specifier
specifier_of = rs.fold-Specifier Arguments Declarator Enumerator Expression Parameters Specifier Member TypedDeclarator
    arguments_step declarator_step enumerator_step expression_step parameters_step specifier_step member_step typed_step

abbrev pub member_of : rm.Member → Member
member_of = rm.fold-Member Arguments Declarator Enumerator Expression Parameters Specifier Member TypedDeclarator
    arguments_step declarator_step enumerator_step expression_step parameters_step specifier_step member_step typed_step

abbrev pub typed_of : rt.TypedDeclarator → TypedDeclarator
typed_of = rt.fold-TypedDeclarator Arguments Declarator Enumerator Expression Parameters Specifier Member
    TypedDeclarator
    arguments_step declarator_step enumerator_step expression_step parameters_step specifier_step member_step typed_step

abbrev pub specifiers_in : List rs.Specifier → Specifiers
specifiers_in z = specifiers_of (map specifier_of z)

-- what stands behind a comma, with its position
abbrev pub behind_comma : {A B : Type 0} → (A → B) → Position × A → Position × B
behind_comma f x = (x.0, f x.1)

abbrev pub more_arguments_in : List (Position × rx.Expression) → MoreArguments
more_arguments_in z = more_arguments_of (map (behind_comma expression_of) z)

abbrev pub more_parameters_in : List (Position × rt.TypedDeclarator) → MoreParameters
more_parameters_in z = more_parameters_of (map (behind_comma typed_of) z)

abbrev pub more_declarators_in : List (Position × rd.Declarator) → MoreDeclarators
more_declarators_in z = more_declarators_of (map (behind_comma declarator_of) z)

abbrev pub more_enumerators_in : List (Position × re.Enumerator) → MoreEnumerators
more_enumerators_in z = more_enumerators_of (map (behind_comma enumerator_of) z)

abbrev pub members_in : List rm.Member → Members
members_in z = members_of (map member_of z)
