-- Levels of nesting. An expression that is a name, a constant or a string has 0, each other 1 more than the greatest of
-- its parts. A declarator has 0 for its name and 1 more for each pointer, array, function or pair of parentheses. A
-- list of initializers, members or enumerators in braces has 1 more than the greatest of its parts, and a mention of a
-- tag, which has no parts, 0. A statement without a statement inside has 0, so an empty block too; each other has 1
-- more than the greatest statement inside, and its expressions and declarations are measured by themselves.
use Rattle.std.specs.Prelude.{ℕ, suc, max, List, [], ◌∷◌, Option, Some, None}
use Rattle.c_syntax.specs.Tree.{Expression, Arguments, MoreArguments, TypedDeclarator, Declarator, Parameters}
use Rattle.c_syntax.specs.Tree.{MoreParameters, Specifiers, Specifier, Members, Member, MoreDeclarators, Enumerator}
use Rattle.c_syntax.specs.Tree.{MoreEnumerators, Designator, Designation, Initializer, InitializerItem, MoreItems}
use Rattle.c_syntax.specs.Tree as t
use Rattle.c_syntax.specs.Statements.{Statement, Block, BlockItems, BlockItem}
use Rattle.c_syntax.specs.Statements as s

abbrev mutual
  pub expression_levels : Expression → ℕ
  expression_levels (t.identifier x) = 0
  expression_levels (t.integer x) = 0
  expression_levels (t.character x) = 0
  expression_levels (t.strings x z) = 0
  expression_levels (t.parenthesized l e r) = suc (expression_levels e)
  expression_levels (t.subscript e l x r) = suc (max (expression_levels e) (expression_levels x))
  expression_levels (t.call e l a r) = suc (max (expression_levels e) (arguments_levels a))
  expression_levels (t.member e w at x) = suc (expression_levels e)
  expression_levels (t.postfix e w at) = suc (expression_levels e)
  expression_levels (t.unary w at e) = suc (expression_levels e)
  expression_levels (t.sizeof_expression at e) = suc (expression_levels e)
  expression_levels (t.sizeof_type at l x r) = suc (typed_levels x)
  expression_levels (t.cast l x r e) = suc (max (typed_levels x) (expression_levels e))
  expression_levels (t.binary a w at b) = suc (max (expression_levels a) (expression_levels b))
  expression_levels (t.conditional c q a colon b) =
      suc (max (expression_levels c) (max (expression_levels a) (expression_levels b)))
  expression_levels (t.assignment a w at b) = suc (max (expression_levels a) (expression_levels b))

  pub arguments_levels : Arguments → ℕ
  arguments_levels t.no_arguments = 0
  arguments_levels (t.arguments e m) = max (expression_levels e) (more_arguments_levels m)

  pub more_arguments_levels : MoreArguments → ℕ
  more_arguments_levels t.end_of_arguments = 0
  more_arguments_levels (t.more_arguments at e m) = max (expression_levels e) (more_arguments_levels m)

  pub typed_levels : TypedDeclarator → ℕ
  typed_levels (t.typed z d) = max (specifiers_levels z) (declarator_levels d)

  pub declarator_levels : Declarator → ℕ
  declarator_levels (t.named x) = 0
  declarator_levels t.unnamed = 0
  declarator_levels (t.pointer at z d) = suc (declarator_levels d)
  declarator_levels (t.grouped l d r) = suc (declarator_levels d)
  declarator_levels (t.open_array d l r) = suc (declarator_levels d)
  declarator_levels (t.array d l e r) = suc (max (declarator_levels d) (expression_levels e))
  declarator_levels (t.function d l a r) = suc (max (declarator_levels d) (parameters_levels a))

  pub parameters_levels : Parameters → ℕ
  parameters_levels t.no_parameters = 0
  parameters_levels (t.void_parameters at) = 0
  parameters_levels (t.parameters x m) = max (typed_levels x) (more_parameters_levels m)

  pub more_parameters_levels : MoreParameters → ℕ
  more_parameters_levels t.end_of_parameters = 0
  more_parameters_levels (t.more_parameters at x m) = max (typed_levels x) (more_parameters_levels m)

  pub specifiers_levels : Specifiers → ℕ
  specifiers_levels t.no_specifiers = 0
  specifiers_levels (t.specifiers x z) = max (specifier_levels x) (specifiers_levels z)

  pub specifier_levels : Specifier → ℕ
  specifier_levels (t.keyword w at) = 0
  specifier_levels (t.typedef_name x) = 0
  specifier_levels (t.structure w at x) = 0
  specifier_levels (t.structure_body w at x l m r) = suc (members_levels m)
  specifier_levels (t.enumeration at x) = 0
  specifier_levels (t.enumeration_body at x l e m c r) = suc (max (enumerator_levels e) (more_enumerators_levels m))

  pub members_levels : Members → ℕ
  members_levels t.no_members = 0
  members_levels (t.members x m) = max (member_levels x) (members_levels m)

  pub member_levels : Member → ℕ
  member_levels (t.member_declaration z d m at) = max (specifiers_levels z)
      (max (declarator_levels d) (more_declarators_levels m))

  pub more_declarators_levels : MoreDeclarators → ℕ
  more_declarators_levels t.end_of_declarators = 0
  more_declarators_levels (t.more_declarators at d m) = max (declarator_levels d) (more_declarators_levels m)

  pub enumerator_levels : Enumerator → ℕ
  enumerator_levels (t.plain x) = 0
  enumerator_levels (t.valued x at e) = expression_levels e

  pub more_enumerators_levels : MoreEnumerators → ℕ
  more_enumerators_levels t.end_of_enumerators = 0
  more_enumerators_levels (t.more_enumerators at e m) = max (enumerator_levels e) (more_enumerators_levels m)

-- the sizes in designators
abbrev pub designators_levels : List Designator → ℕ
designators_levels [] = 0
designators_levels (t.element l e r ∷ z) = max (expression_levels e) (designators_levels z)
designators_levels (t.member_named at x ∷ z) = designators_levels z

-- C99 6.7.8
abbrev pub designation_levels : Option Designation → ℕ
designation_levels None = 0
designation_levels (Some x) = designators_levels x.designators

abbrev mutual
  pub initializer_levels : Initializer → ℕ
  initializer_levels (t.value e) = expression_levels e
  initializer_levels (t.braced l x m c r) = suc (max (item_levels x) (more_items_levels m))

  pub item_levels : InitializerItem → ℕ
  item_levels (t.item x v) = max (designation_levels x) (initializer_levels v)

  pub more_items_levels : MoreItems → ℕ
  more_items_levels t.end_of_items = 0
  more_items_levels (t.more_items at x m) = max (item_levels x) (more_items_levels m)

abbrev mutual
  pub statement_levels : Statement → ℕ
  statement_levels (s.compound b) = block_levels b
  statement_levels (s.expression e at) = 0
  statement_levels (s.if_then at l e r x) = suc (statement_levels x)
  statement_levels (s.if_else at l e r x q y) = suc (max (statement_levels x) (statement_levels y))
  statement_levels (s.switch at l e r b) = suc (block_levels b)
  statement_levels (s.while_do at l e r x) = suc (statement_levels x)
  statement_levels (s.do_while at x q l e r semi) = suc (statement_levels x)
  statement_levels (s.for at l f c semi e r x) = suc (statement_levels x)
  statement_levels (s.case at e colon x) = suc (statement_levels x)
  statement_levels (s.default at colon x) = suc (statement_levels x)
  statement_levels (s.break at semi) = 0
  statement_levels (s.continue at semi) = 0
  statement_levels (s.return at e semi) = 0

  pub block_levels : Block → ℕ
  block_levels (s.block l x r) = items_levels x

  pub items_levels : BlockItems → ℕ
  items_levels s.no_items = 0
  items_levels (s.items x m) = max (block_item_levels x) (items_levels m)

  pub block_item_levels : BlockItem → ℕ
  block_item_levels (s.local d) = 0
  block_item_levels (s.inner x) = suc (statement_levels x)
