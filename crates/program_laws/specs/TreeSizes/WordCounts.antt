-- How many words the tree of a text has (C99 6.4, 6.5 to 6.9).
use Rattle.std.specs.Prelude.{ℕ, ◌+◌, List, [], ◌∷◌, length, Option, Some, None}
use Rattle.c_syntax.specs.declared.position.Position.{Position}
use Rattle.c_syntax.specs.Statements.{Block, BlockItem, BlockItems, Declaration, External, ForInit, InitDeclarator}
use Rattle.c_syntax.specs.Statements.{InitDeclarators, Statement, Unit}
use Rattle.c_syntax.specs.Statements as s
use Rattle.c_syntax.specs.Tree.{Arguments, Declarator, Designation, Designator, Enumerator, Expression, Initializer}
use Rattle.c_syntax.specs.Tree.{InitializerItem, Member, Members, MoreArguments, MoreDeclarators, MoreEnumerators}
use Rattle.c_syntax.specs.Tree.{MoreItems, MoreParameters, Parameters, Specifier, Specifiers, TypedDeclarator}
use Rattle.c_syntax.specs.Tree as t

-- what may be absent is one word where it is there
abbrev pub words_if : {A : Type 0} → Option A → ℕ
words_if None = 0
words_if (Some x) = 1

abbrev mutual
  pub words_in : Expression → ℕ
  words_in (t.identifier x) = 1
  words_in (t.integer x) = 1
  words_in (t.character x) = 1
  words_in (t.strings x more) = 1 + length more
  words_in (t.parenthesized l e r) = 2 + words_in e
  words_in (t.subscript a l b r) = 2 + words_in a + words_in b
  words_in (t.call f l args r) = 2 + words_in f + words_in_arguments args
  words_in (t.member e w at x) = 2 + words_in e
  words_in (t.postfix e w at) = 1 + words_in e
  words_in (t.unary w at e) = 1 + words_in e
  words_in (t.sizeof_expression at e) = 1 + words_in e
  words_in (t.sizeof_type at l x r) = 3 + words_in_typed x
  words_in (t.cast l x r e) = 2 + words_in_typed x + words_in e
  words_in (t.binary a w at b) = 1 + words_in a + words_in b
  words_in (t.conditional c q a colon b) = 2 + words_in c + words_in a + words_in b
  words_in (t.assignment a w at b) = 1 + words_in a + words_in b

  pub words_in_arguments : Arguments → ℕ
  words_in_arguments t.no_arguments = 0
  words_in_arguments (t.arguments e more) = words_in e + words_in_more_arguments more

  pub words_in_more_arguments : MoreArguments → ℕ
  words_in_more_arguments t.end_of_arguments = 0
  words_in_more_arguments (t.more_arguments at e more) = 1 + words_in e + words_in_more_arguments more

  -- a type name or a parameter
  pub words_in_typed : TypedDeclarator → ℕ
  words_in_typed (t.typed specs d) = words_in_specifiers specs + words_in_declarator d

  pub words_in_declarator : Declarator → ℕ
  words_in_declarator (t.named x) = 1
  words_in_declarator t.unnamed = 0
  words_in_declarator (t.pointer at consts d) = 1 + length consts + words_in_declarator d
  words_in_declarator (t.grouped l d r) = 2 + words_in_declarator d
  words_in_declarator (t.open_array d l r) = 2 + words_in_declarator d
  words_in_declarator (t.array d l e r) = 2 + words_in_declarator d + words_in e
  words_in_declarator (t.function d l ps r) = 2 + words_in_declarator d + words_in_parameters ps

  pub words_in_parameters : Parameters → ℕ
  words_in_parameters t.no_parameters = 0
  words_in_parameters (t.void_parameters at) = 1
  words_in_parameters (t.parameters x more) = words_in_typed x + words_in_more_parameters more

  pub words_in_more_parameters : MoreParameters → ℕ
  words_in_more_parameters t.end_of_parameters = 0
  words_in_more_parameters (t.more_parameters at x more) = 1 + words_in_typed x + words_in_more_parameters more

  pub words_in_specifiers : Specifiers → ℕ
  words_in_specifiers t.no_specifiers = 0
  words_in_specifiers (t.specifiers x more) = words_in_specifier x + words_in_specifiers more

  pub words_in_specifier : Specifier → ℕ
  words_in_specifier (t.keyword w at) = 1
  words_in_specifier (t.typedef_name x) = 1
  words_in_specifier (t.structure w at x) = 2
  words_in_specifier (t.structure_body w at x l ms r) = 3 + words_if x + words_in_members ms
  words_in_specifier (t.enumeration at x) = 2
  words_in_specifier (t.enumeration_body at x l e more comma r) =
      3 + words_if x + words_in_enumerator e + words_in_more_enumerators more + words_if comma

  pub words_in_members : Members → ℕ
  words_in_members t.no_members = 0
  words_in_members (t.members m more) = words_in_member m + words_in_members more

  pub words_in_member : Member → ℕ
  words_in_member (t.member_declaration specs d more at) =
      1 + words_in_specifiers specs + words_in_declarator d + words_in_more_declarators more

  pub words_in_more_declarators : MoreDeclarators → ℕ
  words_in_more_declarators t.end_of_declarators = 0
  words_in_more_declarators (t.more_declarators at d more) =
      1 + words_in_declarator d + words_in_more_declarators more

  pub words_in_enumerator : Enumerator → ℕ
  words_in_enumerator (t.plain x) = 1
  words_in_enumerator (t.valued x at e) = 2 + words_in e

  pub words_in_more_enumerators : MoreEnumerators → ℕ
  words_in_more_enumerators t.end_of_enumerators = 0
  words_in_more_enumerators (t.more_enumerators at x more) = 1 + words_in_enumerator x + words_in_more_enumerators more

-- initializers (6.7.8)

abbrev pub words_in_designator : Designator → ℕ
words_in_designator (t.element l e r) = 2 + words_in e
words_in_designator (t.member_named at x) = 2

abbrev pub words_in_designators : List Designator → ℕ
words_in_designators [] = 0
words_in_designators (d ∷ ds) = words_in_designator d + words_in_designators ds

abbrev pub words_in_designation : Option Designation → ℕ
words_in_designation None = 0
words_in_designation (Some d) = 1 + words_in_designators d.designators

abbrev mutual
  pub words_in_initializer : Initializer → ℕ
  words_in_initializer (t.value e) = words_in e
  words_in_initializer (t.braced l x more comma r) = 2 + words_in_item x + words_in_items more + words_if comma

  pub words_in_item : InitializerItem → ℕ
  words_in_item (t.item designation x) = words_in_designation designation + words_in_initializer x

  pub words_in_items : MoreItems → ℕ
  words_in_items t.end_of_items = 0
  words_in_items (t.more_items at x more) = 1 + words_in_item x + words_in_items more

-- declarations (6.7)

-- an initializer with its `=`, if there is one
abbrev pub words_in_initialized : Option (Position × Initializer) → ℕ
words_in_initialized None = 0
words_in_initialized (Some x) = 1 + words_in_initializer x.1

abbrev pub words_in_object : InitDeclarator → ℕ
words_in_object d = words_in_declarator d.declarator + words_in_initialized d.initializer

abbrev pub words_in_more_objects : List (Position × InitDeclarator) → ℕ
words_in_more_objects [] = 0
words_in_more_objects (d ∷ ds) = 1 + words_in_object d.1 + words_in_more_objects ds

abbrev pub words_in_objects : Option InitDeclarators → ℕ
words_in_objects None = 0
words_in_objects (Some ds) = words_in_object ds.first + words_in_more_objects ds.others

abbrev pub words_in_declaration : Declaration → ℕ
words_in_declaration d = 1 + words_in_specifiers d.specifiers + words_in_objects d.declarators

-- statements (6.8)

abbrev pub words_in_if : Option Expression → ℕ
words_in_if None = 0
words_in_if (Some e) = words_in e

abbrev pub words_in_first : ForInit → ℕ
words_in_first (s.declares d) = words_in_declaration d
words_in_first (s.evaluates e at) = 1 + words_in_if e

abbrev mutual
  pub words_in_statement : Statement → ℕ
  words_in_statement (s.compound b) = words_in_block b
  words_in_statement (s.expression e at) = 1 + words_in_if e
  words_in_statement (s.if_then at l e r x) = 3 + words_in e + words_in_statement x
  words_in_statement (s.if_else at l e r x word other) =
      4 + words_in e + words_in_statement x + words_in_statement other
  words_in_statement (s.switch at l e r b) = 3 + words_in e + words_in_block b
  words_in_statement (s.while_do at l e r x) = 3 + words_in e + words_in_statement x
  words_in_statement (s.do_while at x word l e r end) = 5 + words_in_statement x + words_in e
  words_in_statement (s.for at l first condition semicolon step r x) =
      4 + words_in_first first + words_in_if condition + words_in_if step + words_in_statement x
  words_in_statement (s.case at e colon x) = 2 + words_in e + words_in_statement x
  words_in_statement (s.default at colon x) = 2 + words_in_statement x
  words_in_statement (s.break at end) = 2
  words_in_statement (s.continue at end) = 2
  words_in_statement (s.return at e end) = 2 + words_in_if e

  pub words_in_block : Block → ℕ
  words_in_block (s.block l xs r) = 2 + words_in_block_items xs

  pub words_in_block_items : BlockItems → ℕ
  words_in_block_items s.no_items = 0
  words_in_block_items (s.items x more) = words_in_block_item x + words_in_block_items more

  pub words_in_block_item : BlockItem → ℕ
  words_in_block_item (s.local d) = words_in_declaration d
  words_in_block_item (s.inner x) = words_in_statement x

-- files (6.9)

abbrev pub words_in_external : External → ℕ
words_in_external (s.definition specs d b) =
    words_in_specifiers specs + words_in_declarator d + words_in_block b
words_in_external (s.declaration d) = words_in_declaration d

abbrev pub words_in_externals : List External → ℕ
words_in_externals [] = 0
words_in_externals (x ∷ xs) = words_in_external x + words_in_externals xs

abbrev pub words_of : Unit → ℕ
words_of u = words_in_externals u.externals
