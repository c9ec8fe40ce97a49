-- The words of a tree are as many as are counted.
use Rattle.std.proofs.Common.{◌≡◌, ◌+◌, List, [], ◌∷◌, length, Option, Some, None, arith}
use Rattle.c_syntax.specs.declared.position.Position.{Position}
use Rattle.c_syntax.specs.declared.position.Spelled.{Spelled}
use Rattle.c_syntax.specs.Statements.{Block, BlockItem, BlockItems, Declaration, External, ForInit, InitDeclarator}
use Rattle.c_syntax.specs.Statements.{InitDeclarators, Statement, Unit}
use Rattle.c_syntax.specs.Statements as s
use Rattle.c_syntax.specs.Tree.{Arguments, Declarator, Designation, Designator, Enumerator, Expression, Initializer}
use Rattle.c_syntax.specs.Tree.{InitializerItem, Member, Members, MoreArguments, MoreDeclarators, MoreEnumerators}
use Rattle.c_syntax.specs.Tree.{MoreItems, MoreParameters, Parameters, Specifier, Specifiers, TypedDeclarator}
use Rattle.c_syntax.specs.Tree as t
use Rattle.c_syntax.specs.Words.{Words, arguments_words, block_item_words, block_words, comma_words, const_words}
use Rattle.c_syntax.specs.Words.{declaration_words, declarator_words, designation_words, designator_words}
use Rattle.c_syntax.specs.Words.{designators_words, enumerator_words, expression_words, external_words, externals_words}
use Rattle.c_syntax.specs.Words.{for_init_words, init_declarator_words, init_declarators_words, initialized_words}
use Rattle.c_syntax.specs.Words.{initializer_words, item_words, items_words, member_words, members_words}
use Rattle.c_syntax.specs.Words.{more_arguments_words, more_declarators_words, more_enumerators_words}
use Rattle.c_syntax.specs.Words.{more_init_declarators_words, more_items_words, more_parameters_words, optional_words}
use Rattle.c_syntax.specs.Words.{parameters_words, specifier_words, specifiers_words, statement_words, strings_words}
use Rattle.c_syntax.specs.Words.{tag_words, typed_words, unit_words}
use Rattle.program_laws.specs.TreeSizes.WordCounts.{words_if, words_in, words_in_arguments, words_in_block}
use Rattle.program_laws.specs.TreeSizes.WordCounts.{words_in_block_item}
use Rattle.program_laws.specs.TreeSizes.WordCounts.{words_in_block_items, words_in_declaration, words_in_declarator}
use Rattle.program_laws.specs.TreeSizes.WordCounts.{words_in_designation, words_in_designator, words_in_designators}
use Rattle.program_laws.specs.TreeSizes.WordCounts.{words_in_enumerator, words_in_external, words_in_externals}
use Rattle.program_laws.specs.TreeSizes.WordCounts.{words_in_first}
use Rattle.program_laws.specs.TreeSizes.WordCounts.{words_in_if, words_in_initialized, words_in_initializer}
use Rattle.program_laws.specs.TreeSizes.WordCounts.{words_in_item}
use Rattle.program_laws.specs.TreeSizes.WordCounts.{words_in_items, words_in_member, words_in_members}
use Rattle.program_laws.specs.TreeSizes.WordCounts.{words_in_more_arguments}
use Rattle.program_laws.specs.TreeSizes.WordCounts.{words_in_more_declarators, words_in_more_enumerators}
use Rattle.program_laws.specs.TreeSizes.WordCounts.{words_in_more_objects}
use Rattle.program_laws.specs.TreeSizes.WordCounts.{words_in_more_parameters, words_in_object, words_in_objects}
use Rattle.program_laws.specs.TreeSizes.WordCounts.{words_in_parameters, words_in_specifier, words_in_specifiers}
use Rattle.program_laws.specs.TreeSizes.WordCounts.{words_in_statement, words_in_typed, words_of}

strings_count : (z : List Spelled) (i : Words) → length (strings_words z i) ≡ length z + length i
strings_count [] i = omega arith
strings_count (x ∷ z) i = omega (arith, strings_count z i)

consts_count : (z : List Position) (i : Words) → length (const_words z i) ≡ length z + length i
consts_count [] i = omega arith
consts_count (x ∷ z) i = omega (arith, consts_count z i)

tag_count : (x : Option Spelled) (i : Words) → length (tag_words x i) ≡ words_if x + length i
tag_count None i = omega arith
tag_count (Some x) i = omega arith

comma_count : (x : Option Position) (i : Words) → length (comma_words x i) ≡ words_if x + length i
comma_count None i = omega arith
comma_count (Some x) i = omega arith

mutual
  pub expression_count : (e : Expression) (i : Words) → length (expression_words e i) ≡ words_in e + length i
  expression_count (t.identifier x) i = omega arith
  expression_count (t.integer x) i = omega arith
  expression_count (t.character x) i = omega arith
  expression_count (t.strings x more) i = omega (arith, strings_count)
  expression_count (t.parenthesized l e r) i = omega (arith, expression_count e)
  expression_count (t.subscript a l b r) i = omega (arith, expression_count a, expression_count b)
  expression_count (t.call f l args r) i = omega (arith, expression_count f, arguments_count args)
  expression_count (t.member e w at x) i = omega (arith, expression_count e)
  expression_count (t.postfix e w at) i = omega (arith, expression_count e)
  expression_count (t.unary w at e) i = omega (arith, expression_count e)
  expression_count (t.sizeof_expression at e) i = omega (arith, expression_count e)
  expression_count (t.sizeof_type at l x r) i = omega (arith, typed_count x)
  expression_count (t.cast l x r e) i = omega (arith, typed_count x, expression_count e)
  expression_count (t.binary a w at b) i = omega (arith, expression_count a, expression_count b)
  expression_count (t.conditional c q a colon b) i =
      omega (arith, expression_count c, expression_count a, expression_count b)
  expression_count (t.assignment a w at b) i = omega (arith, expression_count a, expression_count b)

  arguments_count : (x : Arguments) (i : Words) → length (arguments_words x i) ≡ words_in_arguments x + length i
  arguments_count t.no_arguments i = omega arith
  arguments_count (t.arguments e more) i = omega (arith, expression_count e, more_arguments_count more)

  more_arguments_count : (x : MoreArguments) (i : Words)
      → length (more_arguments_words x i) ≡ words_in_more_arguments x + length i
  more_arguments_count t.end_of_arguments i = omega arith
  more_arguments_count (t.more_arguments at e more) i =
      omega (arith, expression_count e, more_arguments_count more)

  typed_count : (x : TypedDeclarator) (i : Words) → length (typed_words x i) ≡ words_in_typed x + length i
  typed_count (t.typed specs d) i = omega (arith, specifiers_count specs, declarator_count d)

  declarator_count : (d : Declarator) (i : Words) → length (declarator_words d i) ≡ words_in_declarator d + length i
  declarator_count (t.named x) i = omega arith
  declarator_count t.unnamed i = omega arith
  declarator_count (t.pointer at consts d) i = omega (arith, consts_count, declarator_count d)
  declarator_count (t.grouped l d r) i = omega (arith, declarator_count d)
  declarator_count (t.open_array d l r) i = omega (arith, declarator_count d)
  declarator_count (t.array d l e r) i = omega (arith, declarator_count d, expression_count e)
  declarator_count (t.function d l ps r) i = omega (arith, declarator_count d, parameters_count ps)

  parameters_count : (x : Parameters) (i : Words) → length (parameters_words x i) ≡ words_in_parameters x + length i
  parameters_count t.no_parameters i = omega arith
  parameters_count (t.void_parameters at) i = omega arith
  parameters_count (t.parameters x more) i = omega (arith, typed_count x, more_parameters_count more)

  more_parameters_count : (x : MoreParameters) (i : Words)
      → length (more_parameters_words x i) ≡ words_in_more_parameters x + length i
  more_parameters_count t.end_of_parameters i = omega arith
  more_parameters_count (t.more_parameters at x more) i = omega (arith, typed_count x, more_parameters_count more)

  specifiers_count : (x : Specifiers) (i : Words) → length (specifiers_words x i) ≡ words_in_specifiers x + length i
  specifiers_count t.no_specifiers i = omega arith
  specifiers_count (t.specifiers x more) i = omega (arith, specifier_count x, specifiers_count more)

  specifier_count : (x : Specifier) (i : Words) → length (specifier_words x i) ≡ words_in_specifier x + length i
  specifier_count (t.keyword w at) i = omega arith
  specifier_count (t.typedef_name x) i = omega arith
  specifier_count (t.structure w at x) i = omega arith
  specifier_count (t.structure_body w at x l ms r) i = omega (arith, tag_count, members_count ms)
  specifier_count (t.enumeration at x) i = omega arith
  specifier_count (t.enumeration_body at x l e more comma r) i =
      omega (arith, tag_count, enumerator_count e, more_enumerators_count more, comma_count)

  members_count : (x : Members) (i : Words) → length (members_words x i) ≡ words_in_members x + length i
  members_count t.no_members i = omega arith
  members_count (t.members m more) i = omega (arith, member_count m, members_count more)

  member_count : (x : Member) (i : Words) → length (member_words x i) ≡ words_in_member x + length i
  member_count (t.member_declaration specs d more at) i =
      omega (arith, specifiers_count specs, declarator_count d, more_declarators_count more)

  more_declarators_count : (x : MoreDeclarators) (i : Words)
      → length (more_declarators_words x i) ≡ words_in_more_declarators x + length i
  more_declarators_count t.end_of_declarators i = omega arith
  more_declarators_count (t.more_declarators at d more) i =
      omega (arith, declarator_count d, more_declarators_count more)

  enumerator_count : (x : Enumerator) (i : Words) → length (enumerator_words x i) ≡ words_in_enumerator x + length i
  enumerator_count (t.plain x) i = omega arith
  enumerator_count (t.valued x at e) i = omega (arith, expression_count e)

  more_enumerators_count : (x : MoreEnumerators) (i : Words)
      → length (more_enumerators_words x i) ≡ words_in_more_enumerators x + length i
  more_enumerators_count t.end_of_enumerators i = omega arith
  more_enumerators_count (t.more_enumerators at x more) i =
      omega (arith, enumerator_count x, more_enumerators_count more)

-- initializers

designator_count : (x : Designator) (i : Words) → length (designator_words x i) ≡ words_in_designator x + length i
designator_count (t.element l e r) i = omega (arith, expression_count e)
designator_count (t.member_named at x) i = omega arith

designators_count : (x : List Designator) (i : Words)
    → length (designators_words x i) ≡ words_in_designators x + length i
designators_count [] i = omega arith
designators_count (x ∷ z) i = omega (arith, designator_count x, designators_count z)

designation_count : (x : Option Designation) (i : Words)
    → length (designation_words x i) ≡ words_in_designation x + length i
designation_count None i = omega arith
designation_count (Some x) i = omega (arith, designators_count x.designators)

mutual
  initializer_count : (x : Initializer) (i : Words)
      → length (initializer_words x i) ≡ words_in_initializer x + length i
  initializer_count (t.value e) i = expression_count e i
  initializer_count (t.braced l x more comma r) i = omega (arith, item_count x, items_count more, comma_count)

  item_count : (x : InitializerItem) (i : Words) → length (item_words x i) ≡ words_in_item x + length i
  item_count (t.item designation x) i = omega (arith, designation_count, initializer_count x)

  items_count : (x : MoreItems) (i : Words) → length (more_items_words x i) ≡ words_in_items x + length i
  items_count t.end_of_items i = omega arith
  items_count (t.more_items at x more) i = omega (arith, item_count x, items_count more)

-- declarations

initialized_count : (x : Option (Position × Initializer)) (i : Words)
    → length (initialized_words x i) ≡ words_in_initialized x + length i
initialized_count None i = omega arith
initialized_count (Some x) i = omega (arith, initializer_count x.1)

object_count : (d : InitDeclarator) (i : Words) → length (init_declarator_words d i) ≡ words_in_object d + length i
object_count d i = omega (arith, declarator_count d.declarator, initialized_count d.initializer)

more_objects_count : (ds : List (Position × InitDeclarator)) (i : Words)
    → length (more_init_declarators_words ds i) ≡ words_in_more_objects ds + length i
more_objects_count [] i = omega arith
more_objects_count (d ∷ ds) i = omega (arith, object_count d.1, more_objects_count ds)

objects_count : (ds : Option InitDeclarators) (i : Words)
    → length (init_declarators_words ds i) ≡ words_in_objects ds + length i
objects_count None i = omega arith
objects_count (Some ds) i = omega (arith, object_count ds.first, more_objects_count ds.others)

declaration_count : (d : Declaration) (i : Words)
    → length (declaration_words d i) ≡ words_in_declaration d + length i
declaration_count d i = omega (arith, specifiers_count d.specifiers, objects_count d.declarators)

-- statements

optional_count : (e : Option Expression) (i : Words) → length (optional_words e i) ≡ words_in_if e + length i
optional_count None i = omega arith
optional_count (Some e) i = expression_count e i

first_count : (x : ForInit) (i : Words) → length (for_init_words x i) ≡ words_in_first x + length i
first_count (s.declares d) i = declaration_count d i
first_count (s.evaluates e at) i = omega (arith, optional_count e)

mutual
  statement_count : (x : Statement) (i : Words) → length (statement_words x i) ≡ words_in_statement x + length i
  statement_count (s.compound b) i = block_count b i
  statement_count (s.expression e at) i = omega (arith, optional_count e)
  statement_count (s.if_then at l e r x) i = omega (arith, expression_count e, statement_count x)
  statement_count (s.if_else at l e r x word other) i =
      omega (arith, expression_count e, statement_count x, statement_count other)
  statement_count (s.switch at l e r b) i = omega (arith, expression_count e, block_count b)
  statement_count (s.while_do at l e r x) i = omega (arith, expression_count e, statement_count x)
  statement_count (s.do_while at x word l e r end) i = omega (arith, statement_count x, expression_count e)
  statement_count (s.for at l first condition semicolon step r x) i =
      omega (arith, first_count first, optional_count, statement_count x)
  statement_count (s.case at e colon x) i = omega (arith, expression_count e, statement_count x)
  statement_count (s.default at colon x) i = omega (arith, statement_count x)
  statement_count (s.break at end) i = omega arith
  statement_count (s.continue at end) i = omega arith
  statement_count (s.return at e end) i = omega (arith, optional_count e)

  block_count : (b : Block) (i : Words) → length (block_words b i) ≡ words_in_block b + length i
  block_count (s.block l xs r) i = omega (arith, block_items_count xs)

  block_items_count : (xs : BlockItems) (i : Words) → length (items_words xs i) ≡ words_in_block_items xs + length i
  block_items_count s.no_items i = omega arith
  block_items_count (s.items x more) i = omega (arith, block_item_count x, block_items_count more)

  block_item_count : (x : BlockItem) (i : Words) → length (block_item_words x i) ≡ words_in_block_item x + length i
  block_item_count (s.local d) i = declaration_count d i
  block_item_count (s.inner x) i = statement_count x i

-- files

external_count : (x : External) (i : Words) → length (external_words x i) ≡ words_in_external x + length i
external_count (s.definition specs d b) i = omega (arith, specifiers_count specs, declarator_count d, block_count b)
external_count (s.declaration d) i = declaration_count d i

externals_count : (xs : List External) (i : Words) → length (externals_words xs i) ≡ words_in_externals xs + length i
externals_count [] i = omega arith
externals_count (x ∷ xs) i = omega (arith, external_count x, externals_count xs)

pub unit_count : (u : Unit) → length (unit_words u) ≡ words_of u
unit_count u = omega (arith, externals_count u.externals [])
