-- The lists of parameters and of members in a file, with how many each has, in the order of their `(` and `{`: those of
-- a tree, and then others, which stand behind it.
use Rattle.std.specs.Prelude.{ℕ, suc, ◌+◌, List, [], ◌∷◌, Option, Some, None}
use Rattle.c_syntax.specs.declared.position.Position.{Position}
use Rattle.c_syntax.specs.Statements as s
use Rattle.c_syntax.specs.Tree.{Arguments, Declarator, Designation, Designator, Enumerator, Expression, Initializer}
use Rattle.c_syntax.specs.Tree.{InitializerItem, Member, Members, MoreArguments, MoreDeclarators, MoreEnumerators}
use Rattle.c_syntax.specs.Tree.{MoreItems, MoreParameters, Parameters, Specifier, Specifiers, TypedDeclarator}
use Rattle.c_syntax.specs.Tree as t

pub data Count : Type 0 where
  of_parameters : ℕ → Count
  of_members : ℕ → Count

-- how many parameters and members lists have

abbrev pub others : MoreParameters → ℕ
others t.end_of_parameters = 0
others (t.more_parameters at x more) = suc (others more)

abbrev pub parameters_counted : Parameters → List Count → List Count
parameters_counted t.no_parameters cs = cs
parameters_counted (t.void_parameters at) cs = cs
parameters_counted (t.parameters x more) cs = of_parameters (suc (others more)) ∷ cs

abbrev pub further : MoreDeclarators → ℕ
further t.end_of_declarators = 0
further (t.more_declarators at d more) = suc (further more)

abbrev pub declared_in : Member → ℕ
declared_in (t.member_declaration specs d more end) = suc (further more)

abbrev pub members_in : Members → ℕ
members_in t.no_members = 0
members_in (t.members m more) = declared_in m + members_in more

abbrev mutual
  pub expression : Expression → List Count → List Count
  expression (t.identifier x) cs = cs
  expression (t.integer x) cs = cs
  expression (t.character x) cs = cs
  expression (t.strings x more) cs = cs
  expression (t.parenthesized l e r) cs = expression e cs
  expression (t.subscript a l b r) cs = expression a (expression b cs)
  expression (t.call f l args r) cs = expression f (arguments args cs)
  expression (t.member e w at x) cs = expression e cs
  expression (t.postfix e w at) cs = expression e cs
  expression (t.unary w at e) cs = expression e cs
  expression (t.sizeof_expression at e) cs = expression e cs
  expression (t.sizeof_type at l x r) cs = typed_declarator x cs
  expression (t.cast l x r e) cs = typed_declarator x (expression e cs)
  expression (t.binary a w at b) cs = expression a (expression b cs)
  expression (t.conditional c q a colon b) cs = expression c (expression a (expression b cs))
  expression (t.assignment a w at b) cs = expression a (expression b cs)

  pub arguments : Arguments → List Count → List Count
  arguments t.no_arguments cs = cs
  arguments (t.arguments e more) cs = expression e (more_arguments more cs)

  pub more_arguments : MoreArguments → List Count → List Count
  more_arguments t.end_of_arguments cs = cs
  more_arguments (t.more_arguments at e more) cs = expression e (more_arguments more cs)

  pub typed_declarator : TypedDeclarator → List Count → List Count
  typed_declarator (t.typed specs d) cs = specifiers specs (declarator d cs)

  pub declarator : Declarator → List Count → List Count
  declarator (t.named x) cs = cs
  declarator t.unnamed cs = cs
  declarator (t.pointer at consts d) cs = declarator d cs
  declarator (t.grouped l d r) cs = declarator d cs
  declarator (t.open_array d l r) cs = declarator d cs
  declarator (t.array d l e r) cs = declarator d (expression e cs)
  declarator (t.function d l ps r) cs = declarator d (parameters_counted ps (parameters ps cs))

  pub parameters : Parameters → List Count → List Count
  parameters t.no_parameters cs = cs
  parameters (t.void_parameters at) cs = cs
  parameters (t.parameters x more) cs = typed_declarator x (more_parameters more cs)

  pub more_parameters : MoreParameters → List Count → List Count
  more_parameters t.end_of_parameters cs = cs
  more_parameters (t.more_parameters at x more) cs = typed_declarator x (more_parameters more cs)

  pub specifiers : Specifiers → List Count → List Count
  specifiers t.no_specifiers cs = cs
  specifiers (t.specifiers x more) cs = specifier x (specifiers more cs)

  pub specifier : Specifier → List Count → List Count
  specifier (t.keyword w at) cs = cs
  specifier (t.typedef_name x) cs = cs
  specifier (t.structure w at x) cs = cs
  specifier (t.structure_body w at x l ms r) cs = of_members (members_in ms) ∷ members ms cs
  specifier (t.enumeration at x) cs = cs
  specifier (t.enumeration_body at x l e more comma r) cs = enumerator e (more_enumerators more cs)

  pub members : Members → List Count → List Count
  members t.no_members cs = cs
  members (t.members m more) cs = member m (members more cs)

  pub member : Member → List Count → List Count
  member (t.member_declaration specs d more end) cs = specifiers specs (declarator d (more_declarators more cs))

  pub more_declarators : MoreDeclarators → List Count → List Count
  more_declarators t.end_of_declarators cs = cs
  more_declarators (t.more_declarators at d more) cs = declarator d (more_declarators more cs)

  pub enumerator : Enumerator → List Count → List Count
  enumerator (t.plain x) cs = cs
  enumerator (t.valued x at e) cs = expression e cs

  pub more_enumerators : MoreEnumerators → List Count → List Count
  more_enumerators t.end_of_enumerators cs = cs
  more_enumerators (t.more_enumerators at x more) cs = enumerator x (more_enumerators more cs)

-- initializers

abbrev pub designator : Designator → List Count → List Count
designator (t.element l e r) cs = expression e cs
designator (t.member_named at x) cs = cs

abbrev pub designators : List Designator → List Count → List Count
designators [] cs = cs
designators (d ∷ ds) cs = designator d (designators ds cs)

abbrev pub designation : Option Designation → List Count → List Count
designation None cs = cs
designation (Some d) cs = designators d.designators cs

abbrev mutual
  pub initializer : Initializer → List Count → List Count
  initializer (t.value e) cs = expression e cs
  initializer (t.braced l x more comma r) cs = item x (more_items more cs)

  pub item : InitializerItem → List Count → List Count
  item (t.item x i) cs = designation x (initializer i cs)

  pub more_items : MoreItems → List Count → List Count
  more_items t.end_of_items cs = cs
  more_items (t.more_items at x more) cs = item x (more_items more cs)

-- declarations

abbrev pub optional_initializer : Option (Position × Initializer) → List Count → List Count
optional_initializer None cs = cs
optional_initializer (Some x) cs = initializer x.1 cs

abbrev pub init_declarator : s.InitDeclarator → List Count → List Count
init_declarator d cs = declarator d.declarator (optional_initializer d.initializer cs)

abbrev pub more_init_declarators : List (Position × s.InitDeclarator) → List Count → List Count
more_init_declarators [] cs = cs
more_init_declarators (d ∷ ds) cs = init_declarator d.1 (more_init_declarators ds cs)

abbrev pub init_declarators : Option s.InitDeclarators → List Count → List Count
init_declarators None cs = cs
init_declarators (Some ds) cs = init_declarator ds.first (more_init_declarators ds.others cs)

abbrev pub declaration : s.Declaration → List Count → List Count
declaration d cs = specifiers d.specifiers (init_declarators d.declarators cs)

-- statements

abbrev pub optional : Option Expression → List Count → List Count
optional None cs = cs
optional (Some e) cs = expression e cs

abbrev pub for_init : s.ForInit → List Count → List Count
for_init (s.declares d) cs = declaration d cs
for_init (s.evaluates e at) cs = optional e cs

abbrev mutual
  pub statement : s.Statement → List Count → List Count
  statement (s.compound b) cs = block b cs
  statement (s.expression e at) cs = optional e cs
  statement (s.if_then at l e r x) cs = expression e (statement x cs)
  statement (s.if_else at l e r x word other) cs = expression e (statement x (statement other cs))
  statement (s.switch at l e r b) cs = expression e (block b cs)
  statement (s.while_do at l e r x) cs = expression e (statement x cs)
  statement (s.do_while at x word l e r end) cs = statement x (expression e cs)
  statement (s.for at l first condition semicolon step r x) cs =
      for_init first (optional condition (optional step (statement x cs)))
  statement (s.case at e colon x) cs = expression e (statement x cs)
  statement (s.default at colon x) cs = statement x cs
  statement (s.break at end) cs = cs
  statement (s.continue at end) cs = cs
  statement (s.return at e end) cs = optional e cs

  pub block : s.Block → List Count → List Count
  block (s.block l xs r) cs = block_items xs cs

  pub block_items : s.BlockItems → List Count → List Count
  block_items s.no_items cs = cs
  block_items (s.items x more) cs = block_item x (block_items more cs)

  pub block_item : s.BlockItem → List Count → List Count
  block_item (s.local d) cs = declaration d cs
  block_item (s.inner s) cs = statement s cs

-- files

abbrev pub external : s.External → List Count → List Count
external (s.definition specs d b) cs = specifiers specs (declarator d (block b cs))
external (s.declaration d) cs = declaration d cs

abbrev pub externals : List s.External → List Count → List Count
externals [] cs = cs
externals (e ∷ es) cs = external e (externals es cs)

abbrev pub counts_of : List s.External → List Count
counts_of es = externals es []
