-- Initializers, declarations and statements whose expressions, declarators and specifiers are regular.
use Rattle.std.specs.Prelude.{Bool, true, ◌&&◌, List, Option, Some, None, option_map}
use Rattle.std.specs.List.{list_all}
use Rattle.c_syntax.specs.Statements.{Block, BlockItem, BlockItems, Declaration, External, ForInit, InitDeclarator}
use Rattle.c_syntax.specs.Statements.{InitDeclarators, Statement}
use Rattle.c_syntax.specs.Statements as s
use Rattle.c_syntax.specs.Tree.{Designation, Designator, Expression, Initializer, InitializerItem, MoreItems}
use Rattle.c_syntax.specs.Tree as t
use Rattle.typing_laws.specs.Validity.Regular.{are_regular_specifiers, is_regular, is_regular_declarator}

abbrev pub is_regular_designator : Designator → Bool
is_regular_designator (t.element l e r) = is_regular e
is_regular_designator (t.member_named at x) = true

abbrev pub is_regular_designation : Option Designation → Bool
is_regular_designation None = true
is_regular_designation (Some d) = list_all is_regular_designator d.designators

abbrev mutual
  pub is_regular_initializer : Initializer → Bool
  is_regular_initializer (t.value e) = is_regular e
  is_regular_initializer (t.braced l x more comma r) = is_regular_item x && are_regular_items more

  pub is_regular_item : InitializerItem → Bool
  is_regular_item (t.item designation x) = is_regular_designation designation && is_regular_initializer x

  pub are_regular_items : MoreItems → Bool
  are_regular_items t.end_of_items = true
  are_regular_items (t.more_items at x more) = is_regular_item x && are_regular_items more

abbrev pub is_regular_initializer_if : Option Initializer → Bool
is_regular_initializer_if None = true
is_regular_initializer_if (Some x) = is_regular_initializer x

abbrev pub is_regular_if : Option Expression → Bool
is_regular_if None = true
is_regular_if (Some e) = is_regular e

-- a declarator and its initializer, if it has one
abbrev pub is_regular_object : InitDeclarator → (initializer : Option Initializer) → Bool
is_regular_object d initializer = is_regular_declarator d.declarator && is_regular_initializer_if initializer

abbrev pub initializer_of : InitDeclarator → Option Initializer
initializer_of d = option_map (λ x. x.1) d.initializer

abbrev pub are_regular_declarators : Option InitDeclarators → Bool
are_regular_declarators None = true
are_regular_declarators (Some ds) =
    is_regular_object ds.first (initializer_of ds.first)
    && list_all (λ d. is_regular_object d.1 (initializer_of d.1)) ds.others

abbrev pub is_regular_declaration : Declaration → Bool
is_regular_declaration d = are_regular_specifiers d.specifiers && are_regular_declarators d.declarators

abbrev pub is_regular_first : ForInit → Bool
is_regular_first (s.declares d) = is_regular_declaration d
is_regular_first (s.evaluates e at) = is_regular_if e

abbrev mutual
  pub is_regular_statement : Statement → Bool
  is_regular_statement (s.compound b) = is_regular_block b
  is_regular_statement (s.expression e at) = is_regular_if e
  is_regular_statement (s.if_then at l e r x) = is_regular e && is_regular_statement x
  is_regular_statement (s.if_else at l e r x word other) =
      is_regular e && is_regular_statement x && is_regular_statement other
  is_regular_statement (s.switch at l e r b) = is_regular e && is_regular_block b
  is_regular_statement (s.while_do at l e r x) = is_regular e && is_regular_statement x
  is_regular_statement (s.do_while at x word l e r end) = is_regular_statement x && is_regular e
  is_regular_statement (s.for at l first condition semicolon step r x) =
      is_regular_first first && is_regular_if condition && is_regular_if step && is_regular_statement x
  is_regular_statement (s.case at e colon x) = is_regular e && is_regular_statement x
  is_regular_statement (s.default at colon x) = is_regular_statement x
  is_regular_statement (s.break at end) = true
  is_regular_statement (s.continue at end) = true
  is_regular_statement (s.return at e end) = is_regular_if e

  pub is_regular_block : Block → Bool
  is_regular_block (s.block l xs r) = are_regular_block_items xs

  pub are_regular_block_items : BlockItems → Bool
  are_regular_block_items s.no_items = true
  are_regular_block_items (s.items x more) = is_regular_block_item x && are_regular_block_items more

  pub is_regular_block_item : BlockItem → Bool
  is_regular_block_item (s.local d) = is_regular_declaration d
  is_regular_block_item (s.inner x) = is_regular_statement x

abbrev pub is_regular_external : External → Bool
is_regular_external (s.definition specs d b) =
    are_regular_specifiers specs && is_regular_declarator d && is_regular_block b
is_regular_external (s.declaration d) = is_regular_declaration d

abbrev pub are_regular_externals : List External → Bool
are_regular_externals es = list_all is_regular_external es
