-- Files that are well formed are regular: their structures and unions have members, each with a name.
use Rattle.std.proofs.Common.{◌≡◌, ℕ, Bool, true, ◌&&◌, refl, ap, ◌∙◌, List, [], ◌∷◌, Option, Some, None}
use Rattle.std.specs.Prelude.{not, option_map}
use Rattle.std.specs.List.{list_all}
use Rattle.c_syntax.specs.declared.position.Position.{Position}
use Rattle.c_syntax.specs.Formed as formed
use Rattle.c_syntax.specs.Formed.{AreExternals, IsWellFormed, names_after, names_after_external, has_typedef}
use Rattle.c_syntax.specs.Formed.{is_no_member, has_name}
use Rattle.c_syntax.specs.Statements.{Block, BlockItem, BlockItems, Declaration, External, ForInit, InitDeclarator}
use Rattle.c_syntax.specs.Statements.{InitDeclarators, Statement, Unit as File}
use Rattle.c_syntax.specs.Statements as s
use Rattle.c_syntax.specs.Tree.{Expression, Arguments, MoreArguments, TypedDeclarator, Declarator, Parameters}
use Rattle.c_syntax.specs.Tree.{MoreParameters, Specifiers, Specifier, Members, Member, MoreDeclarators, Enumerator}
use Rattle.c_syntax.specs.Tree.{MoreEnumerators, Designation, Designator, Initializer, InitializerItem, MoreItems}
use Rattle.c_syntax.specs.Tree as t
use Rattle.typing_laws.specs.Validity.Regular.{is_regular, are_regular, more_are_regular, is_regular_name}
use Rattle.typing_laws.specs.Validity.Regular.{is_regular_declarator, are_regular_parameters}
use Rattle.typing_laws.specs.Validity.Regular.{more_are_regular_parameters}
use Rattle.typing_laws.specs.Validity.Regular.{are_regular_specifiers, is_regular_specifier, are_regular_members}
use Rattle.typing_laws.specs.Validity.Regular.{is_regular_member, more_are_regular_declarators, is_regular_enumerator}
use Rattle.typing_laws.specs.Validity.Regular.{more_are_regular_enumerators}
use Rattle.typing_laws.specs.Scopes.Defined.{define_functions, defines}
use Rattle.typing_laws.specs.Scopes.Regular.{is_regular_designator, is_regular_designation}
use Rattle.typing_laws.specs.Scopes.Regular.{is_regular_initializer}
use Rattle.typing_laws.specs.Scopes.Regular.{is_regular_item, are_regular_items, is_regular_initializer_if}
use Rattle.typing_laws.specs.Scopes.Regular.{is_regular_if, is_regular_object, initializer_of}
use Rattle.typing_laws.specs.Scopes.Regular.{are_regular_declarators, is_regular_declaration, is_regular_first}
use Rattle.typing_laws.specs.Scopes.Regular.{is_regular_statement, is_regular_block, are_regular_block_items}
use Rattle.typing_laws.specs.Scopes.Regular.{is_regular_block_item, is_regular_external, are_regular_externals}

both : {a b : Bool} → a ≡ true → b ≡ true → (a && b) ≡ true
both {b = b} e f = ap (λ z. z && b) e ∙ f

module _ (names : List (List ℕ)) where
  mutual
    expression : (e : Expression) → formed.IsExpression names e → is_regular e ≡ true
    expression (t.identifier x) f = refl
    expression (t.integer x) f = refl
    expression (t.character x) f = refl
    expression (t.strings x more) f = refl
    expression (t.parenthesized l e r) f = expression e f
    expression (t.subscript a l b r) f = both (expression a f.1) (expression b f.2)
    expression (t.call e l args r) f = both (expression e f.1) (arguments args f.2)
    expression (t.member e w at x) f = expression e f.2
    expression (t.postfix e w at) f = expression e f.2
    expression (t.unary w at e) f = expression e f.2
    expression (t.sizeof_expression at e) f = expression e f.1
    expression (t.sizeof_type at l x r) f = type_name x f
    expression (t.cast l x r e) f = both (type_name x f.1) (expression e f.2)
    expression (t.binary a w at b) f = both (expression a f.3) (expression b f.4)
    expression (t.conditional c q a colon b) f =
        both (both (expression c f.2) (expression a f.3)) (expression b f.4)
    expression (t.assignment a w at b) f = both (expression a f.3) (expression b f.4)

    arguments : (args : Arguments) → formed.AreArguments names args → are_regular args ≡ true
    arguments t.no_arguments f = refl
    arguments (t.arguments e more) f = both (expression e f.1) (more_arguments more f.2)

    more_arguments : (more : MoreArguments) → formed.AreMoreArguments names more → more_are_regular more ≡ true
    more_arguments t.end_of_arguments f = refl
    more_arguments (t.more_arguments at e more) f = both (expression e f.1) (more_arguments more f.2)

    type_name : (x : TypedDeclarator) → formed.IsTypeName names x → is_regular_name x ≡ true
    type_name (t.typed z d) f = both (specifiers z f.1) (declarator d f.3)

    parameter : (x : TypedDeclarator) → formed.IsParameter names x → is_regular_name x ≡ true
    parameter (t.typed z d) f = both (specifiers z f.1) (declarator d f.3)

    declarator : (d : Declarator) → formed.IsDeclarator names d → is_regular_declarator d ≡ true
    declarator (t.named x) f = refl
    declarator t.unnamed f = refl
    declarator (t.pointer at consts d) f = declarator d f
    declarator (t.grouped l d r) f = declarator d f.1
    declarator (t.open_array d l r) f = declarator d f.1
    declarator (t.array d l e r) f = both (declarator d f.2) (expression e f.3)
    declarator (t.function d l ps r) f = both (declarator d f.1) (parameters ps f.2)

    parameters : (ps : Parameters) → formed.AreParameters names ps → are_regular_parameters ps ≡ true
    parameters t.no_parameters f = refl
    parameters (t.void_parameters at) f = refl
    parameters (t.parameters x more) f = both (parameter x f.1) (more_parameters more f.2)

    more_parameters : (more : MoreParameters) → formed.AreMoreParameters names more
        → more_are_regular_parameters more ≡ true
    more_parameters t.end_of_parameters f = refl
    more_parameters (t.more_parameters at x more) f = both (parameter x f.0) (more_parameters more f.1)

    specifiers : (z : Specifiers) → formed.EachSpecifier names z → are_regular_specifiers z ≡ true
    specifiers t.no_specifiers f = refl
    specifiers (t.specifiers x more) f = both (specifier x f.0) (specifiers more f.1)

    specifier : (x : Specifier) → formed.IsSpecifier names x → is_regular_specifier x ≡ true
    specifier (t.keyword w at) f = refl
    specifier (t.typedef_name x) f = refl
    specifier (t.structure w at x) f = refl
    specifier (t.structure_body w at x l ms r) f = both (ap not f.0) (members ms f.1)
    specifier (t.enumeration at x) f = refl
    specifier (t.enumeration_body at x l e more comma r) f = both (enumerator e f.0) (more_enumerators more f.1)

    members : (ms : Members) → formed.AreMembers names ms → are_regular_members ms ≡ true
    members t.no_members f = refl
    members (t.members m more) f = both (member m f.0) (members more f.1)

    member : (m : Member) → formed.IsMember names m → is_regular_member m ≡ true
    member (t.member_declaration z d more at) f =
        both (both (both (specifiers z f.1) f.3) (declarator d f.4)) (more_declarators more f.5)

    more_declarators : (more : MoreDeclarators) → formed.AreMoreDeclarators names more
        → more_are_regular_declarators more ≡ true
    more_declarators t.end_of_declarators f = refl
    more_declarators (t.more_declarators at d more) f =
        both (both f.0 (declarator d f.1)) (more_declarators more f.2)

    enumerator : (e : Enumerator) → formed.IsEnumerator names e → is_regular_enumerator e ≡ true
    enumerator (t.plain x) f = refl
    enumerator (t.valued x at e) f = expression e f.2

    more_enumerators : (more : MoreEnumerators) → formed.AreMoreEnumerators names more
        → more_are_regular_enumerators more ≡ true
    more_enumerators t.end_of_enumerators f = refl
    more_enumerators (t.more_enumerators at e more) f = both (enumerator e f.0) (more_enumerators more f.1)

  -- initializers

  designators : (ds : List Designator) → formed.AreDesignators names ds → list_all is_regular_designator ds ≡ true
  designators [] f = refl
  designators (t.element l e r ∷ ds) f = both (expression e f.1) (designators ds f.2)
  designators (t.member_named at x ∷ ds) f = designators ds f

  designation : (d : Option Designation) → formed.IsDesignation names d → is_regular_designation d ≡ true
  designation None f = refl
  designation (Some d) f = designators d.designators f.1

  mutual
    initializer : (x : Initializer) → formed.IsInitializer names x → is_regular_initializer x ≡ true
    initializer (t.value e) f = expression e f.1
    initializer (t.braced l x more comma r) f = both (item x f.0) (items more f.1)

    item : (x : InitializerItem) → formed.IsItem names x → is_regular_item x ≡ true
    item (t.item d x) f = both (designation d f.0) (initializer x f.1)

    items : (more : MoreItems) → formed.AreMoreItems names more → are_regular_items more ≡ true
    items t.end_of_items f = refl
    items (t.more_items at x more) f = both (item x f.0) (items more f.1)

module _ (levels : ℕ) where
  optional : (names : List (List ℕ)) (e : Option Expression) → formed.IsOptional levels names e
      → is_regular_if e ≡ true
  optional names None f = refl
  optional names (Some e) f = expression names e f.1

  initialized : (names : List (List ℕ)) (x : Option (Position × Initializer)) → formed.IsInitialized levels names x
      → is_regular_initializer_if (option_map (λ y. y.1) x) ≡ true
  initialized names None f = refl
  initialized names (Some x) f = initializer names x.1 f.1

  object : (is_typedef : Bool) (names : List (List ℕ)) (d : InitDeclarator)
      → formed.IsInitDeclarator levels is_typedef names d → is_regular_object d (initializer_of d) ≡ true
  object is_typedef names d f =
      both (declarator names d.declarator f.0.1.1)
      (initialized (names_after is_typedef d.declarator names) d.initializer f.1)

  others : (is_typedef : Bool) (names : List (List ℕ)) (ds : List (Position × InitDeclarator))
      → formed.AreMoreInitDeclarators levels is_typedef names ds
      → list_all (λ d. is_regular_object d.1 (initializer_of d.1)) ds ≡ true
  others is_typedef names [] f = refl
  others is_typedef names (d ∷ ds) f =
      both (object is_typedef names d.1 f.0) (others is_typedef (names_after is_typedef d.1.declarator names) ds f.1)

  objects : (is_typedef : Bool) (names : List (List ℕ)) (ds : Option InitDeclarators)
      → formed.AreInitDeclarators levels is_typedef names ds → are_regular_declarators ds ≡ true
  objects is_typedef names None f = refl
  objects is_typedef names (Some ds) f =
      both (object is_typedef names ds.first f.0)
      (others is_typedef (names_after is_typedef ds.first.declarator names) ds.others f.1)

  declaration : (names : List (List ℕ)) (d : Declaration) → formed.IsDeclaration levels names d
      → is_regular_declaration d ≡ true
  declaration names d f =
      both (specifiers names d.specifiers f.0.1.1) (objects (has_typedef d.specifiers) names d.declarators f.1)

  first : (names : List (List ℕ)) (x : ForInit) → formed.IsForInit levels names x → is_regular_first x ≡ true
  first names (s.declares d) f = declaration names d f.1
  first names (s.evaluates e at) f = optional names e f

  module _ (names : List (List ℕ)) where
    mutual
      statement : (x : Statement) → formed.IsStatement levels names x → is_regular_statement x ≡ true
      statement (s.compound b) f = block b f
      statement (s.expression e at) f = optional names e f
      statement (s.if_then at l e r x) f = both (expression names e f.0.1) (statement x f.1)
      statement (s.if_else at l e r x word other) f =
          both (both (expression names e f.1.1) (statement x f.2)) (statement other f.3)
      statement (s.switch at l e r b) f = both (expression names e f.0.1) (block b f.1)
      statement (s.while_do at l e r x) f = both (expression names e f.0.1) (statement x f.1)
      statement (s.do_while at x word l e r end) f = both (statement x f.0) (expression names e f.1.1)
      statement (s.for at l x condition semicolon step r body) f =
          both (both (both (first names x f.0) (optional names condition f.1)) (optional names step f.2))
          (statement body f.3)
      statement (s.case at e colon x) f = both (expression names e f.1.1) (statement x f.2)
      statement (s.default at colon x) f = statement x f
      statement (s.break at end) f = refl
      statement (s.continue at end) f = refl
      statement (s.return at e end) f = optional names e f

      block : (b : Block) → formed.IsBlock levels names b → is_regular_block b ≡ true
      block (s.block l xs r) f = block_items xs f

      block_items : (xs : BlockItems) → formed.AreItems levels names xs → are_regular_block_items xs ≡ true
      block_items s.no_items f = refl
      block_items (s.items x more) f = both (block_item x f.0) (block_items more f.1)

      block_item : (x : BlockItem) → formed.IsBlockItem levels names x → is_regular_block_item x ≡ true
      block_item (s.local d) f = declaration names d f.1
      block_item (s.inner x) f = statement x f

  external : (names : List (List ℕ)) (x : External) → formed.IsExternal levels names x → is_regular_external x ≡ true
  external names (s.declaration d) f = declaration names d f
  external names (s.definition z d b) f =
      both (both (specifiers names z f.0.1.1) (declarator names d f.1.1.1))
      (block (names_after (has_typedef z) d names) b f.4)

  externals : (names : List (List ℕ)) (es : List External) → AreExternals levels names es
      → are_regular_externals es ≡ true
  externals names [] f = refl
  externals names (x ∷ es) f = both (external names x f.0) (externals (names_after_external x names) es f.1)

  external_defines : (names : List (List ℕ)) (x : External) → formed.IsExternal levels names x → defines x ≡ true
  external_defines names (s.declaration d) f = refl
  external_defines names (s.definition z d b) f = f.2

  externals_define : (names : List (List ℕ)) (es : List External) → AreExternals levels names es
      → define_functions es ≡ true
  externals_define names [] f = refl
  externals_define names (x ∷ es) f =
      both (external_defines names x f.0) (externals_define (names_after_external x names) es f.1)

pub well_formed_regular : (u : File) → IsWellFormed u → are_regular_externals u.externals ≡ true
well_formed_regular u f = externals 200 _ u.externals f.1

pub well_formed_defines : (u : File) → IsWellFormed u → define_functions u.externals ≡ true
well_formed_defines u f = externals_define 200 _ u.externals f.1
