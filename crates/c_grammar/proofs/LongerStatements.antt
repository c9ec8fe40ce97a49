-- The words of initializers, declarations, statements and files go before what follows them.
use Rattle.std.proofs.Common.{suc, ◌≤◌, List, [], ◌∷◌, length, Option, Some, None, arith}
use Rattle.c_lexer.specs.declared.keyword.Keyword.TheVariants as k
use Rattle.c_lexer.specs.declared.punctuator.Punctuator.TheVariants as p
use Rattle.c_syntax.specs.declared.position.Position.{Position}
use Rattle.c_syntax.specs.Tree.{Expression, Designator, Designation, Initializer, InitializerItem, MoreItems}
use Rattle.c_syntax.specs.Tree as t
use Rattle.c_syntax.specs.Statements.{InitDeclarator, InitDeclarators, Declaration, ForInit, Statement, Block}
use Rattle.c_syntax.specs.Statements.{BlockItems, BlockItem, External}
use Rattle.c_syntax.specs.Statements as s
use Rattle.c_syntax.specs.Words.{Words, keyword, punctuator, comma_words, expression_words, declarator_words}
use Rattle.c_syntax.specs.Words.{designator_words, designators_words, designation_words, initializer_words, item_words}
use Rattle.c_syntax.specs.Words.{more_items_words, initialized_words, init_declarator_words}
use Rattle.c_syntax.specs.Words.{more_init_declarators_words, init_declarators_words, declaration_words, optional_words}
use Rattle.c_syntax.specs.Words.{for_init_words, statement_words, block_words, items_words, block_item_words}
use Rattle.c_syntax.specs.Words.{external_words}
use Rattle.c_grammar.proofs.Longer.{comma_longer, expression_longer, declarator_longer, specifiers_longer}

-- ---- initializers

pub designator_longer : (x : Designator) (i : Words) → suc (length i) ≤ length (designator_words x i)
designator_longer (t.element l e r) i = omega (arith, expression_longer e (punctuator p.RightBracket r ∷ i))
designator_longer (t.member_named at x) i = omega arith

pub designators_longer : (z : List Designator) (i : Words) → length i ≤ length (designators_words z i)
designators_longer [] i = omega arith
designators_longer (x ∷ z) i = omega (arith, designator_longer x (designators_words z i), designators_longer z i)

pub designation_longer : (x : Option Designation) (i : Words) → length i ≤ length (designation_words x i)
designation_longer None i = omega arith
designation_longer (Some x) i = omega (arith, designators_longer x.designators (punctuator p.Assign x.equals ∷ i))

mutual
  pub initializer_longer : (v : Initializer) (i : Words) → length i ≤ length (initializer_words v i)
  initializer_longer (t.value e) i = omega (arith, expression_longer e i)
  initializer_longer (t.braced l x m c r) i =
      omega (
        arith,
        item_longer x (more_items_words m (comma_words c (punctuator p.RightBrace r ∷ i))),
        more_items_longer m (comma_words c (punctuator p.RightBrace r ∷ i)),
        comma_longer c (punctuator p.RightBrace r ∷ i),
      )

  pub item_longer : (x : InitializerItem) (i : Words) → length i ≤ length (item_words x i)
  item_longer (t.item x v) i = omega (arith, designation_longer x (initializer_words v i), initializer_longer v i)

  pub more_items_longer : (m : MoreItems) (i : Words) → length i ≤ length (more_items_words m i)
  more_items_longer t.end_of_items i = omega arith
  more_items_longer (t.more_items at x m) i = omega (arith, item_longer x (more_items_words m i), more_items_longer m i)

-- ---- declarations

pub initialized_longer : (v : Option (Position × Initializer)) (i : Words) → length i ≤ length (initialized_words v i)
initialized_longer None i = omega arith
initialized_longer (Some v) i = omega (arith, initializer_longer v.1 i)

pub init_declarator_longer : (x : InitDeclarator) (i : Words) → length i ≤ length (init_declarator_words x i)
init_declarator_longer x i = omega (
  arith,
  declarator_longer x.declarator (initialized_words x.initializer i),
  initialized_longer x.initializer i,
)

pub more_init_declarators_longer : (z : List (Position × InitDeclarator)) (i : Words)
    → length i ≤ length (more_init_declarators_words z i)
more_init_declarators_longer [] i = omega arith
more_init_declarators_longer (x ∷ z) i = omega (
  arith,
  init_declarator_longer x.1 (more_init_declarators_words z i),
  more_init_declarators_longer z i,
)

pub init_declarators_longer : (x : Option InitDeclarators) (i : Words) → length i ≤ length (init_declarators_words x i)
init_declarators_longer None i = omega arith
init_declarators_longer (Some x) i = omega (
  arith,
  init_declarator_longer x.first
      (more_init_declarators_words x.others i),
  more_init_declarators_longer x.others i,
)

pub declaration_longer : (x : Declaration) (i : Words) → suc (length i) ≤ length (declaration_words x i)
declaration_longer x i =
    let behind : Words = punctuator p.Semicolon x.semicolon ∷ i in
    omega (
      arith,
      specifiers_longer x.specifiers (init_declarators_words x.declarators behind),
      init_declarators_longer x.declarators behind,
    )

-- ---- statements

pub optional_longer : (e : Option Expression) (i : Words) → length i ≤ length (optional_words e i)
optional_longer None i = omega arith
optional_longer (Some e) i = omega (arith, expression_longer e i)

pub for_init_longer : (f : ForInit) (i : Words) → length i ≤ length (for_init_words f i)
for_init_longer (s.declares d) i = omega (arith, declaration_longer d i)
for_init_longer (s.evaluates e at) i = omega (arith, optional_longer e (punctuator p.Semicolon at ∷ i))

mutual
  pub statement_longer : (x : Statement) (i : Words) → suc (length i) ≤ length (statement_words x i)
  statement_longer (s.compound b) i = block_longer b i
  statement_longer (s.expression e at) i = omega (arith, optional_longer e (punctuator p.Semicolon at ∷ i))
  statement_longer (s.if_then at l e r x) i =
      omega (arith, expression_longer e (punctuator p.RightParenthesis r ∷ statement_words x i), statement_longer x i)
  statement_longer (s.if_else at l e r x q y) i =
      omega (
        arith,
        expression_longer e (punctuator p.RightParenthesis r
            ∷ statement_words x (keyword k.Else q ∷ statement_words y i)),
        statement_longer x (keyword k.Else q ∷ statement_words y i),
        statement_longer y i,
      )
  statement_longer (s.switch at l e r b) i =
      omega (arith, expression_longer e (punctuator p.RightParenthesis r ∷ block_words b i), block_longer b i)
  statement_longer (s.while_do at l e r x) i =
      omega (arith, expression_longer e (punctuator p.RightParenthesis r ∷ statement_words x i), statement_longer x i)
  statement_longer (s.do_while at x q l e r semi) i =
      let behind : Words = punctuator p.RightParenthesis r ∷ punctuator p.Semicolon semi ∷ i in
      omega (
        arith,
        statement_longer x (keyword k.While q ∷ punctuator p.LeftParenthesis l ∷ expression_words e behind),
        expression_longer e behind,
      )
  statement_longer (s.for at l f c semi e r x) i =
      let step : Words = punctuator p.RightParenthesis r ∷ statement_words x i in
      let condition : Words = punctuator p.Semicolon semi ∷ optional_words e step in
      omega (
        arith,
        for_init_longer f (optional_words c condition),
        optional_longer c condition,
        optional_longer e step,
        statement_longer x i,
      )
  statement_longer (s.case at e colon x) i =
      omega (arith, expression_longer e (punctuator p.Colon colon ∷ statement_words x i), statement_longer x i)
  statement_longer (s.default at colon x) i = omega (arith, statement_longer x i)
  statement_longer (s.break at semi) i = omega arith
  statement_longer (s.continue at semi) i = omega arith
  statement_longer (s.return at e semi) i = omega (arith, optional_longer e (punctuator p.Semicolon semi ∷ i))

  pub block_longer : (b : Block) (i : Words) → suc (length i) ≤ length (block_words b i)
  block_longer (s.block l x r) i = omega (arith, items_longer x (punctuator p.RightBrace r ∷ i))

  pub items_longer : (x : BlockItems) (i : Words) → length i ≤ length (items_words x i)
  items_longer s.no_items i = omega arith
  items_longer (s.items x m) i = omega (arith, block_item_longer x (items_words m i), items_longer m i)

  pub block_item_longer : (x : BlockItem) (i : Words) → suc (length i) ≤ length (block_item_words x i)
  block_item_longer (s.local d) i = declaration_longer d i
  block_item_longer (s.inner x) i = statement_longer x i

-- ---- files

pub external_longer : (x : External) (i : Words) → suc (length i) ≤ length (external_words x i)
external_longer (s.definition z d b) i = omega (
  arith,
  specifiers_longer z (declarator_words d (block_words b i)),
  declarator_longer d (block_words b i),
  block_longer b i,
)
external_longer (s.declaration x) i = declaration_longer x i
