-- The words of a tree, and then what follows it.
use Rattle.std.specs.Prelude.{ℕ, suc, List, [], ◌∷◌, Option, Some, None}
use Rattle.c_lexer.specs.declared.keyword.Keyword.{Keyword}
use Rattle.c_lexer.specs.declared.keyword.Keyword.TheVariants as k
use Rattle.c_lexer.specs.declared.punctuator.Punctuator.{Punctuator}
use Rattle.c_lexer.specs.declared.punctuator.Punctuator.TheVariants as p
use Rattle.c_lexer.specs.declared.token.Token.{Token}
use Rattle.c_lexer.specs.declared.token.TokenKind.{TokenKind}
use Rattle.c_lexer.specs.declared.token.TokenKind.TheVariants as kinds
use Rattle.c_syntax.specs.declared.position.Position.{Position}
use Rattle.c_syntax.specs.declared.position.Positioned.{Positioned}
use Rattle.c_syntax.specs.declared.position.Spelled.{Spelled}
use Rattle.c_syntax.specs.Tree.{Expression, Arguments, MoreArguments, TypedDeclarator, Declarator, Parameters}
use Rattle.c_syntax.specs.Tree.{MoreParameters, Specifiers, Specifier, Members, Member, MoreDeclarators, Enumerator}
use Rattle.c_syntax.specs.Tree.{MoreEnumerators, Designator, Designation, Initializer, InitializerItem, MoreItems}
use Rattle.c_syntax.specs.Tree as t
use Rattle.c_syntax.specs.Statements.{InitDeclarator, InitDeclarators, Declaration, ForInit, Statement, Block}
use Rattle.c_syntax.specs.Statements.{BlockItems, BlockItem, External, Unit}
use Rattle.c_syntax.specs.Statements as s

-- words with their positions
abbrev pub Words : Type 0
Words = List Positioned

-- tokens with their positions, the first of which has this number
abbrev pub positioned_from : ℕ → List Token → Words
positioned_from n [] = []
positioned_from n (t ∷ z) = (record { kind = t.kind; position = record { at = n; line = t.line } })
    ∷ positioned_from (suc n) z

-- the words of a text with their positions, numbered from 0
abbrev pub positioned : List Token → Words
positioned tokens = positioned_from 0 tokens

-- a word at a position
abbrev pub word_at : TokenKind → Position → Positioned
word_at w at = record { kind = w; position = at }

-- a keyword
abbrev pub keyword : Keyword → Position → Positioned
keyword w at = word_at (kinds.Keyword w) at

-- a punctuator
abbrev pub punctuator : Punctuator → Position → Positioned
punctuator w at = word_at (kinds.Punctuator w) at

-- an identifier
abbrev pub identifier : Spelled → Positioned
identifier x = word_at (kinds.Identifier x.spelling) x.position

-- an integer constant
abbrev pub integer : Spelled → Positioned
integer x = word_at (kinds.Integer x.spelling) x.position

-- a character constant
abbrev pub character : Spelled → Positioned
character x = word_at (kinds.Character x.spelling) x.position

-- a string literal
abbrev pub string : Spelled → Positioned
string x = word_at (kinds.StringLiteral x.spelling) x.position

-- string literals that stand side by side
abbrev pub strings_words : List Spelled → Words → Words
strings_words [] i = i
strings_words (x ∷ z) i = string x ∷ strings_words z i

-- the words `const` behind a `*`
abbrev pub const_words : List Position → Words → Words
const_words [] i = i
const_words (at ∷ z) i = keyword k.Const at ∷ const_words z i

-- a tag, or none
abbrev pub tag_words : Option Spelled → Words → Words
tag_words None i = i
tag_words (Some x) i = identifier x ∷ i

-- a last comma, or none
abbrev pub comma_words : Option Position → Words → Words
comma_words None i = i
comma_words (Some at) i = punctuator p.Comma at ∷ i

abbrev mutual
  pub expression_words : Expression → Words → Words
  expression_words (t.identifier x) i = identifier x ∷ i
  expression_words (t.integer x) i = integer x ∷ i
  expression_words (t.character x) i = character x ∷ i
  expression_words (t.strings x z) i = string x ∷ strings_words z i
  expression_words (t.parenthesized l e r) i = punctuator p.LeftParenthesis l
      ∷ expression_words e (punctuator p.RightParenthesis r ∷ i)
  expression_words (t.subscript e l x r) i = expression_words e
      (punctuator p.LeftBracket l ∷ expression_words x (punctuator p.RightBracket r ∷ i))
  expression_words (t.call e l a r) i = expression_words e (punctuator p.LeftParenthesis l
      ∷ arguments_words a (punctuator p.RightParenthesis r ∷ i))
  expression_words (t.member e w at x) i = expression_words e (punctuator w at ∷ identifier x ∷ i)
  expression_words (t.postfix e w at) i = expression_words e (punctuator w at ∷ i)
  expression_words (t.unary w at e) i = punctuator w at ∷ expression_words e i
  expression_words (t.sizeof_expression at e) i = keyword k.Sizeof at ∷ expression_words e i
  expression_words (t.sizeof_type at l x r) i = keyword k.Sizeof at ∷ punctuator p.LeftParenthesis l
      ∷ typed_words x (punctuator p.RightParenthesis r ∷ i)
  expression_words (t.cast l x r e) i = punctuator p.LeftParenthesis l
      ∷ typed_words x (punctuator p.RightParenthesis r ∷ expression_words e i)
  expression_words (t.binary a w at b) i = expression_words a (punctuator w at ∷ expression_words b i)
  expression_words (t.conditional c q a colon b) i = expression_words c
      (punctuator p.Question q ∷ expression_words a (punctuator p.Colon colon ∷ expression_words b i))
  expression_words (t.assignment a w at b) i = expression_words a (punctuator w at ∷ expression_words b i)

  pub arguments_words : Arguments → Words → Words
  arguments_words t.no_arguments i = i
  arguments_words (t.arguments e m) i = expression_words e (more_arguments_words m i)

  pub more_arguments_words : MoreArguments → Words → Words
  more_arguments_words t.end_of_arguments i = i
  more_arguments_words (t.more_arguments at e m) i = punctuator p.Comma at
      ∷ expression_words e (more_arguments_words m i)

  pub typed_words : TypedDeclarator → Words → Words
  typed_words (t.typed z d) i = specifiers_words z (declarator_words d i)

  pub declarator_words : Declarator → Words → Words
  declarator_words (t.named x) i = identifier x ∷ i
  declarator_words t.unnamed i = i
  declarator_words (t.pointer at z d) i = punctuator p.Star at ∷ const_words z (declarator_words d i)
  declarator_words (t.grouped l d r) i = punctuator p.LeftParenthesis l
      ∷ declarator_words d (punctuator p.RightParenthesis r ∷ i)
  declarator_words (t.open_array d l r) i = declarator_words d
      (punctuator p.LeftBracket l ∷ punctuator p.RightBracket r ∷ i)
  declarator_words (t.array d l e r) i = declarator_words d (punctuator p.LeftBracket l
      ∷ expression_words e (punctuator p.RightBracket r ∷ i))
  declarator_words (t.function d l a r) i = declarator_words d
      (punctuator p.LeftParenthesis l ∷ parameters_words a (punctuator p.RightParenthesis r ∷ i))

  pub parameters_words : Parameters → Words → Words
  parameters_words t.no_parameters i = i
  parameters_words (t.void_parameters at) i = keyword k.Void at ∷ i
  parameters_words (t.parameters x m) i = typed_words x (more_parameters_words m i)

  pub more_parameters_words : MoreParameters → Words → Words
  more_parameters_words t.end_of_parameters i = i
  more_parameters_words (t.more_parameters at x m) i = punctuator p.Comma at ∷ typed_words x (more_parameters_words m i)

  pub specifiers_words : Specifiers → Words → Words
  specifiers_words t.no_specifiers i = i
  specifiers_words (t.specifiers x z) i = specifier_words x (specifiers_words z i)

  pub specifier_words : Specifier → Words → Words
  specifier_words (t.keyword w at) i = keyword w at ∷ i
  specifier_words (t.typedef_name x) i = identifier x ∷ i
  specifier_words (t.structure w at x) i = keyword w at ∷ identifier x ∷ i
  specifier_words (t.structure_body w at x l m r) i = keyword w at
      ∷ tag_words x (punctuator p.LeftBrace l ∷ members_words m (punctuator p.RightBrace r ∷ i))
  specifier_words (t.enumeration at x) i = keyword k.Enum at ∷ identifier x ∷ i
  specifier_words (t.enumeration_body at x l e m c r) i = keyword k.Enum at
      ∷ tag_words x (punctuator p.LeftBrace l ∷ enumerator_words e
      (more_enumerators_words m (comma_words c (punctuator p.RightBrace r ∷ i))))

  pub members_words : Members → Words → Words
  members_words t.no_members i = i
  members_words (t.members x m) i = member_words x (members_words m i)

  pub member_words : Member → Words → Words
  member_words (t.member_declaration z d m at) i = specifiers_words z
      (declarator_words d (more_declarators_words m (punctuator p.Semicolon at ∷ i)))

  pub more_declarators_words : MoreDeclarators → Words → Words
  more_declarators_words t.end_of_declarators i = i
  more_declarators_words (t.more_declarators at d m) i = punctuator p.Comma at
      ∷ declarator_words d (more_declarators_words m i)

  pub enumerator_words : Enumerator → Words → Words
  enumerator_words (t.plain x) i = identifier x ∷ i
  enumerator_words (t.valued x at e) i = identifier x ∷ punctuator p.Assign at ∷ expression_words e i

  pub more_enumerators_words : MoreEnumerators → Words → Words
  more_enumerators_words t.end_of_enumerators i = i
  more_enumerators_words (t.more_enumerators at e m) i = punctuator p.Comma at
      ∷ enumerator_words e (more_enumerators_words m i)

-- C99 6.7.8
abbrev pub designator_words : Designator → Words → Words
designator_words (t.element l e r) i = punctuator p.LeftBracket l ∷ expression_words e (punctuator p.RightBracket r ∷ i)
designator_words (t.member_named at x) i = punctuator p.Dot at ∷ identifier x ∷ i

-- designators, one behind the other
abbrev pub designators_words : List Designator → Words → Words
designators_words [] i = i
designators_words (x ∷ z) i = designator_words x (designators_words z i)

-- designators and `=`, or nothing
abbrev pub designation_words : Option Designation → Words → Words
designation_words None i = i
designation_words (Some x) i = designators_words x.designators (punctuator p.Assign x.equals ∷ i)

abbrev mutual
  pub initializer_words : Initializer → Words → Words
  initializer_words (t.value e) i = expression_words e i
  initializer_words (t.braced l x m c r) i = punctuator p.LeftBrace l
      ∷ item_words x (more_items_words m (comma_words c (punctuator p.RightBrace r ∷ i)))

  pub item_words : InitializerItem → Words → Words
  item_words (t.item x v) i = designation_words x (initializer_words v i)

  pub more_items_words : MoreItems → Words → Words
  more_items_words t.end_of_items i = i
  more_items_words (t.more_items at x m) i = punctuator p.Comma at ∷ item_words x (more_items_words m i)

-- an initializer behind its `=`, or none
abbrev pub initialized_words : Option (Position × Initializer) → Words → Words
initialized_words None i = i
initialized_words (Some x) i = punctuator p.Assign x.0 ∷ initializer_words x.1 i

-- C99 6.7
abbrev pub init_declarator_words : InitDeclarator → Words → Words
init_declarator_words x i = declarator_words x.declarator (initialized_words x.initializer i)

-- the declarators behind the first
abbrev pub more_init_declarators_words : List (Position × InitDeclarator) → Words → Words
more_init_declarators_words [] i = i
more_init_declarators_words (x ∷ z) i = punctuator p.Comma x.0
    ∷ init_declarator_words x.1 (more_init_declarators_words z i)

-- the declarators of a declaration, or none
abbrev pub init_declarators_words : Option InitDeclarators → Words → Words
init_declarators_words None i = i
init_declarators_words (Some x) i = init_declarator_words x.first (more_init_declarators_words x.others i)

-- C99 6.7
abbrev pub declaration_words : Declaration → Words → Words
declaration_words x i = specifiers_words x.specifiers (init_declarators_words x.declarators
    (punctuator p.Semicolon x.semicolon ∷ i))

-- an expression, or none
abbrev pub optional_words : Option Expression → Words → Words
optional_words None i = i
optional_words (Some e) i = expression_words e i

-- C99 6.8.5.3
abbrev pub for_init_words : ForInit → Words → Words
for_init_words (s.declares d) i = declaration_words d i
for_init_words (s.evaluates e at) i = optional_words e (punctuator p.Semicolon at ∷ i)

abbrev mutual
  pub statement_words : Statement → Words → Words
  statement_words (s.compound b) i = block_words b i
  statement_words (s.expression e at) i = optional_words e (punctuator p.Semicolon at ∷ i)
  statement_words (s.if_then at l e r x) i = keyword k.If at ∷ punctuator p.LeftParenthesis l
      ∷ expression_words e (punctuator p.RightParenthesis r ∷ statement_words x i)
  statement_words (s.if_else at l e r x q y) i = keyword k.If at ∷ punctuator p.LeftParenthesis l
      ∷ expression_words e (punctuator p.RightParenthesis r ∷ statement_words x
      (keyword k.Else q ∷ statement_words y i))
  statement_words (s.switch at l e r b) i = keyword k.Switch at ∷ punctuator p.LeftParenthesis l
      ∷ expression_words e (punctuator p.RightParenthesis r ∷ block_words b i)
  statement_words (s.while_do at l e r x) i = keyword k.While at ∷ punctuator p.LeftParenthesis l
      ∷ expression_words e (punctuator p.RightParenthesis r ∷ statement_words x i)
  statement_words (s.do_while at x q l e r semi) i = keyword k.Do at
      ∷ statement_words x (keyword k.While q ∷ punctuator p.LeftParenthesis l
      ∷ expression_words e (punctuator p.RightParenthesis r ∷ punctuator p.Semicolon semi ∷ i))
  statement_words (s.for at l f c semi e r x) i = keyword k.For at ∷ punctuator p.LeftParenthesis l
      ∷ for_init_words f (optional_words c (punctuator p.Semicolon semi
      ∷ optional_words e (punctuator p.RightParenthesis r ∷ statement_words x i)))
  statement_words (s.case at e colon x) i = keyword k.Case at
      ∷ expression_words e (punctuator p.Colon colon ∷ statement_words x i)
  statement_words (s.default at colon x) i = keyword k.Default at ∷ punctuator p.Colon colon ∷ statement_words x i
  statement_words (s.break at semi) i = keyword k.Break at ∷ punctuator p.Semicolon semi ∷ i
  statement_words (s.continue at semi) i = keyword k.Continue at ∷ punctuator p.Semicolon semi ∷ i
  statement_words (s.return at e semi) i = keyword k.Return at ∷ optional_words e (punctuator p.Semicolon semi ∷ i)

  pub block_words : Block → Words → Words
  block_words (s.block l x r) i = punctuator p.LeftBrace l ∷ items_words x (punctuator p.RightBrace r ∷ i)

  pub items_words : BlockItems → Words → Words
  items_words s.no_items i = i
  items_words (s.items x m) i = block_item_words x (items_words m i)

  pub block_item_words : BlockItem → Words → Words
  block_item_words (s.local d) i = declaration_words d i
  block_item_words (s.inner x) i = statement_words x i

-- C99 6.9
abbrev pub external_words : External → Words → Words
external_words (s.definition z d b) i = specifiers_words z (declarator_words d (block_words b i))
external_words (s.declaration d) i = declaration_words d i

-- one behind the other
abbrev pub externals_words : List External → Words → Words
externals_words [] i = i
externals_words (x ∷ z) i = external_words x (externals_words z i)

-- the words of a file
abbrev pub unit_words : Unit → Words
unit_words u = externals_words u.externals []
