-- Which trees are well formed: the shapes of the grammar (C99 6.5 to 6.9), precedence, the nearest else, and typedef
-- names. Left out: floating types, `_Bool`, `_Complex`, `volatile`, `restrict`, bit-fields, `[static 3]`, `[*]` and
-- `...` in declarators, identifier lists (6.9.1), `goto` and its labels, compound literals, typedefs inside blocks.
use Rattle.std.specs.Prelude.{◌≡◌, ℕ, ◌≤◌, ◌<◌, Bool, true, false, ◌&&◌, ◌||◌, not, if◌then◌else◌, List, [], ◌∷◌, ◌++◌}
use Rattle.std.specs.Prelude.{Option, Some, None, is_some, bytes_eq, ⊤}
use Rattle.std.specs.List.{list_any}
use Rattle.c_lexer.specs.declared.keyword.Keyword.{Keyword}
use Rattle.c_lexer.specs.declared.keyword.Keyword.TheVariants as k
use Rattle.c_lexer.specs.declared.punctuator.Punctuator.{Punctuator}
use Rattle.c_lexer.specs.declared.punctuator.Punctuator.TheVariants as p
use Rattle.c_syntax.specs.declared.position.Position.{Position}
use Rattle.c_syntax.specs.declared.specifiers.TypeSize.{TypeSize}
use Rattle.c_syntax.specs.declared.specifiers.TypeSize.TheVariants as size
use Rattle.c_syntax.specs.declared.specifiers.TypeWords.{TypeWords}
use Rattle.c_syntax.specs.Tree.{Expression, Arguments, MoreArguments, TypedDeclarator, Declarator, Parameters}
use Rattle.c_syntax.specs.Tree.{MoreParameters, Specifiers, Specifier, Members, Member, MoreDeclarators, Enumerator}
use Rattle.c_syntax.specs.Tree.{MoreEnumerators, Designator, Designation, Initializer, InitializerItem, MoreItems}
use Rattle.c_syntax.specs.Tree as t
use Rattle.c_syntax.specs.Statements.{InitDeclarator, InitDeclarators, Declaration, ForInit, Statement, Block}
use Rattle.c_syntax.specs.Statements.{BlockItems, BlockItem, External, Unit}
use Rattle.c_syntax.specs.Statements as s
use Rattle.c_syntax.specs.Levels.{expression_levels, declarator_levels, specifiers_levels, initializer_levels}
use Rattle.c_syntax.specs.Levels.{block_levels}

-- Binding powers, by the section of C99 that has the operators: 1 the comma (6.5.17), 2 assignment (6.5.16), 3 the
-- conditional operator (6.5.15), 4 `||` (6.5.14), 5 `&&` (6.5.13), 6 `|` (6.5.12), 7 `^` (6.5.11), 8 `&` (6.5.10), 9
-- `==` and `!=` (6.5.9), 10 `<`, `>`, `<=` and `>=` (6.5.8), 11 shifts (6.5.7), 12 `+` and `-` (6.5.6), 13 `*`, `/` and
-- `%` (6.5.5), 14 casts (6.5.4), 15 unary operators (6.5.3), 16 postfix operators (6.5.2), 17 primary expressions
-- (6.5.1). An operand's least binding power in a rule is the number of the grammar's symbol that stands there.

-- how tightly an operator between two operands binds; 0: it is none (C99 6.5.5 to 6.5.14, 6.5.17)
unfoldable pub binary_precedence : Punctuator → ℕ
binary_precedence p.Comma = 1
binary_precedence p.Or = 4
binary_precedence p.And = 5
binary_precedence p.Bar = 6
binary_precedence p.Caret = 7
binary_precedence p.Ampersand = 8
binary_precedence p.Equal = 9
binary_precedence p.NotEqual = 9
binary_precedence p.Less = 10
binary_precedence p.Greater = 10
binary_precedence p.LessOrEqual = 10
binary_precedence p.GreaterOrEqual = 10
binary_precedence p.ShiftLeft = 11
binary_precedence p.ShiftRight = 11
binary_precedence p.Plus = 12
binary_precedence p.Minus = 12
binary_precedence p.Star = 13
binary_precedence p.Slash = 13
binary_precedence p.Percent = 13
binary_precedence _ = 0

-- the least precedence of the operand behind an operator; 0: it stands before none (C99 6.5.3)
unfoldable pub operand_precedence : Punctuator → ℕ
operand_precedence p.Increment = 15
operand_precedence p.Decrement = 15
operand_precedence p.Ampersand = 14
operand_precedence p.Star = 14
operand_precedence p.Plus = 14
operand_precedence p.Minus = 14
operand_precedence p.Tilde = 14
operand_precedence p.Exclamation = 14
operand_precedence _ = 0

-- C99 6.5.16
unfoldable pub is_assignment : Punctuator → Bool
is_assignment p.Assign = true
is_assignment p.MultiplyAssign = true
is_assignment p.DivideAssign = true
is_assignment p.RemainderAssign = true
is_assignment p.AddAssign = true
is_assignment p.SubtractAssign = true
is_assignment p.ShiftLeftAssign = true
is_assignment p.ShiftRightAssign = true
is_assignment p.AndAssign = true
is_assignment p.XorAssign = true
is_assignment p.OrAssign = true
is_assignment _ = false

-- C99 6.5.2.3
unfoldable pub is_member_operator : Punctuator → Bool
is_member_operator p.Dot = true
is_member_operator p.Arrow = true
is_member_operator _ = false

-- C99 6.5.2.4
unfoldable pub is_postfix_operator : Punctuator → Bool
is_postfix_operator p.Increment = true
is_postfix_operator p.Decrement = true
is_postfix_operator _ = false

-- the binding power of the outermost operator of an expression (C99 6.5.1 to 6.5.17)
abbrev pub precedence : Expression → ℕ
precedence (t.binary a w at b) = binary_precedence w
precedence (t.assignment a w at b) = 2
precedence (t.conditional c q a colon b) = 3
precedence (t.cast l x r e) = 14
precedence (t.unary w at e) = 15
precedence (t.sizeof_expression at e) = 15
precedence (t.sizeof_type at l x r) = 15
precedence (t.subscript e l x r) = 16
precedence (t.call e l a r) = 16
precedence (t.member e w at x) = 16
precedence (t.postfix e w at) = 16
precedence (t.identifier x) = 17
precedence (t.integer x) = 17
precedence (t.character x) = 17
precedence (t.strings x z) = 17
precedence (t.parenthesized l e r) = 17

-- a spelling is among the typedef names
unfoldable pub is_among : List ℕ → List (List ℕ) → Bool
is_among x names = list_any (λ y. bytes_eq y x) names

-- no word of a type has come
abbrev pub no_type : TypeWords
no_type = record { has_sign = false; has_int = false; size = size.Absent }

-- no word has given the size
abbrev pub is_absent : TypeSize → Bool
is_absent size.Absent = true
is_absent _ = false

-- `int` may stand beside it (C99 6.7.2)
abbrev pub is_integer_size : TypeSize → Bool
is_integer_size size.Char = false
is_integer_size size.Other = false
is_integer_size _ = true

-- `void`, a structure, union, enumeration or typedef name has come
abbrev pub is_other : TypeSize → Bool
is_other size.Other = true
is_other _ = false

-- the words of a type with one more; None: no type has these words (C99 6.7.2)
abbrev pub with_sign : TypeWords → Option TypeWords
with_sign w = if w.has_sign || is_other w.size then None else Some (record w { has_sign = true })

-- with `int`
abbrev pub with_int : TypeWords → Option TypeWords
with_int w = if w.has_int || not (is_integer_size w.size) then None else Some (record w { has_int = true })

-- with `char`
abbrev pub with_char : TypeWords → Option TypeWords
with_char w = if not w.has_int && is_absent w.size then Some (record w { size = size.Char }) else None

-- with `short`
abbrev pub with_short : TypeWords → Option TypeWords
with_short w = if is_absent w.size then Some (record w { size = size.Short }) else None

-- what `long` makes of a size
abbrev pub longer : TypeSize → Option TypeSize
longer size.Absent = Some size.Long
longer size.Long = Some size.LongLong
longer _ = None

-- the words with this size, if there is one
abbrev pub of_size : TypeWords → Option TypeSize → Option TypeWords
of_size w None = None
of_size w (Some s) = Some (record w { size = s })

-- with a word that is a type by itself
abbrev pub with_other : TypeWords → Option TypeWords
with_other w = if not w.has_sign && (not w.has_int && is_absent w.size) then Some (record w { size = size.Other }) else
    None

-- a storage class, function specifier or qualifier (6.7.1, 6.7.3, 6.7.4) is no word of the type
unfoldable pub with_keyword : Keyword → TypeWords → Option TypeWords
with_keyword k.Typedef w = Some w
with_keyword k.Extern w = Some w
with_keyword k.Static w = Some w
with_keyword k.Auto w = Some w
with_keyword k.Register w = Some w
with_keyword k.Inline w = Some w
with_keyword k.Const w = Some w
with_keyword k.Void w = with_other w
with_keyword k.Char w = with_char w
with_keyword k.Short w = with_short w
with_keyword k.Int w = with_int w
with_keyword k.Long w = of_size w (longer w.size)
with_keyword k.Signed w = with_sign w
with_keyword k.Unsigned w = with_sign w
with_keyword _ w = None

-- C99 6.7.2.1
abbrev pub is_structure_keyword : Keyword → Bool
is_structure_keyword k.Struct = true
is_structure_keyword k.Union = true
is_structure_keyword _ = false

-- with `struct` or `union` and what belongs to it
abbrev pub with_structure : Keyword → TypeWords → Option TypeWords
with_structure x w = if is_structure_keyword x then with_other w else None

-- with a specifier; None: no specifiers of one type have it (C99 6.7.2)
unfoldable pub with_specifier : Specifier → TypeWords → Option TypeWords
with_specifier (t.keyword x at) w = with_keyword x w
with_specifier (t.typedef_name x) w = with_other w
with_specifier (t.structure x at tag) w = with_structure x w
with_specifier (t.structure_body x at tag l m r) w = with_structure x w
with_specifier (t.enumeration at tag) w = with_other w
with_specifier (t.enumeration_body at tag l e m c r) w = with_other w

-- the words that have come are a type
abbrev pub is_type : TypeWords → Bool
is_type w = w.has_sign || (w.has_int || not (is_absent w.size))

-- the same, where the words so far may be no type's
abbrev pub and_specifier : Specifier → Option TypeWords → Option TypeWords
and_specifier x None = None
and_specifier x (Some w) = with_specifier x w

-- the words that have come are those of a type
abbrev pub is_some_type : Option TypeWords → Bool
is_some_type None = false
is_some_type (Some w) = is_type w

-- the specifiers behind some words of a type complete them to one
abbrev pub names_type : Option TypeWords → Specifiers → Bool
names_type w t.no_specifiers = is_some_type w
names_type w (t.specifiers x z) = names_type (and_specifier x w) z

-- they have the words of one type, and no other type words
abbrev pub names_one_type : Specifiers → Bool
names_one_type z = names_type (Some no_type) z

-- C99 6.7.1
abbrev pub is_typedef : Specifier → Bool
is_typedef (t.keyword k.Typedef at) = true
is_typedef _ = false

-- the word `typedef` is among them
abbrev pub has_typedef : Specifiers → Bool
has_typedef t.no_specifiers = false
has_typedef (t.specifiers x z) = is_typedef x || has_typedef z

-- the name of a declarator; None: it is abstract
abbrev pub declared : Declarator → Option (List ℕ)
declared (t.named x) = Some x.spelling
declared t.unnamed = None
declared (t.pointer at z d) = declared d
declared (t.grouped l d r) = declared d
declared (t.open_array d l r) = declared d
declared (t.array d l e r) = declared d
declared (t.function d l a r) = declared d

-- it is not abstract (C99 6.7.5, 6.7.6)
abbrev pub has_name : Declarator → Bool
has_name d = is_some (declared d)

-- nothing is left of it (C99 6.7.6)
abbrev pub is_unnamed : Declarator → Bool
is_unnamed t.unnamed = true
is_unnamed _ = false

-- not a pointer, so that `[..]` or `(..)` may stand behind it (C99 6.7.5)
abbrev pub is_direct : Declarator → Bool
is_direct (t.pointer at z d) = false
is_direct _ = true

-- the word `void` and no declarator
abbrev pub is_void : TypedDeclarator → Bool
is_void (t.typed (t.specifiers (t.keyword k.Void at) t.no_specifiers) t.unnamed) = true
is_void _ = false

-- the only parameter, and `void`: this is the empty list, and no parameter (C99 6.7.5.3)
abbrev pub is_lone_void : TypedDeclarator → MoreParameters → Bool
is_lone_void x t.end_of_parameters = is_void x
is_lone_void x _ = false

-- C99 6.7.2.1 asks for one
abbrev pub is_no_member : Members → Bool
is_no_member t.no_members = true
is_no_member _ = false

-- a list of nothing
abbrev pub is_empty : {A : Type 0} → List A → Bool
is_empty [] = true
is_empty (x ∷ z) = false

-- the names that are typedef names here
module _ (names : List (List ℕ)) where
  abbrev mutual
    -- C99 6.5.1 to 6.5.17
    pub IsExpression : Expression → Type 0
    IsExpression (t.identifier x) = is_among x.spelling names ≡ false
    IsExpression (t.integer x) = ⊤
    IsExpression (t.character x) = ⊤
    IsExpression (t.strings x z) = ⊤
    IsExpression (t.parenthesized l e r) = IsExpression e
    IsExpression (t.subscript e l x r) = (16 ≤ precedence e) × IsExpression e × IsExpression x
    IsExpression (t.call e l a r) = (16 ≤ precedence e) × IsExpression e × AreArguments a
    IsExpression (t.member e w at x) = (is_member_operator w ≡ true) × (16 ≤ precedence e) × IsExpression e
    IsExpression (t.postfix e w at) = (is_postfix_operator w ≡ true) × (16 ≤ precedence e) × IsExpression e
    IsExpression (t.unary w at e) = (1 ≤ operand_precedence w) × (operand_precedence w ≤ precedence e) × IsExpression e
    IsExpression (t.sizeof_expression at e) = (15 ≤ precedence e) × IsExpression e
    IsExpression (t.sizeof_type at l x r) = IsTypeName x
    IsExpression (t.cast l x r e) = (14 ≤ precedence e) × IsTypeName x × IsExpression e
    IsExpression (t.binary a w at b) = (1 ≤ binary_precedence w) × (binary_precedence w ≤ precedence a)
        × (binary_precedence w < precedence b) × IsExpression a × IsExpression b
    IsExpression (t.conditional c q a colon b) = (4 ≤ precedence c) × (3 ≤ precedence b) × IsExpression c
        × IsExpression a × IsExpression b
    IsExpression (t.assignment a w at b) = (is_assignment w ≡ true) × (15 ≤ precedence a) × (2 ≤ precedence b)
        × IsExpression a × IsExpression b

    -- assignment expressions (C99 6.5.2.2)
    pub AreArguments : Arguments → Type 0
    AreArguments t.no_arguments = ⊤
    AreArguments (t.arguments e m) = (2 ≤ precedence e) × IsExpression e × AreMoreArguments m

    -- the arguments behind the first
    pub AreMoreArguments : MoreArguments → Type 0
    AreMoreArguments t.end_of_arguments = ⊤
    AreMoreArguments (t.more_arguments at e m) = (2 ≤ precedence e) × IsExpression e × AreMoreArguments m

    -- C99 6.7.6
    pub IsTypeName : TypedDeclarator → Type 0
    IsTypeName (t.typed z d) = (names_one_type z ≡ true) × EachSpecifier z × (has_typedef z ≡ false) × IsDeclarator d
        × (has_name d ≡ false)

    -- C99 6.7.5.3
    pub IsParameter : TypedDeclarator → Type 0
    IsParameter (t.typed z d) = (names_one_type z ≡ true) × EachSpecifier z × (has_typedef z ≡ false) × IsDeclarator d

    -- C99 6.7.5, 6.7.6
    pub IsDeclarator : Declarator → Type 0
    IsDeclarator (t.named x) = is_among x.spelling names ≡ false
    IsDeclarator t.unnamed = ⊤
    IsDeclarator (t.pointer at z d) = IsDeclarator d
    IsDeclarator (t.grouped l d r) = (is_unnamed d ≡ false) × IsDeclarator d
    IsDeclarator (t.open_array d l r) = (is_direct d ≡ true) × IsDeclarator d
    IsDeclarator (t.array d l e r) = (is_direct d ≡ true) × (3 ≤ precedence e) × IsDeclarator d × IsExpression e
    IsDeclarator (t.function d l a r) = (is_direct d ≡ true) × IsDeclarator d × AreParameters a

    -- C99 6.7.5.3
    pub AreParameters : Parameters → Type 0
    AreParameters t.no_parameters = ⊤
    AreParameters (t.void_parameters at) = ⊤
    AreParameters (t.parameters x m) = (is_lone_void x m ≡ false) × IsParameter x × AreMoreParameters m

    -- the parameters behind the first
    pub AreMoreParameters : MoreParameters → Type 0
    AreMoreParameters t.end_of_parameters = ⊤
    AreMoreParameters (t.more_parameters at x m) = IsParameter x × AreMoreParameters m

    -- each by itself
    pub EachSpecifier : Specifiers → Type 0
    EachSpecifier t.no_specifiers = ⊤
    EachSpecifier (t.specifiers x z) = IsSpecifier x × EachSpecifier z

    -- C99 6.7.1 to 6.7.4
    pub IsSpecifier : Specifier → Type 0
    IsSpecifier (t.keyword x at) = ⊤
    IsSpecifier (t.typedef_name x) = is_among x.spelling names ≡ true
    IsSpecifier (t.structure x at tag) = ⊤
    IsSpecifier (t.structure_body x at tag l m r) = (is_no_member m ≡ false) × AreMembers m
    IsSpecifier (t.enumeration at tag) = ⊤
    IsSpecifier (t.enumeration_body at tag l e m c r) = IsEnumerator e × AreMoreEnumerators m

    -- C99 6.7.2.1
    pub AreMembers : Members → Type 0
    AreMembers t.no_members = ⊤
    AreMembers (t.members x m) = IsMember x × AreMembers m

    -- C99 6.7.2.1, without bit-fields
    pub IsMember : Member → Type 0
    IsMember (t.member_declaration z d m at) = (names_one_type z ≡ true) × EachSpecifier z × (has_typedef z ≡ false)
        × (has_name d ≡ true) × IsDeclarator d × AreMoreDeclarators m

    -- the declarators behind the first
    pub AreMoreDeclarators : MoreDeclarators → Type 0
    AreMoreDeclarators t.end_of_declarators = ⊤
    AreMoreDeclarators (t.more_declarators at d m) = (has_name d ≡ true) × IsDeclarator d × AreMoreDeclarators m

    -- C99 6.7.2.2
    pub IsEnumerator : Enumerator → Type 0
    IsEnumerator (t.plain x) = is_among x.spelling names ≡ false
    IsEnumerator (t.valued x at e) = (is_among x.spelling names ≡ false) × (3 ≤ precedence e) × IsExpression e

    -- the enumerators behind the first
    pub AreMoreEnumerators : MoreEnumerators → Type 0
    AreMoreEnumerators t.end_of_enumerators = ⊤
    AreMoreEnumerators (t.more_enumerators at e m) = IsEnumerator e × AreMoreEnumerators m

  -- C99 6.7
  abbrev pub AreSpecifiers : Specifiers → Type 0
  AreSpecifiers z = (names_one_type z ≡ true) × EachSpecifier z

  -- a declarator that is not abstract
  abbrev pub IsNamed : Declarator → Type 0
  IsNamed d = (has_name d ≡ true) × IsDeclarator d

  -- C99 6.7.8
  abbrev pub AreDesignators : List Designator → Type 0
  AreDesignators [] = ⊤
  AreDesignators (t.element l e r ∷ z) = (3 ≤ precedence e) × IsExpression e × AreDesignators z
  AreDesignators (t.member_named at x ∷ z) = AreDesignators z

  -- C99 6.7.8
  abbrev pub IsDesignation : Option Designation → Type 0
  IsDesignation None = ⊤
  IsDesignation (Some x) = (is_empty x.designators ≡ false) × AreDesignators x.designators

  abbrev mutual
    -- C99 6.7.8
    pub IsInitializer : Initializer → Type 0
    IsInitializer (t.value e) = (2 ≤ precedence e) × IsExpression e
    IsInitializer (t.braced l x m c r) = IsItem x × AreMoreItems m

    pub IsItem : InitializerItem → Type 0
    IsItem (t.item x v) = IsDesignation x × IsInitializer v

    pub AreMoreItems : MoreItems → Type 0
    AreMoreItems t.end_of_items = ⊤
    AreMoreItems (t.more_items at x m) = IsItem x × AreMoreItems m

-- a declarator adds its name where it is a typedef's
abbrev pub with_declared : Option (List ℕ) → List (List ℕ) → List (List ℕ)
with_declared None names = names
with_declared (Some x) names = names ++ x ∷ []

-- the typedef names behind a declarator: a typedef's name is in force from there on (C99 6.2.1, 6.7.7)
abbrev pub names_after : Bool → Declarator → List (List ℕ) → List (List ℕ)
names_after is_typedef d names = if is_typedef then with_declared (declared d) names else names

-- the typedef names behind the declarators after the first
abbrev pub names_after_more : Bool → List (Position × InitDeclarator) → List (List ℕ) → List (List ℕ)
names_after_more is_typedef [] names = names
names_after_more is_typedef (x ∷ z) names = names_after_more is_typedef z (names_after is_typedef x.1.declarator names)

-- the typedef names behind all declarators of a declaration
abbrev pub names_after_all : Bool → Option InitDeclarators → List (List ℕ) → List (List ℕ)
names_after_all is_typedef None names = names
names_after_all is_typedef (Some x) names = names_after_more is_typedef x.others
    (names_after is_typedef x.first.declarator names)

-- the typedef names behind a declaration
abbrev pub names_after_declaration : Declaration → List (List ℕ) → List (List ℕ)
names_after_declaration x names = names_after_all (has_typedef x.specifiers) x.declarators names

-- a name, which may stand in parentheses that hold nothing else
abbrev pub is_plain_name : Declarator → Bool
is_plain_name (t.named x) = true
is_plain_name (t.grouped l d r) = is_plain_name d
is_plain_name _ = false

-- a parameter with a name
abbrev pub is_named_parameter : TypedDeclarator → Bool
is_named_parameter (t.typed z d) = has_name d

-- the parameters behind the first have names
abbrev pub are_named_parameters : MoreParameters → Bool
are_named_parameters t.end_of_parameters = true
are_named_parameters (t.more_parameters at x m) = is_named_parameter x && are_named_parameters m

-- all parameters have names (C99 6.9.1)
abbrev pub has_named_parameters : Parameters → Bool
has_named_parameters t.no_parameters = true
has_named_parameters (t.void_parameters at) = true
has_named_parameters (t.parameters x m) = is_named_parameter x && are_named_parameters m

-- a function's block may stand behind it: its name, which may stand in parentheses that hold nothing else, is directly
-- followed by `(..)`, and each parameter there has a name (C99 6.9.1)
abbrev pub defines_function : Declarator → Bool
defines_function (t.named x) = false
defines_function t.unnamed = false
defines_function (t.pointer at z d) = defines_function d
defines_function (t.grouped l d r) = defines_function d
defines_function (t.open_array d l r) = defines_function d
defines_function (t.array d l e r) = defines_function d
defines_function (t.function d l a r) = if is_plain_name d then has_named_parameters a else defines_function d

-- ends with an `if` that an `else` could follow
abbrev pub ends_open : Statement → Bool
ends_open (s.if_then at l e r x) = true
ends_open (s.if_else at l e r x q y) = ends_open y
ends_open (s.while_do at l e r x) = ends_open x
ends_open (s.for at l f c semi e r x) = ends_open x
ends_open (s.case at e colon x) = ends_open x
ends_open (s.default at colon x) = ends_open x
ends_open _ = false

-- the typedef names behind a function definition or declaration
abbrev pub names_after_external : External → List (List ℕ) → List (List ℕ)
names_after_external (s.definition z d b) names = names_after (has_typedef z) d names
names_after_external (s.declaration x) names = names_after_declaration x names

-- how many levels there may be
module _ (levels : ℕ) where
  -- an expression of a statement, measured by itself
  abbrev pub IsWhole : List (List ℕ) → Expression → Type 0
  IsWhole names e = (expression_levels e ≤ levels) × IsExpression names e

  -- an expression, or none
  abbrev pub IsOptional : List (List ℕ) → Option Expression → Type 0
  IsOptional names None = ⊤
  IsOptional names (Some e) = IsWhole names e

  -- specifiers of a declaration (C99 6.7)
  abbrev pub BeginDeclaration : List (List ℕ) → Specifiers → Type 0
  BeginDeclaration names z = (specifiers_levels z ≤ levels) × AreSpecifiers names z

  -- a declarator of a declaration (C99 6.7)
  abbrev pub IsDeclared : List (List ℕ) → Declarator → Type 0
  IsDeclared names d = (declarator_levels d ≤ levels) × IsNamed names d

  -- its initializer, if there is one (C99 6.7.8)
  abbrev pub IsInitialized : List (List ℕ) → Option (Position × Initializer) → Type 0
  IsInitialized names None = ⊤
  IsInitialized names (Some x) = (initializer_levels x.1 ≤ levels) × IsInitializer names x.1

  -- its own name is in force in its initializer
  abbrev pub IsInitDeclarator : Bool → List (List ℕ) → InitDeclarator → Type 0
  IsInitDeclarator is_typedef names x = IsDeclared names x.declarator
      × IsInitialized (names_after is_typedef x.declarator names) x.initializer

  -- the declarators behind the first
  abbrev pub AreMoreInitDeclarators : Bool → List (List ℕ) → List (Position × InitDeclarator) → Type 0
  AreMoreInitDeclarators is_typedef names [] = ⊤
  AreMoreInitDeclarators is_typedef names (x ∷ z) = IsInitDeclarator is_typedef names x.1
      × AreMoreInitDeclarators is_typedef (names_after is_typedef x.1.declarator names) z

  -- the declarators of a declaration (C99 6.7)
  abbrev pub AreInitDeclarators : Bool → List (List ℕ) → Option InitDeclarators → Type 0
  AreInitDeclarators is_typedef names None = ⊤
  AreInitDeclarators is_typedef names (Some x) = IsInitDeclarator is_typedef names x.first
      × AreMoreInitDeclarators is_typedef (names_after is_typedef x.first.declarator names) x.others

  -- C99 6.7
  abbrev pub IsDeclaration : List (List ℕ) → Declaration → Type 0
  IsDeclaration names x = BeginDeclaration names x.specifiers
      × AreInitDeclarators (has_typedef x.specifiers) names x.declarators

  -- a declaration in a function is no typedef
  abbrev pub IsLocal : List (List ℕ) → Declaration → Type 0
  IsLocal names x = (has_typedef x.specifiers ≡ false) × IsDeclaration names x

  -- C99 6.8.5.3
  abbrev pub IsForInit : List (List ℕ) → ForInit → Type 0
  IsForInit names (s.declares x) = IsLocal names x
  IsForInit names (s.evaluates e at) = IsOptional names e

  module _ (names : List (List ℕ)) where
    abbrev mutual
      -- C99 6.8
      pub IsStatement : Statement → Type 0
      IsStatement (s.compound b) = IsBlock b
      IsStatement (s.expression e at) = IsOptional names e
      IsStatement (s.if_then at l e r x) = IsWhole names e × IsStatement x
      -- an else belongs to the nearest if (6.8.4.1)
      IsStatement (s.if_else at l e r x q y) = (ends_open x ≡ false) × IsWhole names e × IsStatement x × IsStatement y
      IsStatement (s.switch at l e r b) = IsWhole names e × IsBlock b
      IsStatement (s.while_do at l e r x) = IsWhole names e × IsStatement x
      IsStatement (s.do_while at x q l e r semi) = IsStatement x × IsWhole names e
      IsStatement (s.for at l f c semi e r x) = IsForInit names f × IsOptional names c × IsOptional names e
          × IsStatement x
      IsStatement (s.case at e colon x) = (3 ≤ precedence e) × IsWhole names e × IsStatement x
      IsStatement (s.default at colon x) = IsStatement x
      IsStatement (s.break at semi) = ⊤
      IsStatement (s.continue at semi) = ⊤
      IsStatement (s.return at e semi) = IsOptional names e

      pub IsBlock : Block → Type 0
      IsBlock (s.block l x r) = AreItems x

      pub AreItems : BlockItems → Type 0
      AreItems s.no_items = ⊤
      AreItems (s.items x m) = IsBlockItem x × AreItems m

      pub IsBlockItem : BlockItem → Type 0
      IsBlockItem (s.local d) = IsLocal names d
      IsBlockItem (s.inner x) = IsStatement x

  -- C99 6.9
  abbrev pub IsExternal : List (List ℕ) → External → Type 0
  IsExternal names (s.declaration x) = IsDeclaration names x
  IsExternal names (s.definition z d b) =
      BeginDeclaration names z × IsDeclared names d × (defines_function d ≡ true) ×
      (block_levels b ≤ levels) × IsBlock (names_after (has_typedef z) d names) b

  -- C99 6.9, each with the typedef names that those before it leave
  abbrev pub AreExternals : List (List ℕ) → List External → Type 0
  AreExternals names [] = ⊤
  AreExternals names (x ∷ z) = IsExternal names x × AreExternals (names_after_external x names) z

-- the typedef name that is in force from the start
abbrev pub SIZE_T : List ℕ
SIZE_T = 115 ∷ 105 ∷ 122 ∷ 101 ∷ 95 ∷ 116 ∷ []

-- a file is well formed, with at most 200 levels in each of its parts
abbrev pub IsWellFormed : Unit → Type 0
IsWellFormed u = (is_empty u.externals ≡ false) × AreExternals 200 (SIZE_T ∷ []) u.externals
