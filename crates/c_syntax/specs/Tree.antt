-- The syntax trees of expressions, declarators, specifiers and initializers (C99 6.5, 6.7). A node has the positions of
-- its own tokens in the order of the text; its constructor says which they are.
use Rattle.std.specs.Prelude.{List, Option}
use Rattle.c_lexer.specs.declared.keyword.Keyword.{Keyword}
use Rattle.c_lexer.specs.declared.punctuator.Punctuator.{Punctuator}
use Rattle.c_syntax.specs.declared.position.Position.{Position}
use Rattle.c_syntax.specs.declared.position.Spelled.{Spelled}

mutual
  -- C99 6.5
  pub data Expression : Type 0 where
    identifier : Spelled → Expression
    integer : Spelled → Expression
    character : Spelled → Expression
    -- adjacent string literals
    strings : Spelled → List Spelled → Expression
    parenthesized : Position → Expression → Position → Expression
    subscript : Expression → Position → Expression → Position → Expression
    call : Expression → Position → Arguments → Position → Expression
    -- by `.` or `->`
    member : Expression → Punctuator → Position → Spelled → Expression
    -- `++` or `--` behind its operand
    postfix : Expression → Punctuator → Position → Expression
    -- `++`, `--` or a unary operator
    unary : Punctuator → Position → Expression → Expression
    sizeof_expression : Position → Expression → Expression
    sizeof_type : Position → Position → TypedDeclarator → Position → Expression
    cast : Position → TypedDeclarator → Position → Expression → Expression
    -- by an operator from `*` to `||`, or by the comma
    binary : Expression → Punctuator → Position → Expression → Expression
    conditional : Expression → Position → Expression → Position → Expression → Expression
    assignment : Expression → Punctuator → Position → Expression → Expression

  -- C99 6.5.2.2
  pub data Arguments : Type 0 where
    no_arguments : Arguments
    arguments : Expression → MoreArguments → Arguments

  pub data MoreArguments : Type 0 where
    end_of_arguments : MoreArguments
    more_arguments : Position → Expression → MoreArguments → MoreArguments

  -- a type name (C99 6.7.6) or a parameter (6.7.5)
  pub data TypedDeclarator : Type 0 where
    typed : Specifiers → Declarator → TypedDeclarator

  -- C99 6.7.5; an abstract one (6.7.6) has no name
  pub data Declarator : Type 0 where
    named : Spelled → Declarator
    unnamed : Declarator
    -- `*` and the words `const` behind it
    pointer : Position → List Position → Declarator → Declarator
    grouped : Position → Declarator → Position → Declarator
    open_array : Declarator → Position → Position → Declarator
    array : Declarator → Position → Expression → Position → Declarator
    function : Declarator → Position → Parameters → Position → Declarator

  -- C99 6.7.5.3
  pub data Parameters : Type 0 where
    no_parameters : Parameters
    -- the word `void` alone
    void_parameters : Position → Parameters
    parameters : TypedDeclarator → MoreParameters → Parameters

  pub data MoreParameters : Type 0 where
    end_of_parameters : MoreParameters
    more_parameters : Position → TypedDeclarator → MoreParameters → MoreParameters

  -- C99 6.7.1 to 6.7.4, in the order of the text
  pub data Specifiers : Type 0 where
    no_specifiers : Specifiers
    specifiers : Specifier → Specifiers → Specifiers

  pub data Specifier : Type 0 where
    keyword : Keyword → Position → Specifier
    typedef_name : Spelled → Specifier
    -- `struct` or `union` and a tag (6.7.2.1)
    structure : Keyword → Position → Spelled → Specifier
    structure_body : Keyword → Position → Option Spelled → Position → Members → Position → Specifier
    -- 6.7.2.2
    enumeration : Position → Spelled → Specifier
    enumeration_body : Position → Option Spelled → Position → Enumerator → MoreEnumerators → Option Position → Position
        → Specifier

  -- C99 6.7.2.1
  pub data Members : Type 0 where
    no_members : Members
    members : Member → Members → Members

  pub data Member : Type 0 where
    member_declaration : Specifiers → Declarator → MoreDeclarators → Position → Member

  pub data MoreDeclarators : Type 0 where
    end_of_declarators : MoreDeclarators
    more_declarators : Position → Declarator → MoreDeclarators → MoreDeclarators

  -- C99 6.7.2.2
  pub data Enumerator : Type 0 where
    plain : Spelled → Enumerator
    valued : Spelled → Position → Expression → Enumerator

  pub data MoreEnumerators : Type 0 where
    end_of_enumerators : MoreEnumerators
    more_enumerators : Position → Enumerator → MoreEnumerators → MoreEnumerators

-- C99 6.7.8
pub data Designator : Type 0 where
  element : Position → Expression → Position → Designator
  member_named : Position → Spelled → Designator

-- designators and `=`
pub record Designation : Type 0 where
  pub designators : List Designator
  pub equals : Position

mutual
  -- C99 6.7.8
  pub data Initializer : Type 0 where
    value : Expression → Initializer
    braced : Position → InitializerItem → MoreItems → Option Position → Position → Initializer

  pub data InitializerItem : Type 0 where
    item : Option Designation → Initializer → InitializerItem

  pub data MoreItems : Type 0 where
    end_of_items : MoreItems
    more_items : Position → InitializerItem → MoreItems → MoreItems
