-- The syntax trees of declarations, statements and files (C99 6.7 to 6.9).
use Rattle.std.specs.Prelude.{List, Option}
use Rattle.c_syntax.specs.declared.position.Position.{Position}
use Rattle.c_syntax.specs.Tree.{Expression, Specifiers, Declarator, Initializer}

-- a declarator, and its `=` and initializer or none (C99 6.7)
pub record InitDeclarator : Type 0 where
  pub declarator : Declarator
  pub initializer : Option (Position × Initializer)

-- the first, and the others, each behind its comma
pub record InitDeclarators : Type 0 where
  pub first : InitDeclarator
  pub others : List (Position × InitDeclarator)

-- C99 6.7
pub record Declaration : Type 0 where
  pub specifiers : Specifiers
  pub declarators : Option InitDeclarators
  pub semicolon : Position

-- the first part of the head of a `for`, with its semicolon (C99 6.8.5.3)
pub data ForInit : Type 0 where
  declares : Declaration → ForInit
  evaluates : Option Expression → Position → ForInit

mutual
  -- C99 6.8
  pub data Statement : Type 0 where
    compound : Block → Statement
    expression : Option Expression → Position → Statement
    if_then : Position → Position → Expression → Position → Statement → Statement
    if_else : Position → Position → Expression → Position → Statement → Position → Statement → Statement
    switch : Position → Position → Expression → Position → Block → Statement
    while_do : Position → Position → Expression → Position → Statement → Statement
    do_while : Position → Statement → Position → Position → Expression → Position → Position → Statement
    for : Position → Position → ForInit → Option Expression → Position → Option Expression → Position → Statement
        → Statement
    case : Position → Expression → Position → Statement → Statement
    default : Position → Position → Statement → Statement
    break : Position → Position → Statement
    continue : Position → Position → Statement
    return : Position → Option Expression → Position → Statement

  -- C99 6.8.2
  pub data Block : Type 0 where
    block : Position → BlockItems → Position → Block

  pub data BlockItems : Type 0 where
    no_items : BlockItems
    items : BlockItem → BlockItems → BlockItems

  pub data BlockItem : Type 0 where
    local : Declaration → BlockItem
    inner : Statement → BlockItem

-- C99 6.9
pub data External : Type 0 where
  definition : Specifiers → Declarator → Block → External
  declaration : Declaration → External

pub record Unit : Type 0 where
  pub externals : List External
