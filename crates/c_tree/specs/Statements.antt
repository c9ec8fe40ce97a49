-- The typed trees of initializers and statements (C99 6.7.8, 6.8).
use Rattle.std.specs.Prelude.{ℕ, List, [], ◌∷◌, Option}
use Rattle.c_tree.specs.declared.statement.CaseLabel.{CaseLabel}
use Rattle.c_tree.specs.Tree.{Expression}

-- what a part of an initializer stores: a value, or the bytes of a literal that fills an array
pub data Content : Type 0 where
  value_content : Expression → Content
  literal_content : List ℕ → Content

pub record Part : Type 0 where
  pub offset : ℕ
  pub content : Content

-- of a plain variable, or of an automatic object
pub data Initializer : Type 0 where
  of_plain : Expression → Initializer
  of_object : List Part → Initializer

-- a variable that a declaration declares, by its number in the function
pub record DeclaredVariable : Type 0 where
  pub variable : ℕ
  pub initializer : Option Initializer

-- the first part of a `for` (6.8.5.3)
pub data First : Type 0 where
  nothing : First
  first_expression : Expression → First
  first_declaration : List DeclaredVariable → First

mutual
  pub data Statement : Type 0 where
    expression_statement : Expression → Statement
    empty : Statement
    declaration : List DeclaredVariable → Statement
    -- with the line of `{`
    block : (line : ℕ) → Statements → Statement
    if_then : Expression → Statement → Statement
    if_else : Expression → Statement → Statement → Statement
    while_do : Expression → Statement → Statement
    do_while : Statement → Expression → Statement
    -- with the line of the word, then the first part, the condition, the step and the body
    for : (line : ℕ) → First → Option Expression → Option Expression → Statement → Statement
    -- the value, the line of `{` and the items
    switch : Expression → (line : ℕ) → SwitchItems → Statement
    break : Statement
    continue : Statement
    return : Option Expression → Statement

  pub data Statements : Type 0 where
    no_statements : Statements
    statements : Statement → Statements → Statements

  -- each with the labels before it
  pub data SwitchItems : Type 0 where
    no_items : SwitchItems
    items : List CaseLabel → Statement → SwitchItems → SwitchItems

abbrev pub statements_in : List Statement → Statements
statements_in [] = no_statements
statements_in (s ∷ ss) = statements s (statements_in ss)

abbrev pub items_in : List (List CaseLabel × Statement) → SwitchItems
items_in [] = no_items
items_in (i ∷ is) = items i.0 i.1 (items_in is)
