-- The variables of blocks, by their numbers in the function (C99 6.2.4 paragraph 5, 6.8.2, 6.8.4 paragraph 3, 6.8.5
-- paragraph 5), and what a statement evaluates.
use Rattle.std.specs.Prelude.{ℕ, suc, Bool, false, ◌||◌, ◌==◌, if◌then◌else◌, List, [], ◌∷◌, ◌++◌, map, length, Option}
use Rattle.std.specs.Prelude.{Some, None}
use Rattle.c_tree.specs.declared.expression.Kind.TheVariants as kind
use Rattle.c_tree.specs.declared.program.Variable.{Variable}
use Rattle.c_tree.specs.Programs.{Function}
use Rattle.c_tree.specs.Tree.{Expression}
use Rattle.c_tree.specs.Statements.{Content, value_content, Initializer, of_plain, of_object, DeclaredVariable, First}
use Rattle.c_tree.specs.Statements.{nothing, first_expression, first_declaration, Statement, expression_statement}
use Rattle.c_tree.specs.Statements.{empty, declaration, block, if_then, if_else, while_do, do_while, for, switch, break}
use Rattle.c_tree.specs.Statements.{continue, return, Statements, no_statements, statements, SwitchItems, no_items}
use Rattle.c_tree.specs.Statements.{items}

abbrev pub variables_in : List DeclaredVariable → List ℕ
variables_in = map (λ d. d.variable)

-- the variables that a block declares itself, in order

abbrev pub declared_by : Statement → List ℕ
declared_by (declaration ds) = variables_in ds
declared_by s = []

abbrev pub block_variables : Statements → List ℕ
block_variables no_statements = []
block_variables (statements s ss) = declared_by s ++ block_variables ss

abbrev pub switch_variables : SwitchItems → List ℕ
switch_variables no_items = []
switch_variables (items labels s is) = declared_by s ++ switch_variables is

abbrev pub first_variables : First → List ℕ
first_variables nothing = []
first_variables (first_expression e) = []
first_variables (first_declaration ds) = variables_in ds

-- all variables that a statement declares, those of the blocks in it too, in the order of the text
abbrev mutual
  pub all_variables : Statement → List ℕ
  all_variables (expression_statement e) = []
  all_variables empty = []
  all_variables (declaration ds) = variables_in ds
  all_variables (block line body) = each_variables body
  all_variables (if_then e s) = all_variables s
  all_variables (if_else e s other) = all_variables s ++ all_variables other
  all_variables (while_do e s) = all_variables s
  all_variables (do_while s e) = all_variables s
  all_variables (for line first condition step s) = first_variables first ++ all_variables s
  all_variables (switch e line is) = items_variables is
  all_variables break = []
  all_variables continue = []
  all_variables (return e) = []

  pub each_variables : Statements → List ℕ
  each_variables no_statements = []
  each_variables (statements s ss) = all_variables s ++ each_variables ss

  pub items_variables : SwitchItems → List ℕ
  items_variables no_items = []
  items_variables (items labels s is) = all_variables s ++ items_variables is

-- Which objects are entered: a list of the function's variables by number, where an object whose block is not entered
-- has no kind.

abbrev pub no_variable : Variable
no_variable = record { kind = kind.Void; is_object = false }

abbrev pub closed : Variable → Variable
closed v = if v.is_object then no_variable else v

abbrev pub is_among : List ℕ → (number : ℕ) → Bool
is_among [] x = false
is_among (y ∷ ys) x = (y == x) || is_among ys x

-- variables from a number on, of which those with some numbers are now as all are declared
abbrev pub opened : (numbers : List ℕ) → (first : ℕ) → (all variables : List Variable) → List Variable
opened numbers x [] vs = []
opened numbers x (d ∷ ds) [] = []
opened numbers x (d ∷ ds) (v ∷ vs) = (if is_among numbers x then d else v) ∷ opened numbers (suc x) ds vs

-- all variables, of which those objects alone are entered that a block declares
abbrev pub block_objects : (all : List Variable) → (numbers : List ℕ) → List Variable
block_objects all numbers = opened numbers 0 all (map closed all)

abbrev pub all_of : Function → List Variable
all_of f = f.parameters ++ f.variables

-- the variables behind the parameters, of which those are entered that the body's block declares
abbrev pub body_variables : Function → List Variable
body_variables f = opened (block_variables f.body) (length f.parameters) f.variables (map closed f.variables)

-- what a statement evaluates: its full expressions (6.8 paragraph 4) and the parts of initializers, in the order of the
-- text

abbrev pub if_any : Option Expression → List Content
if_any None = []
if_any (Some e) = value_content e ∷ []

abbrev pub initializer_contents : Option Initializer → List Content
initializer_contents None = []
initializer_contents (Some (of_plain e)) = value_content e ∷ []
initializer_contents (Some (of_object parts)) = map (λ p. p.content) parts

abbrev pub declared_contents : List DeclaredVariable → List Content
declared_contents [] = []
declared_contents (d ∷ ds) = initializer_contents d.initializer ++ declared_contents ds

abbrev pub first_contents : First → List Content
first_contents nothing = []
first_contents (first_expression e) = value_content e ∷ []
first_contents (first_declaration ds) = declared_contents ds

abbrev mutual
  pub contents_of : Statement → List Content
  contents_of (expression_statement e) = value_content e ∷ []
  contents_of empty = []
  contents_of (declaration ds) = declared_contents ds
  contents_of (block line body) = each_contents body
  contents_of (if_then e s) = value_content e ∷ contents_of s
  contents_of (if_else e s other) = value_content e ∷ (contents_of s ++ contents_of other)
  contents_of (while_do e s) = value_content e ∷ contents_of s
  contents_of (do_while s e) = contents_of s ++ value_content e ∷ []
  contents_of (for line first condition step s) = first_contents first
      ++ (if_any condition ++ (if_any step ++ contents_of s))
  contents_of (switch e line is) = value_content e ∷ items_contents is
  contents_of break = []
  contents_of continue = []
  contents_of (return e) = if_any e

  pub each_contents : Statements → List Content
  each_contents no_statements = []
  each_contents (statements s ss) = contents_of s ++ each_contents ss

  pub items_contents : SwitchItems → List Content
  items_contents no_items = []
  items_contents (items labels s is) = contents_of s ++ items_contents is
