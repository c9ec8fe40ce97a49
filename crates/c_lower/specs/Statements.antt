-- Where the code of initializers and statements stands.
use Rattle.std.specs.Prelude.{◌≡◌, ℕ, Bool, true, false, ◌||◌, List, [], ◌∷◌, Option, Some, None}
use Rattle.c_tree.specs.declared.statement.CaseLabel.{CaseLabel}
use Rattle.c_tree.specs.declared.statement.CaseLabel.TheVariants.{Case, Default}
use Rattle.c_tree.specs.Tree.{Expression, kind_of, line_of}
use Rattle.c_tree.specs.Statements.{Content, value_content, literal_content, Part, Initializer, of_plain, of_object}
use Rattle.c_tree.specs.Statements.{DeclaredVariable, First, nothing, first_expression, first_declaration, Statement}
use Rattle.c_tree.specs.Statements.{expression_statement, empty, declaration, block, if_then, if_else, while_do}
use Rattle.c_tree.specs.Statements.{do_while, for, switch, break, continue, return, Statements, no_statements}
use Rattle.c_tree.specs.Statements.{statements, SwitchItems, no_items, items}
use Rattle.c_tree.specs.Blocks.{block_objects, block_variables, switch_variables, first_variables}
use Rattle.source_meaning.specs.Blocks.{has_objects}
use Rattle.source_meaning.specs.Statements.{is_default}
use Rattle.tac_ir.specs.declared.instruction.Instruction.TheVariants as tac
use Rattle.tac_ir.specs.declared.function.Span.{Span}
use Rattle.tac_ir.specs.declared.function.CountedLoop.{CountedLoop}
use Rattle.c_lower.specs.Placed.{Placed, Holds, HasAt}
use Rattle.c_lower.specs.Values.{LowersExpression, LowersArgument}
use Rattle.c_lower.specs.Counted.{CountedParts, counted_parts}

-- where a statement is left for: its end, a `break`, a `continue`, a `return` with its value in temporary 0
pub record Exits : Type 0 where
  pub next : ℕ
  pub breaks : ℕ
  pub continues : ℕ
  pub returns : ℕ

-- initializers

-- a part of the object of a variable
abbrev pub LowersContent : Placed → (variable offset : ℕ) → Content → (n0 n1 : ℕ) → Type 0
LowersContent c x offset (value_content e) n0 n1 =
    (k : ℕ) × LowersExpression c e 0 n0 k × Holds c k (tac.StorePart (kind_of e) (line_of e) x offset 0 n1)
LowersContent c x offset (literal_content bytes) n0 n1 =
    (text : ℕ) × HasAt c.texts text bytes × Holds c n0 (tac.StoreText text x offset n1)

abbrev pub LowersParts : Placed → (variable : ℕ) → List Part → (n0 n1 : ℕ) → Type 0
LowersParts c x [] n0 n1 = n0 ≡ n1
LowersParts c x (q ∷ qs) n0 n1 = (k : ℕ) × LowersContent c x q.offset q.content n0 k × LowersParts c x qs k n1

abbrev pub LowersInitializer : Placed → (variable : ℕ) → Option Initializer → (n0 n1 : ℕ) → Type 0
LowersInitializer c x None n0 n1 = n0 ≡ n1
LowersInitializer c x (Some (of_plain e)) n0 n1 = (k : ℕ) × LowersExpression c e 0 n0 k
    × Holds c k (tac.SetPlain x 0 n1)
LowersInitializer c x (Some (of_object parts)) n0 n1 = (k : ℕ) × Holds c n0 (tac.Zero x k) × LowersParts c x parts k n1

abbrev pub LowersDeclared : Placed → List DeclaredVariable → (n0 n1 : ℕ) → Type 0
LowersDeclared c [] n0 n1 = n0 ≡ n1
LowersDeclared c (d ∷ ds) n0 n1 = (k : ℕ) × LowersInitializer c d.variable d.initializer n0 k × LowersDeclared c ds k n1

-- the parts of loops

-- the condition of a loop: one that is left out has no way out
abbrev pub LowersCondition : Placed → Option Expression → (n0 holds fails : ℕ) → Type 0
LowersCondition c None n0 x y = n0 ≡ x
LowersCondition c (Some e) n0 x y = (k : ℕ) × LowersExpression c e 0 n0 k × Holds c k (tac.Branch 0 x y)

abbrev pub LowersPart : Placed → Option Expression → (n0 n1 : ℕ) → Type 0
LowersPart c None n0 n1 = n0 ≡ n1
LowersPart c (Some e) n0 n1 = LowersExpression c e 0 n0 n1

abbrev pub LowersFirst : Placed → First → (n0 n1 : ℕ) → Type 0
LowersFirst c nothing n0 n1 = n0 ≡ n1
LowersFirst c (first_expression e) n0 n1 = LowersExpression c e 0 n0 n1
LowersFirst c (first_declaration ds) n0 n1 = LowersDeclared c ds n0 n1

-- the parts of a `for` that counts, in the table, with the nodes where its parts begin, and some spans
abbrev pub CountedIs : List CountedLoop → Option ℕ → Option CountedParts → (setting condition turn step : ℕ) → Type 0
CountedIs loops None None n0 h t s = Unit {0}
CountedIs loops None (Some q) n0 h t s = ⊥
CountedIs loops (Some i) None n0 h t s = ⊥
CountedIs loops (Some i) (Some q) n0 h t s =
    (body : Span) × (added : Span) × HasAt loops i (record {
      variable = q.variable;
      start = q.start;
      bound = q.bound;
      setting = n0;
      condition = h;
      turn = t;
      step = s;
      body = body;
      added = added;
    })

-- blocks

-- a block that has objects has a number, at which its variables stand in the table; one without has none
abbrev pub HasNumber : Placed → (has_objects : Bool) → (variables : List ℕ) → (block : Option ℕ) → Type 0
HasNumber c true numbers (Some b) = HasAt c.blocks b numbers
HasNumber c true numbers None = ⊥
HasNumber c false numbers (Some b) = ⊥
HasNumber c false numbers None = Unit {0}

-- a block that has a number is entered
abbrev pub LowersEntry : Placed → (block : Option ℕ) → (line n0 n1 : ℕ) → Type 0
LowersEntry c (Some b) line n0 n1 = Holds c n0 (tac.EnterBlock b line n1)
LowersEntry c None line n0 n1 = n0 ≡ n1

-- and every way out of it leads to a node that leaves it
abbrev pub LowersLeaving : Placed → (block : Option ℕ) → (inner outer : Exits) → Type 0
LowersLeaving c (Some b) y x =
    Holds c y.next (tac.LeaveBlock b x.next) × Holds c y.breaks (tac.LeaveBlock b x.breaks)
    × Holds c y.continues (tac.LeaveBlock b x.continues)
    × Holds c y.returns (tac.LeaveBlock b x.returns)
LowersLeaving c None y x = y ≡ x

abbrev pub has_objects_of : Placed → (numbers : List ℕ) → Bool
has_objects_of c numbers = has_objects (block_objects c.variables numbers)

abbrev pub BlockOf : Placed → (numbers : List ℕ) → (line n0 n1 : ℕ) → (inner outer : Exits) → Type 0
BlockOf c numbers line n0 n1 y x =
    (b : Option ℕ) × HasNumber c (has_objects_of c numbers) numbers b × LowersEntry c b line n0 n1
    × LowersLeaving c b y x

-- the exits of a loop's body whose turn ends at a node, and of the items of a switch

abbrev pub in_loop : Exits → (step : ℕ) → Exits
in_loop x c = record { next = c; breaks = x.next; continues = c; returns = x.returns }

abbrev pub in_switch : Exits → Exits
in_switch x = record { next = x.next; breaks = x.next; continues = x.continues; returns = x.returns }

-- The tests of an item's labels lead from a node on to the item, or behind them; `other` is where it goes on where no
-- label of the switch is equal: the item of the default label, if there is one.
abbrev pub LowersLabels : Placed → List CaseLabel → (item other n0 n1 : ℕ) → Type 0
LowersLabels c [] item other n0 n1 = n0 ≡ n1
LowersLabels c (Case w ∷ ls) item other n0 n1 = (k : ℕ) × Holds c n0 (tac.Case 0 w item k)
    × LowersLabels c ls item other k n1
LowersLabels c (Default ∷ ls) item other n0 n1 = (item ≡ other) × LowersLabels c ls item other n0 n1

abbrev pub any_default : List CaseLabel → Bool
any_default [] = false
any_default (l ∷ ls) = is_default l || any_default ls

abbrev pub has_default : SwitchItems → Bool
has_default no_items = false
has_default (items labels s is) = any_default labels || has_default is

abbrev mutual
  pub LowersStatement : Placed → Statement → (n0 : ℕ) → Exits → Type 0
  LowersStatement c (expression_statement e) n0 x = LowersExpression c e 0 n0 x.next
  LowersStatement c empty n0 x = n0 ≡ x.next
  LowersStatement c (declaration ds) n0 x = LowersDeclared c ds n0 x.next
  LowersStatement c (block line body) n0 x =
      (b : ℕ) × (y : Exits) × BlockOf c (block_variables body) line n0 b y x × LowersStatements c body b y
  LowersStatement c (if_then e s) n0 x =
      (ka : ℕ) × LowersCondition c (Some e) n0 ka x.next × LowersStatement c s ka x
  LowersStatement c (if_else e s other) n0 x =
      (ka : ℕ) × (kb : ℕ) × LowersCondition c (Some e) n0 ka kb × LowersStatement c s ka x
      × LowersStatement c other kb x
  LowersStatement c (while_do e s) n0 x =
      (t : ℕ) × (b : ℕ) × LowersCondition c (Some e) n0 t x.next × Holds c t (tac.Turn None b)
      × LowersStatement c s b (in_loop x n0)
  LowersStatement c (do_while s e) n0 x =
      (b : ℕ) × (h : ℕ) × Holds c n0 (tac.Turn None b) × LowersStatement c s b (in_loop x h)
      × LowersCondition c (Some e) h n0 x.next
  LowersStatement c (for line first condition step s) n0 x =
      (f : ℕ) × (h : ℕ) × (t : ℕ) × (b : ℕ) × (next : ℕ) × (y : Exits) × (counted : Option ℕ)
      × BlockOf c (first_variables first) line n0 f y x
      × LowersFirst c first f h × LowersCondition c condition h t y.next × Holds c t (tac.Turn counted b)
      × CountedIs c.loops counted (counted_parts first condition step s) f h t next
      × LowersPart c step next h × LowersStatement c s b (in_loop y next)
  LowersStatement c (switch e line is) n0 x =
      (k : ℕ) × (n1 : ℕ) × (i : ℕ) × (other : ℕ) × (y : Exits) × LowersExpression c e 0 n0 k
      × BlockOf c (switch_variables is) line k n1 y x
      × (has_default is ≡ false → other ≡ y.next) × LowersItems c is n1 i other (in_switch y)
  LowersStatement c break n0 x = n0 ≡ x.breaks
  LowersStatement c continue n0 x = n0 ≡ x.continues
  LowersStatement c (return None) n0 x = Holds c n0 (tac.Constant 0 0 x.returns)
  LowersStatement c (return (Some e)) n0 x = LowersArgument c e 0 n0 x.returns

  pub LowersStatements : Placed → Statements → (n0 : ℕ) → Exits → Type 0
  LowersStatements c no_statements n0 x = n0 ≡ x.next
  LowersStatements c (statements s ss) n0 x = (k : ℕ) × LowersStatement c s n0 (record x { next = k })
      × LowersStatements c ss k x

  -- the tests of labels from one node on, and the items from another
  pub LowersItems : Placed → SwitchItems → (tests n0 other : ℕ) → Exits → Type 0
  LowersItems c no_items t0 n0 other x = (t0 ≡ other) × (n0 ≡ x.next)
  LowersItems c (items labels s is) t0 n0 other x =
      (t1 : ℕ) × (n1 : ℕ) × LowersLabels c labels n0 other t0 t1 × LowersStatement c s n0 (record x { next = n1 })
      × LowersItems c is t1 n1 other x
