-- The code of statements and of the parts of a switch, before what comes next.
use Rattle.std.specs.Prelude.{◌≡◌, ℕ, ◌+◌, max, true, List, [], ◌∷◌, length}
use Rattle.c_tree.specs.declared.program.Variable.{Variable}
use Rattle.c_tree.specs.declared.statement.CaseLabel.{CaseLabel}
use Rattle.c_tree.specs.Room.{height}
use Rattle.c_tree.specs.Tree.{Expression}
use Rattle.c_tree.specs.Statements.{Statement, Statements, SwitchItems, no_items, items}
use Rattle.c_lower.specs.Placed.{Placed}
use Rattle.c_lower.specs.Values.{LowersArgument}
use Rattle.c_lower.specs.Statements.{LowersStatement, LowersStatements, LowersLabels, any_default}
use Rattle.program_lowering.specs.declared.expressions.emitter.Emitter.{Emitter}
use Rattle.program_lowering.specs.ExpressionCode.Weights.{Weights}
use Rattle.program_lowering.specs.ExpressionCode.Enclosed.{Leads}
use Rattle.program_lowering.specs.ExpressionCode.Emitted.{Fills, Emits}
use Rattle.program_lowering.specs.declared.parts.exits.Exits.{Exits}
use Rattle.program_lowering.specs.StatementParts.Leaving.{exits_of, exit_nodes}
use Rattle.program_lowering.specs.StatementCode.Sizes.{statement_height, each_height, items_height}
use Rattle.program_lowering.specs.StatementCode.Weights.{labels_weight, result_weight, statement_weight, each_weight}
use Rattle.program_lowering.specs.StatementCode.Weights.{bodies_weight}
use Rattle.program_lowering.specs.StatementCode.Bodies.{statement_bodies, each_bodies, items_bodies}
use Rattle.program_lowering.specs.StatementCode.Switches.{LowersBodies, LowersTests, DefaultsBegin}

-- of a statement of a function with these variables
pub record StatementCode (vs : List Variable) (before after : Emitter) (statement : Statement) (n0 : ℕ)
    (exits : Exits) : Type 0 where
  pub emits : Emits before after (statement_height statement) (statement_weight vs statement)
  pub leads : Leads before after (n0 ∷ []) (exit_nodes (exits_of exits))
      (statement_bodies vs statement (length before.code.items))
  pub stands : (c : Placed) → c.variables ≡ vs → Fills after c → LowersStatement c statement n0 (exits_of exits)

pub record StatementsCode (vs : List Variable) (before after : Emitter) (ss : Statements) (n0 : ℕ)
    (exits : Exits) : Type 0 where
  pub emits : Emits before after (each_height ss) (each_weight vs ss)
  pub leads : Leads before after (n0 ∷ []) (exit_nodes (exits_of exits))
      (each_bodies vs ss (length before.code.items))
  pub stands : (c : Placed) → c.variables ≡ vs → Fills after c → LowersStatements c ss n0 (exits_of exits)

-- of a value that a function returns
pub record ResultCode (before after : Emitter) (expression : Expression) (n0 n1 : ℕ) : Type 0 where
  pub emits : Emits before after (max 1 (height expression)) (result_weight expression)
  pub leads : Leads before after (n0 ∷ []) (n1 ∷ []) []
  pub stands : (c : Placed) → Fills after c → LowersArgument c expression 0 n0 n1

-- what the tests of items weigh alone
abbrev pub tests_weight : SwitchItems → Weights → ℕ
tests_weight no_items w = 0
tests_weight (items labels s is) w = labels_weight labels w + tests_weight is w

-- where they begin, by the nodes of all items
abbrev pub begins : SwitchItems → (starts : List ℕ) → List ℕ
begins no_items starts = []
begins (items labels s is) [] = []
begins (items labels s is) (n ∷ ns) = n ∷ begins is ns

-- of the items of a switch, which begin at these nodes, the first at one of them
pub record ItemsFrom (vs : List Variable) (before after : Emitter) (is : SwitchItems) (starts : List ℕ) (n0 : ℕ)
    (exits : Exits) : Type 0
  where
    pub emits : Emits before after (items_height is) (bodies_weight vs is)
    pub leads : Leads before after (n0 ∷ begins is starts) (exit_nodes (exits_of exits))
        (items_bodies vs is (length before.code.items))
    pub stands : (c : Placed) → c.variables ≡ vs → Fills after c → LowersBodies c is starts n0 (exits_of exits)

-- the first at some node
pub record ItemsCode (vs : List Variable) (before after : Emitter) (is : SwitchItems) (starts : List ℕ)
    (exits : Exits) : Type 0 where
  pub first : ℕ
  pub from : ItemsFrom vs before after is starts first exits

-- of the tests of an item's labels
pub record LabelsCode (before after : Emitter) (labels : List CaseLabel) (item n0 n1 : ℕ) : Type 0 where
  pub emits : Emits before after 1 (labels_weight labels)
  pub leads : Leads before after (n0 ∷ []) (item ∷ n1 ∷ []) []
  pub stands : (c : Placed) → Fills after c → (other : ℕ) → (any_default labels ≡ true → item ≡ other)
      → LowersLabels c labels item other n0 n1

-- of those of all items
pub record TestsCode (before after : Emitter) (is : SwitchItems) (starts : List ℕ) (n0 other : ℕ) : Type 0 where
  pub emits : Emits before after 1 (tests_weight is)
  pub leads : Leads before after (n0 ∷ []) (other ∷ begins is starts) []
  pub stands : (c : Placed) → Fills after c → DefaultsBegin is starts other → LowersTests c is starts other n0
