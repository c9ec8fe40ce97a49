-- Loops whose turns are filled once their bodies stand.
use Rattle.std.specs.Prelude.{◌≡◌, ◌≤◌, ℕ, ◌+◌, max, false, List, [], ◌∷◌, length, Option, Some, None, slice_set}
use Rattle.c_tree.specs.declared.program.Variable.{Variable}
use Rattle.c_tree.specs.Tree.{Expression}
use Rattle.c_tree.specs.Statements.{First}
use Rattle.c_tree.specs.Blocks.{if_any, first_contents}
use Rattle.c_tree.specs.Room.{height}
use Rattle.tac_ir.specs.declared.instruction.Instruction.{Instruction}
use Rattle.tac_ir.specs.declared.instruction.Instruction.TheVariants as tac
use Rattle.tac_ir.specs.declared.function.Span.{Span}
use Rattle.tac_ir.specs.Bodies.{IsIn, assigns_plain, bodies_in}
use Rattle.c_lower.specs.Counted.{CountedParts}
use Rattle.c_lower.specs.Placed.{Placed, Holds}
use Rattle.c_lower.specs.Statements.{LowersCondition, LowersPart, LowersFirst, HasNumber, LowersEntry, LowersLeaving}
use Rattle.c_lower.specs.Statements.{CountedIs, has_objects_of}
use Rattle.program_lowering.specs.declared.expressions.emitter.Emitter.{Emitter}
use Rattle.program_lowering.specs.ExpressionCode.Weights.{Weights, Weighs, code_weight, no_weight, expression_weight}
use Rattle.program_lowering.specs.ExpressionCode.Enclosed.{IsTurnIn, IsClosed, AreClosed, IsOpen, AddsBodies, Leads}
use Rattle.program_lowering.specs.ExpressionCode.Emitted.{Has, Stays, Keeps, Fills, Fits, Emits}
use Rattle.program_lowering.specs.declared.parts.exits.Exits.{Exits}
use Rattle.program_lowering.specs.declared.parts.loops.ForHead.{ForHead}
use Rattle.program_lowering.specs.StatementParts.Leaving.{exits_of, exit_nodes}
use Rattle.program_lowering.specs.StatementParts.Weights.{first_weight, condition_weight, part_weight, left_weight}
use Rattle.program_lowering.specs.StatementParts.Weights.{entry_weight, entered_weight}
use Rattle.program_lowering.specs.StatementParts.Code.{most}

-- a reserved node is filled
pub record Filled (before after : Emitter) (node : ℕ) (instruction : Instruction) : Type 0 where
  pub code : after.code.items ≡ slice_set before.code.items node instruction
  pub keys : after.keys.items ≡ before.keys.items
  pub blocks : after.blocks.items ≡ before.blocks.items
  pub loops : after.loops.items ≡ before.loops.items
  pub texts : after.texts.items ≡ before.texts.items
  pub literals : after.literals.items ≡ before.literals.items

-- a node is reserved
pub record Waits (emitter : Emitter) (node : ℕ) : Type 0 where
  pub by : Has emitter node tac.Reserved

-- the condition of a loop, with a new node reserved for its turn
pub record HeadCode (before after : Emitter) (expression : Expression) (turn start fails : ℕ) : Type 0 where
  pub emits : Emits before after (max 1 (height expression)) (λ w. expression_weight expression w + (w.branch + w.turn))
  pub leads : Leads before after (turn ∷ start ∷ []) (fails ∷ []) []
  pub fresh : length before.code.items ≤ turn
  pub waits : Waits after turn
  pub stands : (c : Placed) → Fills after c → LowersCondition c (Some expression) start turn fails

-- the exits, the condition and the step of a `for`
pub record ForHeadCode (vs : List Variable) (before after : Emitter) (numbers : List ℕ) (test step : Option Expression)
    (head : ForHead)
    (exits : Exits) : Type 0 where
  pub emits : Emits before after (max (most (if_any test)) (most (if_any step)))
      (λ w. left_weight vs numbers w + (w.turn + (condition_weight test w + part_weight step w)))
  pub leads : Leads before after (head.turn ∷ head.condition ∷ head.step ∷ exit_nodes (exits_of head.inside.exits))
      (exit_nodes (exits_of exits)) []
  pub fresh : length before.code.items ≤ head.turn
  pub waits : Waits after head.turn
  pub numbered : (c : Placed) → c.variables ≡ vs → Fills after c
      → HasNumber c (has_objects_of c numbers) numbers head.inside.block
  pub weighs : (w : Weights) → entry_weight head.inside.block w ≡ entered_weight vs numbers w
  pub leaves : (c : Placed) → Fills after c
      → LowersLeaving c head.inside.block (exits_of head.inside.exits) (exits_of exits)
  pub tests : (c : Placed) → Fills after c → LowersCondition c test head.condition head.turn head.inside.exits.next
  pub goes_on : (c : Placed) → Fills after c → LowersPart c step head.step head.condition

-- nothing in the span assigns the variable of a counted loop
pub record AssignsNone (emitter : Emitter) (span : Span) (parts : Option CountedParts) : Type 0 where
  pub by : (p : CountedParts) → parts ≡ Some p → (n : ℕ) (i : Instruction) → Has emitter n i → IsIn span n
      → assigns_plain i p.variable ≡ false

-- a loop that counts has a body
abbrev pub counted_body : Option CountedParts → Span → List Span
counted_body None body = []
counted_body (Some p) body = body ∷ []

-- A closed span becomes the body of a loop with that number, where it gets one: what is open before, and stands in it,
-- is what a turn of the loop may lead to.
pub record ClosesBody (before after : Emitter) (body : Span) (parts : Option CountedParts) (number : Option ℕ) : Type 0 where
  pub closed : (spans : List Span) → AreClosed (body ∷ spans) before → AssignsNone before body parts
      → AreClosed spans after
  pub opens : (spans : List Span) (n : ℕ) → IsOpen (body ∷ spans) before n → IsOpen spans after n
  pub turns : (spans : List Span) (n : ℕ) → IsOpen spans before n → (k : Option ℕ) (s : Span)
      → IsClosed spans (bodies_in after.loops.items) k s → IsIn s n → IsTurnIn k (tac.Turn number n)

-- the number of a counted loop with that body in the table
pub record LoopAdded (before after : Emitter) (parts : Option CountedParts) (setting : ℕ) (head : ForHead)
    (body : Span) (number : Option ℕ) : Type 0
  where
    pub emits : Emits before after 0 no_weight
    pub code : after.code.items ≡ before.code.items
    pub closes : ClosesBody before after body parts number
    pub bodies : AddsBodies before after (counted_body parts body)
    pub is : (c : Placed) → Fills after c → CountedIs c.loops number parts setting head.condition head.turn head.step

-- code that grew, but for a node that was filled, by just so much weight
pub record FillsIn (before after : Emitter) (node most : ℕ) (weight : Weights → ℕ) : Type 0 where
  pub fills : (c : Placed) → Fills after c → Fills before c
  pub keeps : (e : Emitter) → Keeps e before → length e.code.items ≤ node → Keeps e after
  pub fits : (limit : ℕ) → most ≤ limit → Fits limit before → Fits limit after
  pub texts_stay : Stays before.texts.items after.texts.items
  pub grown : (w : Weights) (texts : List (List ℕ)) → Stays after.texts.items texts
      → Weighs w (code_weight texts after.code.items w) (code_weight texts before.code.items w + weight w)

-- the rest of a loop, behind the closed span of its body, which begins at a node
pub record ClosesLoop (before after : Emitter) (spans : List Span) (body : Span) (n0 : ℕ) : Type 0 where
  pub closed : AreClosed spans after
  pub opens : (n : ℕ) → IsOpen (body ∷ spans) before n → IsOpen spans after n
  pub start : IsOpen spans after n0

-- the rest of a `for`, behind its body
pub record ForTailCode (before after : Emitter) (line : ℕ) (first : First) (parts : Option CountedParts)
    (head : ForHead) (body : ℕ) (nodes : Span) (n0 : ℕ) : Type 0 where
  pub grows : FillsIn before after head.turn (most (first_contents first))
      (λ w. entry_weight head.inside.block w + first_weight first w)
  pub bodies : AddsBodies before after (counted_body parts nodes)
  pub closes : (spans : List Span) → AreClosed spans before → AreClosed (nodes ∷ spans) before
      → AssignsNone before nodes parts → IsOpen spans before body → IsOpen (nodes ∷ spans) before head.condition
      → ClosesLoop before after spans nodes n0
  pub setting : ℕ
  pub counted : Option ℕ
  pub enters : (c : Placed) → Fills after c → LowersEntry c head.inside.block line n0 setting
  pub sets : (c : Placed) → Fills after c → LowersFirst c first setting head.condition
  pub turns : (c : Placed) → Fills after c → Holds c head.turn (tac.Turn counted body)
  pub counts : (c : Placed) → Fills after c → CountedIs c.loops counted parts setting head.condition head.turn head.step
