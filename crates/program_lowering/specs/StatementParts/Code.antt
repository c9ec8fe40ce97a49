-- The code of initializers, statements and their parts, before what comes next.
use Rattle.std.specs.Prelude.{◌≡◌, ℕ, ◌*◌, max, List, [], ◌∷◌, map, Option, Some}
use Rattle.c_tree.specs.declared.program.Variable.{Variable}
use Rattle.c_tree.specs.Tree.{Expression}
use Rattle.c_tree.specs.Statements.{Content, Part, Initializer, DeclaredVariable, First}
use Rattle.c_tree.specs.Blocks.{initializer_contents, declared_contents, first_contents, if_any}
use Rattle.c_tree.specs.Room.{content_height, greatest_height}
use Rattle.c_lower.specs.Placed.{Placed, HasAt}
use Rattle.c_lower.specs.Statements.{LowersContent, LowersParts, LowersInitializer, LowersDeclared, LowersCondition}
use Rattle.c_lower.specs.Statements.{LowersPart, LowersFirst, HasNumber, LowersEntry, LowersLeaving}
use Rattle.c_lower.specs.Statements.{has_objects_of}
use Rattle.program_lowering.specs.declared.expressions.emitter.Emitter.{Emitter}
use Rattle.program_lowering.specs.ExpressionCode.Weights.{Weights, no_weight}
use Rattle.program_lowering.specs.ExpressionCode.Enclosed.{Leads, SameNodes}
use Rattle.program_lowering.specs.ExpressionCode.Emitted.{Fills, Emits}
use Rattle.program_lowering.specs.declared.parts.exits.Exits.{Exits}
use Rattle.program_lowering.specs.declared.parts.exits.BlockExits.{BlockExits}
use Rattle.program_lowering.specs.StatementParts.Leaving.{exits_of, exit_nodes}
use Rattle.program_lowering.specs.StatementParts.Weights.{content_weight, parts_weight, initializer_weight}
use Rattle.program_lowering.specs.StatementParts.Weights.{declared_weight, entry_weight, entered_weight}
use Rattle.program_lowering.specs.StatementParts.Weights.{first_weight, condition_weight, part_weight, left_weight}

-- how many temporaries what is evaluated needs, at least one
abbrev pub most : List Content → ℕ
most contents = max 1 (greatest_height contents)

abbrev pub contents_in : List Part → List Content
contents_in = map (λ q. q.content)

-- a part of an initializer
pub record ContentCode (before after : Emitter) (variable offset : ℕ) (content : Content) (n0 n1 : ℕ) : Type 0 where
  pub emits : Emits before after (max 1 (content_height content)) (content_weight content)
  pub leads : Leads before after (n0 ∷ []) (n1 ∷ []) []
  pub stands : (c : Placed) → Fills after c → LowersContent c variable offset content n0 n1

pub record PartsCode (before after : Emitter) (variable : ℕ) (parts : List Part) (n0 n1 : ℕ) : Type 0 where
  pub emits : Emits before after (most (contents_in parts)) (parts_weight parts)
  pub leads : Leads before after (n0 ∷ []) (n1 ∷ []) []
  pub stands : (c : Placed) → Fills after c → LowersParts c variable parts n0 n1

pub record InitializerCode (before after : Emitter) (variable : ℕ) (initializer : Option Initializer)
    (n0 n1 : ℕ) : Type 0 where
  pub emits : Emits before after (most (initializer_contents initializer)) (initializer_weight variable initializer)
  pub leads : Leads before after (n0 ∷ []) (n1 ∷ []) []
  pub stands : (c : Placed) → Fills after c → LowersInitializer c variable initializer n0 n1

pub record DeclaredCode (before after : Emitter) (ds : List DeclaredVariable) (n0 n1 : ℕ) : Type 0 where
  pub emits : Emits before after (most (declared_contents ds)) (declared_weight ds)
  pub leads : Leads before after (n0 ∷ []) (n1 ∷ []) []
  pub stands : (c : Placed) → Fills after c → LowersDeclared c ds n0 n1

pub record FirstCode (before after : Emitter) (first : First) (n0 n1 : ℕ) : Type 0 where
  pub emits : Emits before after (most (first_contents first)) (first_weight first)
  pub leads : Leads before after (n0 ∷ []) (n1 ∷ []) []
  pub stands : (c : Placed) → Fills after c → LowersFirst c first n0 n1

-- a condition, with its two ways
pub record ConditionCode (before after : Emitter) (expression : Option Expression) (n0 holds fails : ℕ) : Type 0 where
  pub emits : Emits before after (most (if_any expression)) (condition_weight expression)
  pub leads : Leads before after (n0 ∷ []) (holds ∷ fails ∷ []) []
  pub stands : (c : Placed) → Fills after c → LowersCondition c expression n0 holds fails

pub record PartCode (before after : Emitter) (expression : Option Expression) (n0 n1 : ℕ) : Type 0 where
  pub emits : Emits before after (most (if_any expression)) (part_weight expression)
  pub leads : Leads before after (n0 ∷ []) (n1 ∷ []) []
  pub stands : (c : Placed) → Fills after c → LowersPart c expression n0 n1

-- the number of a block in the table
pub record BlockAdded (before after : Emitter) (numbers : List ℕ) (number : ℕ) : Type 0 where
  pub emits : Emits before after 0 no_weight
  pub same : SameNodes before after
  pub is : (c : Placed) → Fills after c → HasAt c.blocks number numbers

-- a block is entered
pub record EntryCode (before after : Emitter) (block : Option ℕ) (line n0 n1 : ℕ) : Type 0 where
  pub emits : Emits before after 0 (entry_weight block)
  pub leads : Leads before after (n0 ∷ []) (n1 ∷ []) []
  pub stands : (c : Placed) → Fills after c → LowersEntry c block line n0 n1

-- the ways out of a block with that number
pub record WaysOut (before after : Emitter) (block : ℕ) (outer inner : Exits) : Type 0 where
  pub emits : Emits before after 0 (λ w. 4 * w.leave_block)
  pub leads : Leads before after (exit_nodes (exits_of inner)) (exit_nodes (exits_of outer)) []
  pub stands : (c : Placed) → Fills after c → LowersLeaving c (Some block) (exits_of inner) (exits_of outer)

-- a block of a function with these variables gets its number, and is left
pub record LeavingCode (vs : List Variable) (before after : Emitter) (numbers : List ℕ) (outer : Exits)
    (inner : BlockExits) : Type 0 where
  pub emits : Emits before after 0 (left_weight vs numbers)
  pub leads : Leads before after (exit_nodes (exits_of inner.exits)) (exit_nodes (exits_of outer)) []
  pub numbered : (c : Placed) → c.variables ≡ vs → Fills after c
      → HasNumber c (has_objects_of c numbers) numbers inner.block
  pub stands : (c : Placed) → Fills after c → LowersLeaving c inner.block (exits_of inner.exits) (exits_of outer)
  pub weighs : (w : Weights) → entry_weight inner.block w ≡ entered_weight vs numbers w
