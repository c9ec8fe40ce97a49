-- Which nodes code leads to. A span of nodes is closed where what leads into it stands in it, or begins a turn of the
-- counted loop whose body it is. A node that stands in no closed span is open: what is added leads to open nodes alone.
use Rattle.std.specs.Prelude.{◌≡◌, ◌≤◌, ◌<◌, ◌⊎◌, ℕ, false, List, [], ◌∷◌, ◌++◌, length, Option, Some, None}
use Rattle.tac_ir.specs.declared.instruction.Instruction.{Instruction}
use Rattle.tac_ir.specs.declared.function.Span.{Span}
use Rattle.tac_ir.specs.declared.function.CountedLoop.{CountedLoop}
use Rattle.tac_ir.specs.Bodies.{IsIn, IsTurnOf, assigns_plain, bodies_in, no_nodes}
use Rattle.tac_ir.specs.Edges.{LeadsTo}
use Rattle.c_lower.specs.Placed.{HasAt}
use Rattle.program_lowering.specs.declared.expressions.emitter.Emitter.{Emitter}

-- a turn of the loop with that number, where the span is the body of one
abbrev pub IsTurnIn : (number : Option ℕ) → Instruction → Type 0
IsTurnIn None i = ⊥
IsTurnIn (Some n) i = IsTurnOf n i

-- the span is closed
pub record Encloses (code : List Instruction) (number : Option ℕ) (span : Span) : Type 0 where
  pub within : span.end ≤ length code
  pub enters : (n m : ℕ) (i : Instruction) → HasAt code n i → LeadsTo i m → IsIn span m
      → IsIn span n ⊎ IsTurnIn number i

-- one of these spans, or the body of the loop with that number
abbrev pub IsClosed : (spans bodies : List Span) → (number : Option ℕ) → Span → Type 0
IsClosed spans bodies None s = (k : ℕ) × HasAt spans k s
IsClosed spans bodies (Some n) s = HasAt bodies n s

-- What is made so far leads to its own nodes; these spans are closed, and so are the bodies of its loops, which assign
-- their variables nowhere, and to which no checks are added yet.
pub record AreClosed (spans : List Span) (emitter : Emitter) : Type 0 where
  pub leads : (n m : ℕ) (i : Instruction) → HasAt emitter.code.items n i → LeadsTo i m → m < length emitter.code.items
  pub closed : (number : Option ℕ) (s : Span) → IsClosed spans (bodies_in emitter.loops.items) number s
      → Encloses emitter.code.items number s
  pub none_added : (n : ℕ) (l : CountedLoop) → HasAt emitter.loops.items n l → l.added ≡ no_nodes
  pub keeps : (n : ℕ) (l : CountedLoop) → HasAt emitter.loops.items n l → (m : ℕ) (i : Instruction)
      → HasAt emitter.code.items m i → IsIn l.body m → assigns_plain i l.variable ≡ false

-- a node that stands in none of them
pub record IsOpen (spans : List Span) (emitter : Emitter) (node : ℕ) : Type 0 where
  pub within : node < length emitter.code.items
  pub outside : (number : Option ℕ) (s : Span) → IsClosed spans (bodies_in emitter.loops.items) number s → IsIn s node
      → ⊥

abbrev pub AllOpen : List Span → Emitter → (nodes : List ℕ) → Type 0
AllOpen spans e [] = Unit {0}
AllOpen spans e (n ∷ ns) = IsOpen spans e n × AllOpen spans e ns

-- what is closed stays so, and open nodes stay open
pub record StaysClosed (spans : List Span) (before after : Emitter) : Type 0 where
  pub closed : AreClosed spans after
  pub opens : (n : ℕ) → IsOpen spans before n → IsOpen spans after n

-- loops with these bodies are added
pub record AddsBodies (before after : Emitter) (bodies : List Span) : Type 0 where
  pub by : bodies_in after.loops.items ≡ bodies_in before.loops.items ++ bodies

-- Code that begins at these nodes is added, and loops with these bodies. It leads to itself or to targets: where these
-- are open, so are the nodes where it begins.
pub record Leads (before after : Emitter) (starts targets : List ℕ) (spans : List Span) : Type 0 where
  pub bodies : AddsBodies before after spans
  pub by : (closed : List Span) → AreClosed closed before → AllOpen closed before targets
      → StaysClosed closed before after × AllOpen closed after starts

-- neither nodes nor loops are added
pub record SameNodes (before after : Emitter) : Type 0 where
  pub code : after.code.items ≡ before.code.items
  pub loops : after.loops.items ≡ before.loops.items
