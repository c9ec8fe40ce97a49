-- Where the blocks of a function lie: that of the last node first, since code that comes later has lower nodes.
use Rattle.std.specs.Prelude.{ℕ, suc, ◌+◌, ◌-◌, Bool, true, false, not, ◌&&◌, ◌==◌, nat_lt, if◌then◌else◌, List, []}
use Rattle.std.specs.Prelude.{◌∷◌, ◌++◌, drop, length, Option, Some, None, slice_get}
use Rattle.addr_map.specs.Places.{MapSizes}
use Rattle.tac_ir.specs.declared.instruction.Instruction.{Instruction}
use Rattle.tac_ir.specs.declared.function.CodeFunction.{CodeFunction}
use Rattle.tac_ir.specs.declared.function.Tac.{Tac}
use Rattle.tac_ir.specs.Edges.{successors}
use Rattle.flat_code.specs.declared.instruction.FlatInstruction.{FlatInstruction}
use Rattle.flat_code.specs.declared.instruction.FlatInstruction.TheVariants.{JumpForward, JumpBack}
use Rattle.flat_code.specs.declared.function.FlatFunction.{FlatFunction}
use Rattle.flat_code.specs.declared.function.FlatProgram.{FlatProgram}
use Rattle.metadata_plan.specs.Registers.{words_in}
use Rattle.metadata_plan.specs.Operators.{OperatorCode}
use Rattle.metadata_plan.specs.Blocks.{block, prologue, entry_code}

-- a jump from a place to another
abbrev pub jump : (from to : ℕ) → FlatInstruction
jump p q = if nat_lt p q then JumpForward (q - (p + 1)) else JumpBack (p - q)

-- how many edges of a graph lead to a node
abbrev pub times_in : (node : ℕ) → List ℕ → ℕ
times_in n [] = 0
times_in n (m ∷ ms) = (if m == n then 1 else 0) + times_in n ms

abbrev pub edges_to : List Instruction → (node : ℕ) → ℕ
edges_to [] n = 0
edges_to (i ∷ is) n = times_in n (successors i) + edges_to is n

-- how many ways lead to a node: the edges, and to the entry that behind the prologue
abbrev pub ways_to : CodeFunction → (node : ℕ) → ℕ
ways_to c n = times_in n (c.entry ∷ []) + edges_to c.code n

abbrev pub is_join : CodeFunction → (node : ℕ) → Bool
is_join c n = nat_lt 1 (ways_to c n)

-- Code falls from a node into the next one, which lies behind it, unless that is a join. There a jump stands, so that
-- the result of a block, which nothing may read, is not needed where other code leads.
unfoldable pub falls : CodeFunction → (node next : ℕ) → Bool
falls c n next = (next + 1 == n) && not (is_join c next)

-- what stands behind the block of a node, from a place on
abbrev pub jump_unless : Bool → (from to : ℕ) → List FlatInstruction
jump_unless fallen p q = if fallen then [] else jump p q ∷ []

abbrev pub jumps : CodeFunction → (address : ℕ → ℕ) → (node place : ℕ) → (nodes : List ℕ) → List FlatInstruction
jumps c address n pc [] = []
jumps c address n pc (m ∷ []) = jump_unless (falls c n m) pc (address m)
jumps c address n pc (x ∷ y ∷ ms) = jump pc (address y) ∷ jump_unless (falls c n x) (pc + 1) (address x)

abbrev pub jump_count : CodeFunction → (node : ℕ) → (nodes : List ℕ) → ℕ
jump_count c n [] = 0
jump_count c n (m ∷ []) = if falls c n m then 0 else 1
jump_count c n (x ∷ y ∷ ms) = 1 + (if falls c n x then 0 else 1)

-- the blocks of any instructions, and the code with which a function begins
module _ (put : Instruction → List FlatInstruction) (begin : List FlatInstruction) (c : CodeFunction) where
  -- how many instructions a node has, and the nodes from one on
  abbrev pub size_at : (node : ℕ) → Instruction → ℕ
  size_at n i = length (put i) + jump_count c n (successors i)

  abbrev pub size_from : (node : ℕ) → List Instruction → ℕ
  size_from n [] = 0
  size_from n (i ∷ is) = size_at n i + size_from (suc n) is

  -- behind what the function begins with a jump to the entry stands, unless the entry is the last node
  abbrev pub begin_size : ℕ
  begin_size = length begin + (if c.entry + 1 == length c.code then 0 else 1)

  -- the place of a node: behind all higher ones
  unfoldable pub place_of : (node : ℕ) → ℕ
  place_of n = begin_size + size_from (suc n) (drop (suc n) c.code)

  abbrev pub laid_from : (node : ℕ) → List Instruction → List FlatInstruction
  laid_from n [] = []
  laid_from n (i ∷ is) =
      laid_from (suc n) is
      ++ (put i ++ jumps c place_of n (place_of n + length (put i)) (successors i))

  abbrev pub begin_code : List FlatInstruction
  begin_code =
      begin ++ (if c.entry + 1 == length c.code then [] else jump (length begin) (place_of c.entry) ∷ [])

  abbrev pub body_of : List FlatInstruction
  body_of = begin_code ++ laid_from 0 c.code

-- ---- programs of integers

-- the function, with homes of its virtual registers
abbrev pub function_of : OperatorCode → MapSizes → Tac → CodeFunction → (homes : List ℕ) → FlatFunction
function_of o m t c homes = record {
  parameters = words_in c.parameters;
  results = 1;
  room = c.room;
  is_runtime = false;
  homes = homes;
  body = body_of (block o m t c) (prologue c) c;
}

abbrev pub functions_of : OperatorCode → MapSizes → Tac → (homes : CodeFunction → List ℕ) → List CodeFunction
    → List FlatFunction
functions_of o m t homes [] = []
functions_of o m t homes (c ∷ cs) = function_of o m t c (homes c) ∷ functions_of o m t homes cs

-- the function with which a run begins has one virtual register
abbrev pub entry_of : MapSizes → Tac → FlatFunction
entry_of m t = record {
  parameters = 0;
  results = 0;
  room = 16;
  is_runtime = true;
  homes = 0 ∷ [];
  body = entry_code m t;
}

-- the place of each node of each function
abbrev pub place_in : OperatorCode → MapSizes → Tac → Option CodeFunction → (node : ℕ) → ℕ
place_in o m t None n = 0
place_in o m t (Some c) n = place_of (block o m t c) (prologue c) c n

abbrev pub address_of : OperatorCode → MapSizes → Tac → (function node : ℕ) → ℕ
address_of o m t u n = place_in o m t (slice_get t.functions u) n

abbrev pub program_of : OperatorCode → MapSizes → Tac → (homes : CodeFunction → List ℕ) → FlatProgram
program_of o m t homes = record {
  functions = functions_of o m t homes t.functions ++ (entry_of m t ∷ []);
  entry = length t.functions;
}
