-- What the searches over the nodes of a function have found so far.
use Rattle.std.specs.Prelude.{◌≡◌, ◌≢◌, ◌⊎◌, ℕ, ◌<◌, List, length, Some, slice_get, false}
use Rattle.data_flow.specs.declared.relation.Relation.{Relation}
use Rattle.data_flow.specs.Relations.{Has, IsRelated}
use Rattle.tac_ir.specs.declared.instruction.Instruction.{Instruction}
use Rattle.tac_ir.specs.declared.function.CodeFunction.{CodeFunction}
use Rattle.tac_ir.specs.Edges.{IsAmong, LeadsTo}
use Rattle.check_elim.specs.Paths.{Path}
use Rattle.check_elim.specs.Facts.{Fact, Checks, ends}
use Rattle.check_elim.specs.Available.{IsOpen}
use Rattle.check_elim.specs.Worklists.{IsWorklist, Grows}
use Rattle.check_elim.specs.declared.worklist.Worklist.{Worklist}

abbrev pub Listed : Worklist → (node : ℕ) → Type 0
Listed w v = Has w.nodes.items v

-- the search forward from the entry

-- from which nodes, to which paths lead, an edge leads to a node
pub record HasPredecessors (function : CodeFunction) (before : Relation) : Type 0 where
  pub has : (n m : ℕ) (i : Instruction) → Path function n → slice_get function.code n ≡ Some i → LeadsTo i m
      → m < length function.code → IsRelated before m n
  pub only : (m n : ℕ) → IsRelated before m n
      → (i : Instruction) × Path function n × (slice_get function.code n ≡ Some i) × LeadsTo i m

-- an instruction leads from a node to some others: those that there are become reached, and are related to it
pub record Follows (count node : ℕ) (nexts : List ℕ) (reached reached' : Worklist) (before before' : Relation) : Type 0
  where
    pub grows : Grows reached reached'
    pub all : (m : ℕ) → IsAmong m nexts → m < count → IsRelated before' m node × Listed reached' m
    pub reaches : (v : ℕ) → Listed reached' v → Listed reached v ⊎ IsAmong v nexts
    pub kept : (m n : ℕ) → IsRelated before m n → IsRelated before' m n
    pub only : (m n : ℕ) → IsRelated before' m n → IsRelated before m n ⊎ (IsAmong m nexts × (n ≡ node))

-- all edges from a node were followed
abbrev pub IsFollowed : CodeFunction → Worklist → Relation → (node : ℕ) → Type 0
IsFollowed function reached before n = (m : ℕ) (i : Instruction) → slice_get function.code n ≡ Some i → LeadsTo i m
    → m < length function.code → IsRelated before m n × Listed reached m

-- paths lead to the nodes that are reached, and edges from them are turned round
pub record IsExploring (function : CodeFunction) (reached : Worklist) (before : Relation) : Type 0 where
  pub list : IsWorklist (length function.code) reached
  pub rows : length before.rows.items ≡ length function.code
  pub paths : (v : ℕ) → Listed reached v → Path function v
  pub only : (m n : ℕ) → IsRelated before m n
      → (i : Instruction) × Path function n × (slice_get function.code n ≡ Some i) × LeadsTo i m

-- the search of one fact back from a node

-- where it is open before a visited node, it is open before the one from which the search began
pub record IsSearching (function : CodeFunction) (f : Fact) (node : ℕ) (visited : Worklist) : Type 0 where
  pub list : IsWorklist (length function.code) visited
  pub leads : (v : ℕ) → Listed visited v → IsOpen function f v → IsOpen function f node
  pub first : Listed visited node

-- an instruction before a node is a check of the fact, or it does not end it and its own node is visited
abbrev pub IsSeen : CodeFunction → Fact → Worklist → (node : ℕ) → Instruction → Type 0
IsSeen function f visited n i =
    Checks function f i ⊎ ((Checks function f i → ⊥) × (ends function f i ≡ false) × Listed visited n)

-- all that comes before a node was seen
pub record IsDone (function : CodeFunction) (f : Fact) (visited : Worklist) (v : ℕ) : Type 0 where
  pub inner : v ≢ function.entry
  pub before : (n : ℕ) (i : Instruction) → Path function n → slice_get function.code n ≡ Some i → LeadsTo i v
      → IsSeen function f visited n i
