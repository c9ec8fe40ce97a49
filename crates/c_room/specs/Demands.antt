-- What expressions demand of the room of a call: their height and the bytes of the structures that they pass, from the
-- operands up.
use Rattle.std.specs.Prelude.{◌≡◌, ℕ, ◌+◌, List, [], ◌∷◌, Option, Some, None}
use Rattle.c_tree.specs.Tree.{Expression, binary, offset_by, difference, assign, assign_plain, compound, change_plain}
use Rattle.c_tree.specs.Tree.{call, call_through, library, printf, index}
use Rattle.c_tree.specs.Walk.{Visited, visited, visited_lvalue, walk, sum_of}
use Rattle.c_tree.specs.Room.{bytes_of_call}
use Rattle.c_room.specs.declared.demand.Demand.{Demand}
use Rattle.c_room.specs.declared.demand.InTurn.{InTurn}
use Rattle.c_room.specs.Numbers.{fitting, plus, greater}

-- a demand that is of so many values at once and so many bytes of structures
pub record IsDemand (demand : Demand) (needed bytes : ℕ) : Type 0 where
  pub height : demand.height ≡ fitting needed
  pub passed : demand.passed ≡ fitting bytes

-- of no expression
abbrev pub nothing : Demand
nothing = record { height = Some 0; passed = Some 0 }

-- of a value that takes so many bytes of structures
unfoldable pub value : (bytes : ℕ) → Demand
value bytes = record { height = Some 1; passed = fitting bytes }

-- of two of which one at a time is evaluated
unfoldable pub beside : Demand → Demand → Demand
beside d e = record { height = greater d.height e.height; passed = plus d.passed e.passed }

abbrev pub all_beside : Demand → List Demand → Demand
all_beside d [] = d
all_beside d (e ∷ es) = all_beside (beside d e) es

-- of operands that come in turn, each of which is kept: of none so far, where so many values are kept and the node
-- takes so many bytes
unfoldable pub start : (kept bytes : ℕ) → InTurn
start kept bytes = record { kept = Some kept; demand = value bytes }

unfoldable pub next : InTurn → Demand → InTurn
next t d = record {
  kept = plus t.kept (Some 1);
  demand = record { height = greater t.demand.height (plus t.kept d.height); passed = plus t.demand.passed d.passed };
}

abbrev pub all_next : InTurn → List Demand → InTurn
all_next t [] = t
all_next t (d ∷ ds) = all_next (next t d) ds

-- how many values are kept when the first operand comes, where operands come in turn
abbrev pub kept_first : Visited → Option ℕ
kept_first (visited kind (binary op a b)) = Some 0
kept_first (visited kind (offset_by form size a b)) = Some 0
kept_first (visited kind (difference size a b)) = Some 0
kept_first (visited kind (assign p e)) = Some 0
kept_first (visited kind (assign_plain x e)) = Some 1
kept_first (visited kind (compound u p e)) = Some 0
kept_first (visited kind (change_plain u x e)) = Some 1
kept_first (visited kind (call f es)) = Some 0
kept_first (visited kind (call_through type e es)) = Some 0
kept_first (visited kind (library routine es)) = Some 0
kept_first (visited kind (printf format es)) = Some 1
kept_first (visited_lvalue kind (index form size a b)) = Some 0
kept_first v = None

abbrev pub demand_by : (kept : Option ℕ) → (bytes : ℕ) → List Demand → Demand
demand_by None bytes ds = all_beside (value bytes) ds
demand_by (Some kept) bytes ds = (all_next (start kept bytes) ds).demand

abbrev pub demand_made : Visited → List Demand → Demand
demand_made v ds = demand_by (kept_first v) (bytes_of_call v) ds

abbrev pub demand : Expression → Demand
demand = walk demand_made

-- the bytes of structures that a node takes, with those of its operands
abbrev pub passed_made : Visited → List ℕ → ℕ
passed_made v bs = bytes_of_call v + sum_of bs
