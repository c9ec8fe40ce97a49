-- Runs of nodes: stretches that a fact fills and leaves by their first nodes alone.
use Rattle.std.specs.Prelude.{◌≡◌, ℕ, ◌+◌, ◌<◌, ◌≤◌, List, length, Bool, true, ◌&&◌, nat_le, Option, Some}
use Rattle.std.specs.Prelude.{None, slice_get}
use Rattle.std.specs.List.{list_any}
use Rattle.data_flow.specs.declared.node_set.NodeSet.{NodeSet}
use Rattle.data_flow.specs.declared.relation.Relation.{Relation}
use Rattle.data_flow.specs.declared.runs.Run.{Run}
use Rattle.data_flow.specs.Relations.{Has, IsRelated}
use Rattle.data_flow.specs.NodeSets.{Lists, absent}
use Rattle.data_flow.specs.Reached.{IsReached}
use Rattle.data_flow.specs.Stretches.{IsStretch}

-- whether a run has a node, and whether one of a list has it
abbrev pub in_run : Run → ℕ → Bool
in_run r v = nat_le r.first v && nat_le v r.last

abbrev pub is_covered : List Run → ℕ → Bool
is_covered runs v = list_any (λ r. in_run r v) runs

-- A stretch from whose nodes behind the first no edge leads behind the last: a fact that comes to the last fills the run
-- and leaves it by the first alone.
pub record IsRun (edges : Relation) (first last : ℕ) : Type 0 where
  pub stretch : IsStretch edges first last
  pub stays : (u v : ℕ) → first < u → u ≤ last → IsRelated edges u v → v ≤ last

-- the greatest number of a list that is below another
abbrev pub IsLastBelow : List ℕ → ℕ → Option ℕ → Type 0
IsLastBelow xs n None = (k : ℕ) → Has xs k → k < n → ⊥
IsLastBelow xs n (Some x) = (x < n) × ((k : ℕ) → Has xs k → k < n → k ≤ x)

-- a fact reaches all nodes of a run, whose first is in a list
pub record IsFound (edges : Relation) (generated killed firsts : List ℕ) (r : Run) : Type 0 where
  pub run : IsRun edges r.first r.last
  pub reached : (v : ℕ) → r.first ≤ v → v ≤ r.last → IsReached edges generated killed v
  pub begins : Has firsts r.first

-- so of all runs so far, of which the set and a list have the first nodes
pub record AreFound (edges : Relation) (generated killed : List ℕ) (begun : NodeSet) (firsts : List ℕ)
    (runs : List Run) : Type 0 where
  pub lists : Lists begun firsts
  pub reached : (k v : ℕ) → slice_get firsts k ≡ Some v → IsReached edges generated killed v
  pub found : (k : ℕ) (r : Run) → slice_get runs k ≡ Some r → IsFound edges generated killed firsts r

-- first nodes and runs are only added
pub record Grows (begun begun' : NodeSet) (firsts firsts' : List ℕ) (runs runs' : List Run) : Type 0 where
  pub kept : (k v : ℕ) → slice_get firsts k ≡ Some v → slice_get firsts' k ≡ Some v
  pub covered : (v : ℕ) → is_covered runs v ≡ true → is_covered runs' v ≡ true
  pub total : absent begun' + length firsts' ≡ absent begun + length firsts
