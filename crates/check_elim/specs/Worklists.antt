-- Nodes in the order in which they were found, each once.
use Rattle.std.specs.Prelude.{◌≡◌, ◌⊎◌, ℕ, ◌+◌, ◌<◌, length, Some, slice_get}
use Rattle.data_flow.specs.NodeSets.{node_count, absent, Lists}
use Rattle.data_flow.specs.Relations.{Has}
use Rattle.check_elim.specs.declared.worklist.Worklist.{Worklist}

-- the list has the nodes of the set, which are below a count
pub record IsWorklist (count : ℕ) (w : Worklist) : Type 0 where
  pub size : node_count w.set ≡ count
  pub lists : Lists w.set w.nodes.items
  pub inside : (v : ℕ) → Has w.nodes.items v → v < count

-- nodes are only put behind others
pub record Grows (before after : Worklist) : Type 0 where
  pub kept : (k v : ℕ) → slice_get before.nodes.items k ≡ Some v → slice_get after.nodes.items k ≡ Some v
  pub total : absent after.set + length after.nodes.items ≡ absent before.set + length before.nodes.items

pub record Puts (before after : Worklist) (node : ℕ) : Type 0 where
  pub grows : Grows before after
  pub has : Has after.nodes.items node
  pub new : (v : ℕ) → Has after.nodes.items v → Has before.nodes.items v ⊎ (v ≡ node)
