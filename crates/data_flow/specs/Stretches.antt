-- Stretches of nodes, which a fact that comes to their last node fills, and which it leaves by their first alone, but
-- for what is behind the last.
use Rattle.std.specs.Prelude.{◌≡◌, ℕ, ◌<◌, ◌≤◌, List, Option, Some, slice_get}
use Rattle.data_flow.specs.declared.relation.Relation.{Relation}
use Rattle.data_flow.specs.declared.runs.Run.{Run}
use Rattle.data_flow.specs.declared.stretches.Starts.{Starts}
use Rattle.data_flow.specs.declared.stretches.Stretches.{Stretches}
use Rattle.data_flow.specs.declared.cover.Cover.{Cover}
use Rattle.data_flow.specs.Relations.{IsRelated}

-- the nodes to which a fact flows from the last of some nodes, all the way within them
pub data FlowsWithin (edges : Relation) (first last : ℕ) : ℕ → Type 0 where
  Ends : (v : ℕ) → v ≡ last → FlowsWithin edges first last v
  Goes : (u v : ℕ) → FlowsWithin edges first last u → IsRelated edges u v → first ≤ v → v < last
      → FlowsWithin edges first last v

-- a fact flows from the last of the nodes to each within them, and from those behind the first to none before it
pub record IsStretch (edges : Relation) (first last : ℕ) : Type 0 where
  pub forward : first ≤ last
  pub flows : (v : ℕ) → first ≤ v → v ≤ last → FlowsWithin edges first last v
  pub enters : (u v : ℕ) → first < u → u ≤ last → IsRelated edges u v → first ≤ v

-- from the nodes behind one and up to another no edge leads behind this
pub record IsInner (edges : Relation) (first last : ℕ) : Type 0 where
  pub within : first ≤ last
  pub stays : (u v : ℕ) → first < u → u ≤ last → IsRelated edges u v → v ≤ last

-- where stretches begin that end with a node
pub record AreStarts (edges : Relation) (starts : Starts) (node : ℕ) : Type 0 where
  pub nearest : IsStretch edges starts.nearest node
  pub skip : IsStretch edges starts.skip node
  pub inner : IsInner edges starts.inner node

-- of the nodes of a list
pub record AreStretches (edges : Relation) (stretches : Stretches) : Type 0 where
  pub each : (v : ℕ) (s : Starts) → slice_get stretches.starts.items v ≡ Some s → AreStarts edges s v

-- the nodes between which all lie to which edges lead from each node
pub record HaveBounds (edges : Relation) (bounds : List Run) : Type 0 where
  pub least : (u v : ℕ) (b : Run) → slice_get bounds u ≡ Some b → IsRelated edges u v → b.first ≤ v
  pub greatest : (u v : ℕ) (b : Run) → slice_get bounds u ≡ Some b → IsRelated edges u v → v ≤ b.last

-- for some nodes a node from which an edge leads to them
pub record HaveSources (edges : Relation) (sources : List (Option ℕ)) : Type 0 where
  pub each : (u v : ℕ) → slice_get sources v ≡ Some (Some u) → IsRelated edges u v

-- the nodes from one to another, to which a fact flows from this, and from which no edge leads before a third
pub record IsCover (edges : Relation) (node : ℕ) (cover : Cover) : Type 0 where
  pub low : cover.low < cover.first
  pub forward : cover.first ≤ node
  pub flows : (v : ℕ) → cover.first ≤ v → v ≤ node → FlowsWithin edges cover.low node v
  pub enters : (u v : ℕ) → cover.first ≤ u → u ≤ node → IsRelated edges u v → cover.low ≤ v
