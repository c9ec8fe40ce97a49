-- The least solution of a data-flow problem: facts are generated at some nodes, flow along edges, and are killed at
-- some.
use Rattle.std.specs.Prelude.{◌≡◌, ℕ, ◌<◌, List, Some, slice_get}
use Rattle.data_flow.specs.declared.relation.Relation.{Relation}
use Rattle.data_flow.specs.Relations.{Has, IsRelated}

-- A fact reaches a node where it is generated, and where an edge leads from a node that it reaches, unless it is killed
-- there.
pub data IsReached (edges : Relation) (generated killed : List ℕ) : ℕ → Type 0 where
  Begins : (v : ℕ) → Has generated v → IsReached edges generated killed v
  Flows : (u v : ℕ) → IsReached edges generated killed u → IsRelated edges u v → (Has killed v → ⊥)
      → IsReached edges generated killed v

-- all numbers of a list are below a bound
abbrev pub AreBelow : ℕ → List ℕ → Type 0
AreBelow n xs = (k x : ℕ) → slice_get xs k ≡ Some x → x < n

-- all edges lead to nodes below a bound
abbrev pub LeadsBelow : ℕ → Relation → Type 0
LeadsBelow n edges = (u v : ℕ) → IsRelated edges u v → v < n
