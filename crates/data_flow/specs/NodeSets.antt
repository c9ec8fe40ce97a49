-- Sets of nodes that are emptied at once.
use Rattle.std.specs.Prelude.{◌≡◌, ℕ, ◌+◌, ◌⊎◌, List, [], ◌∷◌, Bool, true, if◌then◌else◌, nat_eq}
use Rattle.std.specs.Prelude.{slice_index, slice_get, Some, length}
use Rattle.data_flow.specs.declared.node_set.NodeSet.{NodeSet}
use Rattle.data_flow.specs.Relations.{Has}

-- whether a node is in the set
abbrev pub is_in : NodeSet → ℕ → Bool
is_in s v = nat_eq (slice_index s.stamps.items v) s.current

-- how many nodes there are
abbrev pub node_count : NodeSet → ℕ
node_count s = length s.stamps.items

abbrev pub others : (current : ℕ) → List ℕ → ℕ
others c [] = 0
others c (x ∷ xs) = (if nat_eq x c then 0 else 1) + others c xs

-- how many nodes are not in the set
abbrev pub absent : NodeSet → ℕ
absent s = others s.current s.stamps.items

-- the list has the nodes of the set and no others
pub record Lists (s : NodeSet) (nodes : List ℕ) : Type 0 where
  pub listed : (k v : ℕ) → slice_get nodes k ≡ Some v → is_in s v ≡ true
  pub all : (v : ℕ) → is_in s v ≡ true → Has nodes v

-- One node is visited: it comes to the set and to the end of its list, unless it is there.
pub record Visits (before after : NodeSet) (nodes nodes' : List ℕ) (visit : ℕ) : Type 0 where
  pub lists : Lists after nodes'
  pub kept : (k x : ℕ) → slice_get nodes k ≡ Some x → slice_get nodes' k ≡ Some x
  pub has : Has nodes' visit
  pub new : (k x : ℕ) → slice_get nodes' k ≡ Some x → (slice_get nodes k ≡ Some x) ⊎ (x ≡ visit)
  pub total : absent after + length nodes' ≡ absent before + length nodes
