-- Lists of nodes that grow.
use Rattle.std.proofs.Common.{◌≡◌, ⊎_elim, ℕ, ◌+◌, ◌<◌, ◌≤◌, List, length, Some, Vec, refl, sym, ap}
use Rattle.std.proofs.Common.{◌∙◌, subst, arith, get_or}
use Rattle.std.specs.Prelude.{slice_get}
use Rattle.std.specs.Global.{Global}
use Rattle.std.proofs.lemmas.Bool.{cases_lt}
use Rattle.std.proofs.lemmas.Option.{slice_get_within, slice_get-get_or}
use Rattle.data_flow.specs.declared.node_set.NodeSet.{NodeSet}
use Rattle.data_flow.specs.Relations.{Has}
use Rattle.data_flow.specs.NodeSets.{node_count, Visits}
use Rattle.check_elim.specs.declared.worklist.Worklist.{Worklist}
use Rattle.check_elim.specs.Worklists.{IsWorklist, Grows}

pub put_list : (count : ℕ) (set set' : NodeSet) (nodes nodes' : Vec ℕ Global) (node : ℕ)
    → IsWorklist count (record { set = set; nodes = nodes }) → node < count
    → Visits set set' nodes.items nodes'.items node → node_count set' ≡ node_count set
    → IsWorklist count (record { set = set'; nodes = nodes' })
put_list count set set' nodes nodes' node list below visits same = record {
  size = same ∙ list.size;
  lists = visits.lists;
  inside = λ v h. ⊎_elim (λ old. list.inside v (h.0, old)) (λ e. subst (λ z. z < count) (sym e) below)
      (visits.new h.0 v h.1);
}

pub grows_none : (w : Worklist) → Grows w w
grows_none w = record { kept = λ k v e. e; total = refl }

pub grows_then : {a b c : Worklist} → Grows a b → Grows b c → Grows a c
grows_then g h = record { kept = λ k v e. h.kept k v (g.kept k v e); total = h.total ∙ g.total }

pub has_more : {a b : Worklist} → Grows a b → (v : ℕ) → Has a.nodes.items v → Has b.nodes.items v
has_more g v h = (h.0, g.kept h.0 v h.1)

-- one number more of a list
pub one_more : (P : ℕ → Type 0) (xs : List ℕ) (n x : ℕ) → slice_get xs n ≡ Some x
    → ((k v : ℕ) → k < n → slice_get xs k ≡ Some v → P v) → P x → (k v : ℕ) → k < n + 1 → slice_get xs k ≡ Some v → P v
one_more P xs n x is old new k v lt h = ⊎_elim (λ below. old k v below h)
    (λ above.
    let same : k ≡ n = omega (arith, above, lt) in
    let e : x ≡ v = by k same h in
    subst P e new) (cases_lt k n)
  where
    by : (k : ℕ) → k ≡ n → slice_get xs k ≡ Some v → x ≡ v
    by k same h =
        let at : slice_get xs n ≡ Some v = ap (slice_get xs) (sym same) ∙ h in
        cc

-- all numbers of a list by their places
pub all_done : (P : ℕ → Type 0) (xs : List ℕ) (n : ℕ) → length xs ≤ n
    → ((k v : ℕ) → k < n → slice_get xs k ≡ Some v → P v) → (v : ℕ) → Has xs v → P v
all_done P xs n le h v q = h q.0 v (let l = slice_get_within xs q.0 v q.1 in omega (arith, l, le)) q.1

-- what holds of the first nodes of a list holds of those of a longer one
pub done_on : {a b : Worklist} (P Q : ℕ → Type 0) (n : ℕ) → n < length a.nodes.items → Grows a b
    → ((v : ℕ) → P v → Q v) → ((k v : ℕ) → k < n → slice_get a.nodes.items k ≡ Some v → P v) → (k v : ℕ) → k < n
    → slice_get b.nodes.items k ≡ Some v → Q v
done_on {a = a} {b = b} P Q n below g on old k v lt h =
    let is : slice_get a.nodes.items k ≡ Some (get_or a.nodes.items k 0) =
    slice_get-get_or a.nodes.items k 0 (omega (arith, lt, below)) in
    let there : slice_get b.nodes.items k ≡ Some (get_or a.nodes.items k 0) =
    g.kept k (get_or a.nodes.items k 0) is in
    let same : get_or a.nodes.items k 0 ≡ v = cc in
    on v (old k v lt (is ∙ ap Some same))

pub node_at : (xs : List ℕ) (k x : ℕ) → k < length xs → x ≡ get_or xs k x → slice_get xs k ≡ Some x
node_at xs k x lt e = slice_get-get_or xs k x lt ∙ ap Some (sym e)
