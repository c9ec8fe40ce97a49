-- The search of a fact back from a node.
use Rattle.std.proofs.Common.{◌≡◌, ◌⊎◌, inl, inr, ⊎_elim, ℕ, ◌<◌, [], length, Some}
use Rattle.std.proofs.Common.{true, refl, sym, ap, ◌∙◌, subst}
use Rattle.std.specs.Prelude.{slice_get}
use Rattle.std.proofs.lemmas.Bool.{false≢true}
use Rattle.std.proofs.lemmas.Option.{slice_get_within}
use Rattle.data_flow.specs.declared.relation.Relation.{Relation}
use Rattle.data_flow.specs.Relations.{IsRelated}
use Rattle.tac_ir.specs.declared.instruction.Instruction.{Instruction}
use Rattle.tac_ir.specs.declared.function.CodeFunction.{CodeFunction}
use Rattle.tac_ir.specs.Edges.{LeadsTo}
use Rattle.check_elim.specs.Facts.{Fact, Checks, ends}
use Rattle.check_elim.specs.Available.{IsOpen, Begins, Stops, Flows}
use Rattle.check_elim.specs.Searches.{Listed, HasPredecessors, IsSearching, IsSeen, IsDone}
use Rattle.check_elim.specs.Seeking.{RoleIs}
use Rattle.check_elim.specs.Worklists.{IsWorklist, Grows, Puts}
use Rattle.check_elim.specs.declared.facts.Role.{Role}
use Rattle.check_elim.specs.declared.facts.Role.TheVariants.{Passing}
use Rattle.check_elim.specs.declared.worklist.Worklist.{Worklist}
use Rattle.check_elim.proofs.Complement.{path_to}
use Rattle.check_elim.proofs.Worklists.{has_more}

-- what is new is the node that was visited
pub visited_new : (function : CodeFunction) (f : Fact) (w w' : Worklist) (node : ℕ) (j : Instruction) (r : Role)
    → Puts w w' node → slice_get function.code node ≡ Some j → RoleIs function f j r → r ≡ Passing → (v : ℕ)
    → Listed w' v
    → Listed w v ⊎ ((v ≡ node) × ((i : Instruction) → slice_get function.code node ≡ Some i → Checks function f i → ⊥))
visited_new function f w w' node j r puts has role is v h =
    ⊎_elim (λ old. inl old)
    (λ e. inr (
      e,
      λ i at.
          let same : j ≡ i = cc in
          subst (λ x. Checks function f x → ⊥) same (subst (RoleIs function f j) is role).0,
    ))
    (puts.new v h)

module _ (function : CodeFunction) (f : Fact) (before : Relation) (graph : HasPredecessors function before) (node : ℕ)
  where
    -- the search goes on from a node that leads to a visited one
    pub searching_on : (w w' : Worklist) (v u : ℕ) → IsSearching function f node w → Listed w v → IsRelated before v u
        → IsWorklist (length function.code) w' → Grows w w'
        → ((x : ℕ) → Listed w' x → Listed w x
        ⊎ ((x ≡ u) × ((i : Instruction) → slice_get function.code u ≡ Some i → Checks function f i → ⊥)))
        → IsSearching function f node w'
    searching_on w w' v u search here edge list grows new = record {
      list = list;
      first = has_more grows node search.first;
      leads = λ x h o. ⊎_elim (λ old. search.leads x old o)
          (λ q.
          let g = graph.only v u edge in
          search.leads v here (Flows u v g.0 (subst (IsOpen function f) q.0 o) g.2 g.3 (q.1 g.0 g.2)))
          (new x h);
    }

    -- where the fact ends it is open
    pub found_open : (w : Worklist) (v u : ℕ) → IsSearching function f node w → Listed w v → IsRelated before v u
        → (i : Instruction) → slice_get function.code u ≡ Some i → (Checks function f i → ⊥) → ends function f i ≡ true
        → IsOpen function f node
    found_open w v u search here edge i has none e =
        let g = graph.only v u edge in
        let same : g.0 ≡ i = by g.0 g.2 in
        search.leads v here (Stops u v i g.1 has (subst (λ x. LeadsTo x v) same g.3) e none)
      where
        by : (j : Instruction) → slice_get function.code u ≡ Some j → j ≡ i
        by j at = cc

    pub inside : (v u : ℕ) → IsRelated before v u → u < length function.code
    inside v u edge = let g = graph.only v u edge in slice_get_within function.code u g.0 g.2

    pub at_entry : (w : Worklist) (v : ℕ) → IsSearching function f node w → Listed w v → v ≡ function.entry
        → IsOpen function f node
    at_entry w v search here e = search.leads v here (subst (IsOpen function f) (sym e) Begins)

    -- and where all is seen and nothing was found, it is not
    pub none_open : (w : Worklist) → IsSearching function f node w
        → ((v : ℕ) → Listed w v → IsDone function f w v) → IsOpen function f node → ⊥
    none_open w search all o = by node search.first o
      where
        by : (v : ℕ) → Listed w v → IsOpen function f v → ⊥
        by _ h Begins = (all function.entry h).inner refl
        by _ h (Stops k v i p has to e none) =
            ⊎_elim none (λ q. false≢true (sym q.1 ∙ e)) ((all v h).before k i p has to)
        by _ h (Flows k v i o has to none) =
            ⊎_elim none (λ q. by k q.2 o) ((all v h).before k i (path_to function f k o) has to)

-- what was found stays found

pub seen_more : {a b : Worklist} (function : CodeFunction) (f : Fact) (n : ℕ) (i : Instruction) → Grows a b
    → IsSeen function f a n i → IsSeen function f b n i
seen_more function f n i g (inl c) = inl c
seen_more function f n i g (inr q) = inr (q.0, q.1, has_more g n q.2)

pub done_more : {a b : Worklist} (function : CodeFunction) (f : Fact) (v : ℕ) → Grows a b → IsDone function f a v
    → IsDone function f b v
done_more function f v g d = record
    { inner = d.inner; before = λ n i p has to. seen_more function f n i g (d.before n i p has to) }

-- the search begins with one node
pub searching_begins : (function : CodeFunction) (f : Fact) (node : ℕ) (w w' : Worklist) → w.nodes.items ≡ []
    → IsWorklist (length function.code) w' → Puts w w' node → IsSearching function f node w'
searching_begins function f node w w' none list puts = record {
  list = list;
  first = puts.has;
  leads = λ v h o. subst (IsOpen function f) (only v h) o;
}
  where
    only : (v : ℕ) → Listed w' v → v ≡ node
    only v h = ⊎_elim
        (λ old. let e : slice_get [] old.0 ≡ Some v = ap (λ xs. slice_get xs old.0) (sym none) ∙ old.1 in absurd cc)
        (λ e. e) (puts.new v h)
