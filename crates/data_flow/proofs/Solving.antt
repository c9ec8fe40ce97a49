-- The worklist: what holds between two runs.
use Rattle.std.proofs.Common.{◌≡◌, ℕ, zero, suc, ◌+◌, ◌<◌, ◌≤◌, ⊎_elim, List, [], ◌∷◌, ◌++◌, length, Some, None}
use Rattle.std.proofs.Common.{Bool, true, false, ◌&&◌, ◌||◌, refl, sym, ap, ◌∙◌, subst, arith, true≢false}
use Rattle.std.specs.Prelude.{slice_get, nat_le}
use Rattle.std.proofs.lemmas.Bool.{cases_lt, le-leb, leb-true}
use Rattle.std.proofs.lemmas.List.Folds.{list_any-append}
use Rattle.std.proofs.lemmas.Option.{slice_get_within}
use Rattle.data_flow.specs.declared.node_set.NodeSet.{NodeSet}
use Rattle.data_flow.specs.declared.relation.Relation.{Relation}
use Rattle.data_flow.specs.declared.runs.Run.{Run}
use Rattle.data_flow.specs.Relations.{Has, IsRelated, images}
use Rattle.data_flow.specs.NodeSets.{is_in, Visits}
use Rattle.data_flow.specs.Reached.{IsReached, Begins, Flows}
use Rattle.data_flow.specs.Runs.{in_run, is_covered, IsRun, IsFound, AreFound, Grows}
use Rattle.data_flow.specs.Stretches.{FlowsWithin, Ends, Goes}
use Rattle.data_flow.proofs.Lists.{at_cases}
use Rattle.data_flow.proofs.Visits.{cases_of}

-- ---- nodes of runs

pub or_left : (a b : Bool) → a ≡ true → (a || b) ≡ true
or_left true b h = refl
or_left false b h = absurd (true≢false (sym h))

pub or_right : (a b : Bool) → b ≡ true → (a || b) ≡ true
or_right true b h = refl
or_right false b h = h

pub in_between : (r : Run) (v : ℕ) → r.first ≤ v → v ≤ r.last → in_run r v ≡ true
in_between r v low high = rw (le-leb r.first v low, le-leb v r.last high) refl

pub between : (r : Run) (v : ℕ) → in_run r v ≡ true → (r.first ≤ v) × (v ≤ r.last)
between r v h = by (nat_le r.first v) (nat_le v r.last) refl refl h
  where
    by : (a b : Bool) → nat_le r.first v ≡ a → nat_le v r.last ≡ b → (a && b) ≡ true → (r.first ≤ v) × (v ≤ r.last)
    by true true e f h = (leb-true r.first v e, leb-true v r.last f)
    by true false e f h = absurd (true≢false (sym h))
    by false b e f h = absurd (true≢false (sym h))

pub covered_at : (runs : List Run) (k v : ℕ) (r : Run) → slice_get runs k ≡ Some r → r.first ≤ v → v ≤ r.last
    → is_covered runs v ≡ true
covered_at [] k v r h low high = let w : ⊥ = cc in absurd w
covered_at (x ∷ xs) zero v r h low high =
    let e : x ≡ r = cc in
    or_left (in_run x v) (is_covered xs v) (subst (λ y. in_run y v ≡ true) (sym e) (in_between r v low high))
covered_at (x ∷ xs) (suc k) v r h low high =
    or_right (in_run x v) (is_covered xs v) (covered_at xs k v r h low high)

pub covered_by : (runs : List Run) (v : ℕ) → is_covered runs v ≡ true
    → (k : ℕ) × (r : Run) × (slice_get runs k ≡ Some r) × (r.first ≤ v) × (v ≤ r.last)
covered_by [] v h = absurd (true≢false (sym h))
covered_by (x ∷ xs) v h = by (in_run x v) refl h (λ g. covered_by xs v g)
  where
    by : (a : Bool) → in_run x v ≡ a → (a || is_covered xs v) ≡ true
        → (is_covered xs v ≡ true → (k : ℕ) × (r : Run) × (slice_get xs k ≡ Some r) × (r.first ≤ v) × (v ≤ r.last))
        → (k : ℕ) × (r : Run) × (slice_get (x ∷ xs) k ≡ Some r) × (r.first ≤ v) × (v ≤ r.last)
    by true e h rest = let b = between x v e in (0, x, refl, b.0, b.1)
    by false e h rest = let o = rest h in (suc o.0, o.1, o.2, o.3, o.4)

-- ---- a run more

pub covered_old : (runs runs' : List Run) (r : Run) → runs' ≡ runs ++ r ∷ [] → (v : ℕ) → is_covered runs v ≡ true
    → is_covered runs' v ≡ true
covered_old runs runs' r e v h =
    ap (λ xs. is_covered xs v) e ∙ list_any-append (λ x. in_run x v) runs (r ∷ [])
    ∙ or_left (is_covered runs v) (is_covered (r ∷ []) v) h

pub covered_new : (runs runs' : List Run) (r : Run) → runs' ≡ runs ++ r ∷ [] → (v : ℕ) → r.first ≤ v → v ≤ r.last
    → is_covered runs' v ≡ true
covered_new runs runs' r e v low high =
    ap (λ xs. is_covered xs v) e ∙ list_any-append (λ x. in_run x v) runs (r ∷ [])
    ∙ or_right (is_covered runs v) (is_covered (r ∷ []) v)
    (or_left (in_run r v) false (in_between r v low high))

-- a fact that reaches the last node of a stretch reaches the others, where none of them is killed
pub reached_back : (edges : Relation) (generated killed : List ℕ) (first last : ℕ)
    → ((k : ℕ) → first ≤ k → k < last → Has killed k → ⊥) → IsReached edges generated killed last → (v : ℕ)
    → FlowsWithin edges first last v → IsReached edges generated killed v
reached_back edges generated killed first last free h v (Ends _ e) = subst (IsReached edges generated killed) (sym e) h
reached_back edges generated killed first last free h v (Goes u _ f r low lt) =
    Flows u v (reached_back edges generated killed first last free h u f) r (free v low lt)

pub found_more : (edges : Relation) (generated killed : List ℕ) (s s' : NodeSet) (firsts firsts' : List ℕ)
    (runs runs' : List Run) (first last : ℕ) → AreFound edges generated killed s firsts runs
    → Visits s s' firsts firsts' first → runs' ≡ runs ++ (record { first = first; last = last }) ∷ []
    → IsRun edges first last → ((k : ℕ) → first ≤ k → k < last → Has killed k → ⊥)
    → IsReached edges generated killed last → AreFound edges generated killed s' firsts' runs'
found_more edges generated killed s s' firsts firsts' runs runs' first last a visits e run free h =
    let all : (v : ℕ) → first ≤ v → v ≤ last → IsReached edges generated killed v
    = λ v low high. reached_back edges generated killed first last free h v (run.stretch.flows v low high) in
    record {
      lists = visits.lists;
      reached = λ k v q. ⊎_elim
          (λ old. a.reached k v old)
          (λ new. subst (IsReached edges generated killed) (sym new) (all first (omega arith) run.stretch.forward))
          (visits.new k v q);
      found = λ k r q. ⊎_elim
          (λ old. let f = a.found k r old in record {
            run = f.run;
            reached = f.reached;
            begins = let o = f.begins in (o.0, visits.kept o.0 r.first o.1);
          })
          (λ new. subst (IsFound edges generated killed firsts') (sym new) (record {
            run = run;
            reached = all;
            begins = visits.has;
          }))
          (at_cases runs (record { first = first; last = last }) k r (ap (λ xs. slice_get xs k) (sym e) ∙ q));
    }

pub found_none : (edges : Relation) (generated killed : List ℕ) (s : NodeSet) (firsts : List ℕ) (runs : List Run)
    → firsts ≡ [] → runs ≡ [] → ((v : ℕ) → is_in s v ≡ false) → AreFound edges generated killed s firsts runs
found_none edges generated killed s firsts runs e e' empty = record {
  lists = record {
    listed = λ k v h. let w : ⊥ = none v (sym h ∙ ap (λ xs. slice_get xs k) e) in absurd w;
    all = λ v h. absurd (true≢false (sym h ∙ empty v));
  };
  reached = λ k v h. let w : ⊥ = none v (sym h ∙ ap (λ xs. slice_get xs k) e) in absurd w;
  found = λ k r h. let w : ⊥ = none r (sym h ∙ ap (λ xs. slice_get xs k) e') in absurd w;
}
  where
    none : {X : Type 0} (x : X) → Some x ≡ None → ⊥
    none x h = cc

pub grows_more : (s s' : NodeSet) (firsts firsts' : List ℕ) (runs runs' : List Run) (r : Run) (first : ℕ)
    → Visits s s' firsts firsts' first → runs' ≡ runs ++ r ∷ [] → Grows s s' firsts firsts' runs runs'
grows_more s s' firsts firsts' runs runs' r first visits e = record {
  kept = visits.kept;
  covered = covered_old runs runs' r e;
  total = visits.total;
}

pub grows_none : (s : NodeSet) (firsts : List ℕ) (runs : List Run) → Grows s s firsts firsts runs runs
grows_none s firsts runs = record { kept = λ k v h. h; covered = λ v h. h; total = refl }

pub grows_on : (s s' s'' : NodeSet) (firsts firsts' firsts'' : List ℕ) (runs runs' runs'' : List Run)
    → Grows s s' firsts firsts' runs runs' → Grows s' s'' firsts' firsts'' runs' runs''
    → Grows s s'' firsts firsts'' runs runs''
grows_on s s' s'' firsts firsts' firsts'' runs runs' runs'' a b = record {
  kept = λ k v h. b.kept k v (a.kept k v h);
  covered = λ v h. b.covered v (a.covered v h);
  total = b.total ∙ a.total;
}

-- the nodes behind one more are covered, and that one
pub covered_more : (nodes : List ℕ) (but : NodeSet) (runs runs' : List Run) (i node : ℕ)
    → slice_get nodes i ≡ Some node
    → ((k v : ℕ) → i + 1 ≤ k → slice_get nodes k ≡ Some v → is_in but v ≡ false → is_covered runs v ≡ true)
    → ((v : ℕ) → is_covered runs v ≡ true → is_covered runs' v ≡ true)
    → (is_in but node ≡ false → is_covered runs' node ≡ true) → (k v : ℕ) → i ≤ k → slice_get nodes k ≡ Some v
    → is_in but v ≡ false → is_covered runs' v ≡ true
covered_more nodes but runs runs' i node here old grows new k v le h f = ⊎_elim
    (λ behind. grows v (old k v (omega (arith, behind)) h f))
    (λ upto. let same : k ≡ i = omega (arith, upto, le) in
    let q : Some node ≡ Some v = sym here ∙ ap (slice_get nodes) (sym same) ∙ h in
    let e : v ≡ node = cc in
    subst (λ x. is_covered runs' x ≡ true) (sym e) (new (subst (λ x. is_in but x ≡ false) e f)))
    (cases_lt i k)

-- ---- the worklist

-- what is killed is in the set, and nothing else
pub record Kills (killed : List ℕ) (s : NodeSet) : Type 0 where
  pub has : (v : ℕ) → Has killed v → is_in s v ≡ true
  pub only : (v : ℕ) → is_in s v ≡ true → Has killed v

-- the runs so far are reached; the edges of the first nodes, of the first so many, lead to no other nodes
pub record Solving (edges : Relation) (generated killed : List ℕ) (killing s : NodeSet) (firsts : List ℕ)
    (runs : List Run) (done : ℕ) : Type 0 where
  pub found : AreFound edges generated killed s firsts runs
  pub started : (v : ℕ) → Has generated v → is_covered runs v ≡ true
  pub closed : (k u v : ℕ) → k < done → slice_get firsts k ≡ Some u → IsRelated edges u v → is_in killing v ≡ false
      → is_covered runs v ≡ true
  pub within : done ≤ length firsts

pub solving_begins : (edges : Relation) (generated killed : List ℕ) (none killing s : NodeSet) (firsts : List ℕ)
    (runs : List Run) → ((v : ℕ) → is_in none v ≡ false) → AreFound edges generated killed s firsts runs
    → ((v : ℕ) → Has generated v → is_in none v ≡ false → is_covered runs v ≡ true)
    → Solving edges generated killed killing s firsts runs 0
solving_begins edges generated killed none killing s firsts runs empty a covered = record {
  found = a;
  started = λ v h. covered v h (empty v);
  closed = λ k u v lt h r f. absurd (omega arith);
  within = omega arith;
}

-- an element of the longer list is that of the shorter one, which it keeps
some_at : (xs : List ℕ) (i : ℕ) → i < length xs → (x : ℕ) × (slice_get xs i ≡ Some x)
some_at [] i lt = absurd (omega arith)
some_at (x ∷ xs) zero lt = (x, refl)
some_at (x ∷ xs) (suc i) lt = some_at xs i (omega arith)

pub stays : (xs xs' : List ℕ) → ((k x : ℕ) → slice_get xs k ≡ Some x → slice_get xs' k ≡ Some x) → (k w : ℕ)
    → k < length xs → slice_get xs' k ≡ Some w → slice_get xs k ≡ Some w
stays xs xs' kept k w lt h = let o = some_at xs k lt in o.1 ∙ sym (kept k o.0 o.1) ∙ h

-- the edges of one first node more are followed
pub solving_more : (edges : Relation) (generated killed : List ℕ) (killing s s' : NodeSet) (firsts firsts' : List ℕ)
    (runs runs' : List Run) (done u : ℕ) → Solving edges generated killed killing s firsts runs done
    → slice_get firsts done ≡ Some u → AreFound edges generated killed s' firsts' runs'
    → Grows s s' firsts firsts' runs runs'
    → ((v : ℕ) → Has (images edges u) v → is_in killing v ≡ false → is_covered runs' v ≡ true)
    → Solving edges generated killed killing s' firsts' runs' (done + 1)
solving_more edges generated killed killing s s' firsts firsts' runs runs' done u g here a grows covered = record {
  found = a;
  started = λ v h. grows.covered v (g.started v h);
  closed = λ k w v lt h r f. ⊎_elim
      (λ low. let old : slice_get firsts k
      ≡ Some w = stays firsts firsts' grows.kept k w (omega (arith, g.within)) h in
      grows.covered v (g.closed k w v low old r f))
      (λ high. let same : k ≡ done = omega arith in
      let q : Some u ≡ Some w = sym (grows.kept done u here) ∙ ap (slice_get firsts') (sym same) ∙ h in
      let e : w ≡ u = cc in
      covered v (subst (λ x. IsRelated edges x v) e r) f)
      (cases_lt k done);
  within = let l : done < length firsts' = slice_get_within firsts' done u (grows.kept done u here) in omega arith;
}

-- at the end all nodes are covered that are reached, and no others
pub solved_closed : (edges : Relation) (generated killed : List ℕ) (killing s : NodeSet) (firsts : List ℕ)
    (runs : List Run) (done : ℕ) → Kills killed killing → Solving edges generated killed killing s firsts runs done
    → length firsts ≤ done → (v : ℕ) → IsReached edges generated killed v → is_covered runs v ≡ true
solved_closed edges generated killed killing s firsts runs done kills g le _ (Begins v h) = g.started v h
solved_closed edges generated killed killing s firsts runs done kills g le _ (Flows u v r e n) =
    let o = covered_by runs u (solved_closed edges generated killed killing s firsts runs done kills g le u r) in
    let f = g.found.found o.0 o.1 o.2 in
    ⊎_elim
    (λ inside. covered_at runs o.0 v o.1 o.2 (f.run.stretch.enters u v inside o.4 e) (f.run.stays u v inside o.4 e))
    (λ start. let low = o.3 in
    let same : o.1.first ≡ u = omega (arith, low, start) in
    let b = f.begins in
    ⊎_elim (λ q. absurd (n (kills.only v q)))
    (λ q. g.closed b.0 u v (let l = slice_get_within firsts b.0 o.1.first b.1 in omega (arith, l, le))
    (b.1 ∙ ap Some same) e q)
    (cases_of (is_in killing v)))
    (cases_lt o.1.first u)

pub solved_least : (edges : Relation) (generated killed : List ℕ) (s : NodeSet) (firsts : List ℕ) (runs : List Run)
    → AreFound edges generated killed s firsts runs → (v : ℕ) → is_covered runs v ≡ true
    → IsReached edges generated killed v
solved_least edges generated killed s firsts runs a v h =
    let o = covered_by runs v h in
    let f = a.found o.0 o.1 o.2 in
    f.reached v o.3 o.4
