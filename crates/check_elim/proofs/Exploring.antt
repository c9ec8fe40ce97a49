-- The search forward from the entry.
use Rattle.std.proofs.Common.{◌≡◌, ◌≢◌, ◌⊎◌, inl, inr, ⊎_elim, ℕ, ◌<◌, ◌≤◌, List, [], ◌∷◌, ◌++◌, length, Some}
use Rattle.std.proofs.Common.{sym, ap, ◌∙◌, subst, arith, get_or}
use Rattle.std.specs.Prelude.{slice_get}
use Rattle.std.proofs.lemmas.Bool.{cases_eq}
use Rattle.std.proofs.lemmas.Option.{slice_get_within, slice_get-get_or}
use Rattle.data_flow.specs.declared.relation.Relation.{Relation}
use Rattle.data_flow.specs.Relations.{Has, IsRelated, images}
use Rattle.data_flow.proofs.Lists.{at_end, at_cases, at_front}
use Rattle.tac_ir.specs.declared.instruction.Instruction.{Instruction}
use Rattle.tac_ir.specs.declared.function.CodeFunction.{CodeFunction}
use Rattle.tac_ir.specs.Edges.{IsAmong, LeadsTo, successors}
use Rattle.check_elim.specs.Paths.{Path, Start, On}
use Rattle.check_elim.specs.Searches.{Listed, HasPredecessors, Follows, IsFollowed, IsExploring}
use Rattle.check_elim.specs.Worklists.{IsWorklist, Puts}
use Rattle.check_elim.specs.declared.worklist.Worklist.{Worklist}
use Rattle.check_elim.proofs.Worklists.{grows_none, grows_then, has_more}

pub follows_nowhere : (count node : ℕ) (r : Worklist) (b : Relation) → Follows count node [] r r b b
follows_nowhere count node r b = record {
  grows = grows_none r;
  all = λ m h lt. absurd h;
  reaches = λ v h. inl h;
  kept = λ m n h. h;
  only = λ m n h. inl h;
}

among_append : (xs ys : List ℕ) (m : ℕ) → IsAmong m (xs ++ ys) → IsAmong m xs ⊎ IsAmong m ys
among_append [] ys m h = inr h
among_append (x ∷ xs) ys m (inl e) = inl (inl e)
among_append (x ∷ xs) ys m (inr h) = ⊎_elim (λ q. inl (inr q)) (λ q. inr q) (among_append xs ys m h)

among_first : (xs ys : List ℕ) (m : ℕ) → IsAmong m xs → IsAmong m (xs ++ ys)
among_first [] ys m h = absurd h
among_first (x ∷ xs) ys m (inl e) = inl e
among_first (x ∷ xs) ys m (inr h) = inr (among_first xs ys m h)

among_last : (xs ys : List ℕ) (m : ℕ) → IsAmong m ys → IsAmong m (xs ++ ys)
among_last [] ys m h = h
among_last (x ∷ xs) ys m h = inr (among_last xs ys m h)

-- some nodes and then others
pub follows_then : (count node : ℕ) (xs ys : List ℕ) {r r' r'' : Worklist} {b b' b'' : Relation}
    → Follows count node xs r r' b b' → Follows count node ys r' r'' b' b''
    → Follows count node (xs ++ ys) r r'' b b''
follows_then count node xs ys {r = r} {r'' = r''} {b = b} {b'' = b''} p q = record {
  grows = grows_then p.grows q.grows;
  all = λ m h lt. all m lt (among_append xs ys m h);
  reaches = λ v h. ⊎_elim (λ o. ⊎_elim (λ z. inl z) (λ z. inr (among_first xs ys v z)) (p.reaches v o))
      (λ z. inr (among_last xs ys v z)) (q.reaches v h);
  kept = λ m n h. q.kept m n (p.kept m n h);
  only = λ m n h. ⊎_elim (λ o. ⊎_elim (λ z. inl z) (λ z. inr (among_first xs ys m z.0, z.1)) (p.only m n o))
      (λ z. inr (among_last xs ys m z.0, z.1)) (q.only m n h);
}
  where
    all : (m : ℕ) → m < count → IsAmong m xs ⊎ IsAmong m ys → IsRelated b'' m node × Listed r'' m
    all m lt (inl h) = let o = p.all m h lt in (q.kept m node o.0, has_more q.grows m o.1)
    all m lt (inr h) = q.all m h lt

-- one node that is there
pub related_one : (count node next : ℕ) (r r' : Worklist) (b b' : Relation) → images b' next ≡ images b next ++ node ∷ []
    → ((a : ℕ) → a ≢ next → images b' a ≡ images b a) → Puts r r' next → Follows count node (next ∷ []) r r' b b'
related_one count node next r r' b b' here others puts = record {
  grows = puts.grows;
  all = λ m h lt. ⊎_elim (λ e. subst (λ z. IsRelated b' z node × Listed r' z) (sym e) (now, puts.has)) (λ z. absurd z) h;
  reaches = λ v h. ⊎_elim (λ o. inl o) (λ e. inr (inl e)) (puts.new v h);
  kept = λ m n h. ⊎_elim (λ e. same m n e h) (λ ne. subst (λ xs. Has xs n) (sym (others m ne)) h) (cases_eq m next);
  only = λ m n h. ⊎_elim (λ e. new m n e h) (λ ne. inl (subst (λ xs. Has xs n) (others m ne) h)) (cases_eq m next);
}
  where
    now : IsRelated b' next node
    now = subst (λ xs. Has xs node) (sym here) (length (images b next), at_end (images b next) node)

    same : (m n : ℕ) → m ≡ next → IsRelated b m n → IsRelated b' m n
    same m n e h = subst (λ z. IsRelated b' z n) (sym e) (subst (λ xs. Has xs n) (sym here)
        (let k = subst (λ z. IsRelated b z n) e h in (k.0, at_front (images b next) node k.0 n k.1)))

    new : (m n : ℕ) → m ≡ next → IsRelated b' m n → IsRelated b m n ⊎ (IsAmong m (next ∷ []) × (n ≡ node))
    new m n e h =
        let k : Has (images b next ++ node ∷ []) n = subst (λ xs. Has xs n) here (subst (λ z. IsRelated b' z n) e h) in
        ⊎_elim (λ old. inl (subst (λ z. IsRelated b z n) (sym e) (k.0, old))) (λ q. inr (inl e, q))
        (at_cases (images b next) node k.0 n k.1)

-- or none
pub related_none : (count node next : ℕ) (r : Worklist) (b : Relation) → count ≤ next
    → Follows count node (next ∷ []) r r b b
related_none count node next r b past = record {
  grows = grows_none r;
  all = λ m h lt. ⊎_elim (λ e. absurd (omega (arith, e, lt, past))) (λ z. absurd z) h;
  reaches = λ v h. inl h;
  kept = λ m n h. h;
  only = λ m n h. inl h;
}

pub ruleset reaching = (related_one, related_none)

pub follows_both : (count count' node x y : ℕ) (ns : List ℕ) {r r' r'' : Worklist} {b b' b'' : Relation}
    → ns ≡ x ∷ y ∷ [] → count' ≡ count → Follows count node (x ∷ []) r r' b b'
    → Follows count' node (y ∷ []) r' r'' b' b'' → Follows count node ns r r'' b b''
follows_both count count' node x y ns {r = r} {r' = r'} {r'' = r''} {b = b} {b' = b'} {b'' = b''} e same p q =
    subst (λ z. Follows count node z r r'' b b'') (sym e)
    (follows_then count node (x ∷ []) (y ∷ []) p (subst (λ z. Follows z node (y ∷ []) r' r'' b' b'') same q))

-- the search goes on from a node

module _ (function : CodeFunction) (r r' : Worklist) (b b' : Relation) (node : ℕ) (i : Instruction)
    (here : slice_get function.code node ≡ Some i) (path : Path function node)
    (h : Follows (length function.code) node (successors i) r r' b b') where
  pub exploring_on : IsExploring function r b → IsWorklist (length function.code) r'
      → length b'.rows.items ≡ length b.rows.items → IsExploring function r' b'
  exploring_on e list rows = record {
    list = list;
    rows = rows ∙ e.rows;
    paths = λ v q. ⊎_elim (λ old. e.paths v old) (λ to. On node v i path here to) (h.reaches v q);
    only = λ m n q. ⊎_elim (λ old. e.only m n old) (λ new. by m n new.1 new.0) (h.only m n q);
  }
    where
      by : (m n : ℕ) → n ≡ node → LeadsTo i m
          → (j : Instruction) × Path function n × (slice_get function.code n ≡ Some j) × LeadsTo j m
      by m n e to = (
        i,
        subst (Path function) (sym e) path,
        ap (slice_get function.code) e ∙ here,
        to,
      )

  pub followed_here : IsFollowed function r' b' node
  followed_here m j at to lt =
      let same : i ≡ j = cc in
      h.all m (subst (λ z. LeadsTo z m) (sym same) to) lt

  pub followed_on : (n : ℕ) → IsFollowed function r b n → IsFollowed function r' b' n
  followed_on n f m j at to lt = let q = f m j at to lt in (h.kept m n q.0, has_more h.grows m q.1)

pub record Stepped (function : CodeFunction) (r r' : Worklist) (b b' : Relation) (node : ℕ) : Type 0 where
  pub exploring : IsExploring function r' b'
  pub followed : IsFollowed function r' b' node
  pub kept : (n : ℕ) → IsFollowed function r b n → IsFollowed function r' b' n

pub at_node : (xs code : List Instruction) (n : ℕ) (i : Instruction) → xs ≡ code → n < length code
    → i ≡ get_or xs n i → slice_get code n ≡ Some i
at_node xs code n i same lt is =
    slice_get-get_or code n i lt ∙ ap Some (sym (is ∙ ap (λ l. get_or l n i) same))

pub stepped : (function : CodeFunction) (r r' : Worklist) (b b' : Relation) (node : ℕ) (i : Instruction)
    (xs : List Instruction) (ns : List ℕ) → xs ≡ function.code → node < length function.code → i ≡ get_or xs node i
    → Path function node → IsExploring function r b → ns ≡ successors i
    → Follows (length b.rows.items) node ns r r' b b' → IsWorklist (length b.rows.items) r'
    → length b'.rows.items ≡ length b.rows.items → Stepped function r r' b b' node
stepped function r r' b b' node i xs ns same lt is path e nexts follows list rows =
    let here = at_node xs function.code node i same lt is in
    let h = subst (λ z. Follows z node (successors i) r r' b b') e.rows
    (subst (λ z. Follows (length b.rows.items) node z r r' b b') nexts follows) in
    record {
      exploring = exploring_on function r r' b b' node i here path h e (subst (λ z. IsWorklist z r') e.rows list) rows;
      followed = followed_here function r r' b b' node i here path h;
      kept = followed_on function r r' b b' node i here path h;
    }

-- where all edges from what is reached were followed, all is reached to which paths lead
module _ (function : CodeFunction) (r : Worklist) (b : Relation) (e : IsExploring function r b)
    (entry : function.entry < length function.code → Listed r function.entry)
    (done : (v : ℕ) → Listed r v → IsFollowed function r b v) where
  all_reached : (n : ℕ) → Path function n → n < length function.code → Listed r n
  all_reached _ Start lt = entry lt
  all_reached _ (On n m i path has to) lt =
      (done n (all_reached n path (slice_get_within function.code n i has)) m i has to lt).1

  pub has_predecessors : HasPredecessors function b
  has_predecessors = record {
    has = λ n m i path has to lt.
        (done n (all_reached n path (slice_get_within function.code n i has)) m i has to lt).0;
    only = e.only;
  }
