-- Stretches put together.
use Rattle.std.proofs.Common.{◌≡◌, ℕ, ◌+◌, ◌-◌, ◌<◌, ◌≤◌, ◌⊎◌, inl, inr, ⊎_elim}
use Rattle.std.proofs.Common.{refl, sym, subst, arith}
use Rattle.std.proofs.lemmas.Bool.{cases_lt, cases_eq}
use Rattle.data_flow.specs.declared.relation.Relation.{Relation}
use Rattle.data_flow.specs.declared.cover.Cover.{Cover}
use Rattle.data_flow.specs.Relations.{IsRelated}
use Rattle.data_flow.specs.Stretches.{FlowsWithin, Ends, Goes, IsStretch, IsInner, IsCover}
use Rattle.data_flow.specs.Runs.{IsRun}

-- a flow that goes on within more nodes
pub flows_on : (edges : Relation) (first last first' last' v : ℕ) → FlowsWithin edges first' last' last
    → first' ≤ first → last ≤ last' → FlowsWithin edges first last v → FlowsWithin edges first' last' v
flows_on edges first last first' last' v begun low high (Ends _ e) = subst (FlowsWithin edges first' last') (sym e) begun
flows_on edges first last first' last' v begun low high (Goes u _ h r from lt) =
    Goes u v (flows_on edges first last first' last' u begun low high h) r (omega (arith, low, from))
    (omega (arith, high, lt))

pub alone : (edges : Relation) (node : ℕ) → IsStretch edges node node
alone edges node = record {
  forward = omega arith;
  flows = λ v low high. Ends v (omega (arith, low, high));
  enters = λ u v low high r. absurd (omega (arith, low, high));
}

pub joined : (edges : Relation) (first middle last : ℕ) → IsStretch edges first middle → IsStretch edges middle last
    → IsStretch edges first last
joined edges first middle last a b =
    let fa = a.forward in
    let fb = b.forward in
    let here : FlowsWithin edges first last middle =
    flows_on edges middle last first last middle (Ends last refl) fa (omega arith) (b.flows middle (omega arith) fb) in
    record {
      forward = omega (arith, fa, fb);
      flows = λ v low high. ⊎_elim
          (λ before. flows_on edges first middle first last v here (omega arith) fb (a.flows v low (omega (arith, before))))
          (λ from. flows_on edges middle last first last v (Ends last refl) fa (omega arith) (b.flows v from high))
          (cases_lt v middle);
      enters = λ u v low high r. ⊎_elim
          (λ behind. let e = b.enters u v behind high r in omega (arith, e, fa))
          (λ upto. a.enters u v low upto r)
          (cases_lt middle u);
    }

-- ---- nodes from which no edge leads before another, put together with a stretch that ends right before them

covered : (edges : Relation) (node low first v : ℕ) (cover : Cover) → IsCover edges node cover → low ≤ cover.low
    → first + 1 ≡ cover.first → FlowsWithin edges low node first → (start : ℕ) → low ≤ start
    → IsStretch edges start first → start ≤ v → v ≤ node → FlowsWithin edges low node v
covered edges node low first v cover c le e begun start from s low' high = ⊎_elim
    (λ before. flows_on edges start first low node v begun from
    (let f = c.forward in omega (arith, f, e)) (s.flows v low' (omega (arith, before, e))))
    (λ behind. flows_on edges cover.low node low node v (Ends node refl) le (omega arith) (c.flows v behind high))
    (cases_lt v cover.first)

entered : (edges : Relation) (node low first : ℕ) (cover : Cover) → IsCover edges node cover → low ≤ cover.low
    → first + 1 ≡ cover.first → (start : ℕ) → IsStretch edges start first → (u v : ℕ) → start < u → u ≤ node
    → IsRelated edges u v → (start ≤ v) ⊎ (low ≤ v)
entered edges node low first cover c le e start s u v behind high r = ⊎_elim
    (λ before. inl (s.enters u v behind (omega (arith, before, e)) r))
    (λ from. inr (let x = c.enters u v from high r in omega (arith, x, le)))
    (cases_lt u cover.first)

-- a stretch that begins at the lowest node or before it
pub stretch_by : (edges : Relation) (node low before : ℕ) (cover : Cover) → IsCover edges node cover → low ≤ cover.low
    → before + 1 ≡ cover.first → FlowsWithin edges low node before → (first : ℕ) → IsStretch edges first before
    → first ≤ low → IsStretch edges first node
stretch_by edges node low before cover c le e begun first s from =
    let f = s.forward in
    let g = c.forward in
    let wide : FlowsWithin edges first node before =
    flows_on edges low node first node before (Ends node refl) from (omega arith) begun in
    record {
      forward = omega (arith, f, g, e);
      flows = λ v low' high. ⊎_elim
          (λ lt. flows_on edges first before first node v wide (omega arith) (omega (arith, g, e))
          (s.flows v low' (omega (arith, lt, e))))
          (λ behind. flows_on edges cover.low node first node v (Ends node refl) (omega (arith, from, le)) (omega arith)
          (c.flows v behind high))
          (cases_lt v cover.first);
      enters = λ u v behind high r. ⊎_elim (λ q. q) (λ q. omega (arith, q, from))
          (entered edges node low before cover c le e first s u v behind high r);
    }

-- more nodes
pub cover_by : (edges : Relation) (node low before : ℕ) (cover : Cover) → IsCover edges node cover → low ≤ cover.low
    → before + 1 ≡ cover.first → FlowsWithin edges low node before → (first : ℕ) → IsStretch edges first before
    → low < first → (low' : ℕ) → low' ≤ low → ((v : ℕ) → IsRelated edges first v → low' ≤ v) → (next : Cover)
    → next.first ≡ first → next.low ≡ low' → IsCover edges node next
cover_by edges node low before cover c le e begun first s from low' lower least next ef el =
    let f = s.forward in
    let g = c.forward in
    subst (IsCover edges node) (same next ef el) (record {
      low = omega (arith, from, lower);
      forward = omega (arith, f, g, e);
      flows = λ v at high. flows_on edges low node low' node v (Ends node refl) lower (omega arith)
          (covered edges node low before v cover c le e begun first (omega (arith, from)) s at high);
      enters = λ u v at high r. ⊎_elim
          (λ here. least v (subst (λ x. IsRelated edges x v) here r))
          (λ other. ⊎_elim (λ q. omega (arith, q, from, lower)) (λ q. omega (arith, q, lower))
          (entered edges node low before cover c le e first s u v
          (let o = other in by u first at o) high r))
          (cases_eq u first);
    })
  where
    by : (a b : ℕ) → b ≤ a → (a ≡ b → ⊥) → b < a
    by a b l ne = ⊎_elim (λ q. absurd (ne (omega (arith, q, l)))) (λ q. q) (alt a b)
      where
        alt : (a b : ℕ) → (a ≤ b) ⊎ (b < a)
        alt a b = ⊎_elim (λ q. inr q) (λ q. inl q) (cases_lt b a)

    same : (next : Cover) → next.first ≡ first → next.low ≡ low' → (record { first = first; low = low' }) ≡ next
    same next a b = rw (sym a, sym b) refl

pub cover_begins : (edges : Relation) (node low : ℕ) → low < node → ((v : ℕ) → IsRelated edges node v → low ≤ v)
    → IsCover edges node (record { first = node; low = low })
cover_begins edges node low lt least = record {
  low = lt;
  forward = omega arith;
  flows = λ v from upto. Ends v (omega (arith, from, upto));
  enters = λ u v from upto r. let e : u ≡ node = omega (arith, from, upto) in
      least v (subst (λ x. IsRelated edges x v) e r);
}

-- a fact flows to a node by one from which an edge leads back to it
pub flows_back : (edges : Relation) (node low source through before : ℕ) → low ≤ before → before < node
    → IsRelated edges node through → through < node → source ≤ through → IsStretch edges source through
    → IsRelated edges source before → (low' : ℕ) → low' ≤ low → low' ≤ source → FlowsWithin edges low' node before
flows_back edges node low source through before at lt r there from s back low' a b =
    let first : FlowsWithin edges low' node through = Goes node through (Ends node refl) r (omega (arith, b, from)) there
    in
    let second : FlowsWithin edges low' node source = flows_on edges source through low' node source first b
    (omega (arith, there)) (s.flows source (omega arith) from) in
    Goes source before second back (omega (arith, a, at)) lt

pub flows_directly : (edges : Relation) (node low before : ℕ) → low ≤ before → before < node
    → IsRelated edges node before → FlowsWithin edges low node before
flows_directly edges node low before at lt r = Goes node before (Ends node refl) r at lt

-- ---- the nodes from which edges lead behind one

pub inner_none : (edges : Relation) (node : ℕ) → IsInner edges node node
inner_none edges node = record {
  within = omega arith;
  stays = λ u v low high r. absurd (omega (arith, low, high));
}

pub inner_more : (edges : Relation) (first last next : ℕ) → IsInner edges first last → 0 < first
    → ((v : ℕ) → IsRelated edges first v → v ≤ last) → IsInner edges next (first - 1) → IsInner edges next last
inner_more edges first last next i some here more =
    let w = i.within in
    let w' = more.within in
    record {
      within = omega (arith, w, w', some);
      stays = λ u v low high r. ⊎_elim
          (λ behind. i.stays u v behind high r)
          (λ upto. ⊎_elim
          (λ e. here v (subst (λ x. IsRelated edges x v) e r))
          (λ ne. let q = more.stays u v low (let n = ne in below u first upto n some) r in omega (arith, q, w, some))
          (cases_eq u first))
          (cases_lt first u);
    }
  where
    below : (a b : ℕ) → a ≤ b → (a ≡ b → ⊥) → 0 < b → a ≤ b - 1
    below a b l ne s = ⊎_elim (λ q. omega (arith, q)) (λ q. absurd (ne (omega (arith, q, l)))) (cases_lt a b)

-- a stretch that begins no earlier than where edges lead behind its last node
pub run_by : (edges : Relation) (inner first last : ℕ) → IsInner edges inner last → inner ≤ first
    → IsStretch edges first last → IsRun edges first last
run_by edges inner first last i from s = record {
  stretch = s;
  stays = λ u v low high r. i.stays u v (omega (arith, from, low)) high r;
}
