-- What the parts of the problem gain.
use Rattle.std.proofs.Common.{◌≡◌, ◌≢◌, ℕ, ◌+◌, ◌<◌, ◌≤◌, ◌⊎◌, inl, inr, ⊎_elim, [], ◌∷◌, ◌++◌, length, Option, Some}
use Rattle.std.proofs.Common.{Bool, true, false, ◌||◌, ◌&&◌, refl, sym, ap, ◌∙◌, subst, true≢false}
use Rattle.std.specs.Prelude.{slice_get, nat_le, nat_lt}
use Rattle.std.proofs.lemmas.Bool.{cases_eq, or_cases, leb-true, ltb-true, le-leb, lt-ltb}
use Rattle.data_flow.specs.declared.relation.Relation.{Relation}
use Rattle.data_flow.specs.Relations.{Has, IsRelated, images}
use Rattle.data_flow.proofs.Lists.{at_front, at_end, at_cases}
use Rattle.reg_plan.specs.declared.effects.Span.{Span}
use Rattle.reg_plan.specs.declared.effects.Reads.{Reads}
use Rattle.reg_plan.specs.Effects.{is_among, is_read}
use Rattle.reg_plan.specs.declared.flow.Problem.{Problem}
use Rattle.reg_plan.specs.Flow.{Gains, AddsSuccessor}

pub and_left : (a b : Bool) → (a && b) ≡ true → a ≡ true
and_left true b e = refl
and_left false b e = e

pub and_right : (a b : Bool) → (a && b) ≡ true → b ≡ true
and_right true b e = e
and_right false b e = absurd (true≢false (sym e))

pub and_both : (a b : Bool) → a ≡ true → b ≡ true → (a && b) ≡ true
and_both a b e f = rw (e, f) refl

pub or_left : (a b : Bool) → a ≡ true → (a || b) ≡ true
or_left a b e = rw e refl

pub or_right : (a b : Bool) → b ≡ true → (a || b) ≡ true
or_right true b e = refl
or_right false b e = e

-- one number more
pub gains_one : (r0 r r' : Relation) (P Q : ℕ → Type 0) (y node : ℕ) → Gains r0 r P node
    → images r' y ≡ images r y ++ node ∷ [] → ((a : ℕ) → a ≢ y → images r' a ≡ images r a)
    → ((a : ℕ) → Q a → P a ⊎ (a ≡ y)) → ((a : ℕ) → P a → Q a) → Q y → Gains r0 r' Q node
gains_one r0 r r' P Q y node g here others cases up at = record {
  has = λ a h. ⊎_elim (λ p. kept a node (g.has a p))
      (λ e. subst (λ b. IsRelated r' b node) (sym e)
      (subst (λ l. Has l node) (sym here) (length (images r y), at_end (images r y) node))) (cases a h);
  kept = λ a v h. kept a v (g.kept a v h);
  only = λ a v h. ⊎_elim
      (λ e. ⊎_elim
      (λ q. ⊎_elim (λ o. inl o) (λ o. inr (up a o.0, o.1)) (g.only a v (subst (λ b. IsRelated r b v) (sym e) (h.0, q))))
      (λ q. inr (subst Q (sym e) at, q))
      (at_cases (images r y) node h.0 v
      (ap (λ l. slice_get l h.0) (sym here) ∙ ap (λ b. slice_get (images r' b) h.0) (sym e) ∙ h.1)))
      (λ ne. ⊎_elim (λ o. inl o) (λ o. inr (up a o.0, o.1)) (g.only a v (subst (λ l. Has l v) (others a ne) h)))
      (cases_eq a y);
}
  where
    kept : (a v : ℕ) → IsRelated r a v → IsRelated r' a v
    kept a v h = ⊎_elim
        (λ e. subst (λ b. IsRelated r' b v) (sym e)
        (subst (λ l. Has l v) (sym here)
        (h.0, at_front (images r y) node h.0 v (ap (λ b. slice_get (images r b) h.0) (sym e) ∙ h.1))))
        (λ ne. subst (λ l. Has l v) (sym (others a ne)) h)
        (cases_eq a y)

pub gains_none : (r : Relation) (P : ℕ → Type 0) (node : ℕ) → ((a : ℕ) → P a → ⊥) → Gains r r P node
gains_none r P node n = record { has = λ a h. absurd (n a h); kept = λ a v h. h; only = λ a v h. inl h }

pub gains_as : (r r' : Relation) (P Q : ℕ → Type 0) (node : ℕ) → Gains r r' P node → ((y : ℕ) → P y → Q y)
    → ((y : ℕ) → Q y → P y) → Gains r r' Q node
gains_as r r' P Q node g to from = record {
  has = λ y q. g.has y (from y q);
  kept = g.kept;
  only = λ y v h. ⊎_elim (λ o. inl o) (λ o. inr (to y o.0, o.1)) (g.only y v h);
}

pub gains_both : (a b c : Relation) (P Q R : ℕ → Type 0) (node : ℕ) → Gains a b P node → Gains b c Q node
    → ((y : ℕ) → R y → P y ⊎ Q y) → ((y : ℕ) → P y → R y) → ((y : ℕ) → Q y → R y) → Gains a c R node
gains_both a b c P Q R node g h cases up up' = record {
  has = λ y r. ⊎_elim (λ p. h.kept y node (g.has y p)) (λ q. h.has y q) (cases y r);
  kept = λ y v k. h.kept y v (g.kept y v k);
  only = λ y v k. ⊎_elim (λ o. ⊎_elim (λ z. inl z) (λ z. inr (up y z.0, z.1)) (g.only y v o))
      (λ o. inr (up' y o.0, o.1)) (h.only y v k);
}

-- what an instruction reads, by its three spans
pub gains_read : (a b c d : Relation) (reads : Reads) (node : ℕ) → Gains a b (λ y. is_among reads.left y ≡ true) node
    → Gains b c (λ y. is_among reads.right y ≡ true) node → Gains c d (λ y. is_among reads.others y ≡ true) node
    → Gains a d (λ y. is_read reads y ≡ true) node
gains_read a b c d reads node g h k =
    gains_both a b d (λ y. is_among reads.left y ≡ true)
    (λ y. (is_among reads.right y || is_among reads.others y) ≡ true) (λ y. is_read reads y ≡ true) node g
    (gains_both b c d (λ y. is_among reads.right y ≡ true) (λ y. is_among reads.others y ≡ true)
    (λ y. (is_among reads.right y || is_among reads.others y) ≡ true) node h k
    (λ y q. or_cases (is_among reads.right y) (is_among reads.others y) q) (λ y q. or_left _ _ q)
    (λ y q. or_right (is_among reads.right y) _ q))
    (λ y q. or_cases (is_among reads.left y) (is_among reads.right y || is_among reads.others y) q)
    (λ y q. or_left _ _ q) (λ y q. or_right (is_among reads.left y) _ q)

pub among : (s : Span) (y : ℕ) → s.first ≤ y → y < s.first + s.count → is_among s y ≡ true
among s y l h = and_both _ _ (le-leb s.first y l) (lt-ltb y (s.first + s.count) h)

pub among_low : (s : Span) (y : ℕ) → is_among s y ≡ true → s.first ≤ y
among_low s y h = leb-true s.first y (and_left _ (nat_lt y (s.first + s.count)) h)

pub among_high : (s : Span) (y : ℕ) → is_among s y ≡ true → y < s.first + s.count
among_high s y h = ltb-true y (s.first + s.count) (and_right (nat_le s.first y) _ h)

-- one edge and its facts
pub adds_successor : (a b : Problem) (M : ℕ → Type 0) (place : ℕ) (to : Option ℕ) (count next : ℕ) → to ≡ Some next
    → next < count → images b.edges next ≡ images a.edges next ++ place ∷ []
    → ((x : ℕ) → x ≢ next → images b.edges x ≡ images a.edges x) → Gains a.generated b.generated M next
    → b.killed ≡ a.killed → AddsSuccessor a b M place to count
adds_successor a b M place to count next is lt here others g k =
    let e : Gains a.edges b.edges (λ y. y ≡ next) place =
    gains_one a.edges a.edges b.edges (λ y. ⊥) (λ y. y ≡ next) next place (gains_none a.edges (λ y. ⊥) place (λ x h. h))
    here others (λ x h. inr h) (λ x h. absurd h) refl
    in
    let same : (q : ℕ) → to ≡ Some q → q ≡ next = λ q h. let w : Some q ≡ Some next = sym h ∙ is in cc in
    record {
      edge = λ q h l. e.has q (same q h);
      generates = λ q y h l m. subst (λ v. IsRelated b.generated y v) (sym (same q h)) (g.has y m);
      edges_kept = e.kept;
      edges_only = λ q v h. ⊎_elim (λ o. inl o)
          (λ o. inr (is ∙ ap Some (sym o.0), subst (λ z. z < count) (sym o.0) lt, o.1)) (e.only q v h);
      generated_kept = g.kept;
      generated_only = λ y v h. ⊎_elim (λ o. inl o)
          (λ o. inr (is ∙ ap Some (sym o.1), subst (λ z. z < count) (sym o.1) lt, o.0)) (g.only y v h);
      killed = k;
    }
