-- The problem that an instruction more gives, and what its solutions are.
use Rattle.std.proofs.Common.{◌≡◌, ℕ, ◌+◌, inl, inr, ⊎_elim, List, length, Some, None, Option, true, false, refl, sym}
use Rattle.std.proofs.Common.{ap, ◌∙◌, subst, arith}
use Rattle.std.proofs.Common.{true≢false}
use Rattle.std.specs.Prelude.{slice_get}
use Rattle.std.proofs.lemmas.Bool.{cases_lt, le-leb, le-ltb}
use Rattle.std.proofs.lemmas.Option.{slice_get_within}
use Rattle.data_flow.specs.Relations.{IsRelated, images}
use Rattle.data_flow.specs.Reached.{IsReached, Begins, Flows}
use Rattle.flat_code.specs.declared.instruction.FlatInstruction.{FlatInstruction}
use Rattle.flat_code.specs.declared.function.FlatProgram.{FlatProgram}
use Rattle.reg_plan.specs.declared.flow.Problem.{Problem}
use Rattle.reg_plan.specs.Effects.{is_among, is_read, read_by, made_by, makes_only, unless_only, always_made_by}
use Rattle.reg_plan.specs.Effects.{none, next_of, taken_of, Leads}
use Rattle.reg_plan.specs.Needs.{ReadsAt, MakesAt, AlwaysMakesAt, LeadsAt, IsNeeded, Read, Made, Before}
use Rattle.reg_plan.specs.Flow.{Gains, AddsSuccessor, Represents}

-- two instructions at one place are the same
same_instruction : (body : List FlatInstruction) (pc pc' : ℕ) (i j : FlatInstruction) → slice_get body pc ≡ Some i
    → slice_get body pc' ≡ Some j → pc' ≡ pc → j ≡ i
same_instruction body pc pc' i j a b e = let w : Some j ≡ Some i = sym b ∙ ap (slice_get body) e ∙ a in cc

among_none : (y : ℕ) → is_among none y ≡ false
among_none y = rw (le-leb 0 y (omega arith), le-ltb y 0 (omega arith)) refl

-- what an instruction always makes
pub always_parts : (p : FlatProgram) (i : FlatInstruction) (y : ℕ) → is_among (always_made_by p i) y ≡ true
    → (is_among (made_by p i) y ≡ true) × (makes_only i ≡ None)
always_parts p i y e = by (makes_only i) refl
  where
    by : (o : Option ℕ) → makes_only i ≡ o → (is_among (made_by p i) y ≡ true) × (makes_only i ≡ None)
    by None q = (ap (λ o. is_among (unless_only o (made_by p i)) y) (sym q) ∙ e, q)
    by (Some x) q = absurd (true≢false
        (sym (ap (λ o. is_among (unless_only o (made_by p i)) y) (sym q) ∙ e) ∙ among_none y))

-- one instruction more: first what it reads and makes, then where it leads
pub represents_more : (p : FlatProgram) (f : ℕ) (body : List FlatInstruction) (pc : ℕ) (i : FlatInstruction)
    (a b c d : Problem)
    → slice_get body pc ≡ Some i → Represents p f body pc a → b.edges ≡ a.edges
    → Gains a.generated b.generated (λ y. is_read (read_by p f i) y ≡ true) pc
    → Gains a.killed b.killed (λ y. is_among (made_by p i) y ≡ true) pc
    → AddsSuccessor b c (λ y. is_among (always_made_by p i) y ≡ true) pc (next_of i pc) (length body)
    → AddsSuccessor c d (λ y. is_among (always_made_by p i) y ≡ true) pc (taken_of i pc) (length body)
    → Represents p f body (pc + 1) d
represents_more p f body pc i a b c d here r edges reads kills next taken =
    let leads : (pc' q : ℕ) → LeadsAt body pc' q → pc' ≡ pc → Leads i pc q =
    λ pc' q l e. subst (λ z. Leads i z q) e
    (subst (λ j. Leads j pc' q) (same_instruction body pc pc' i l.0 here l.1 e) l.2)
    in
    let makes : (pc' y : ℕ) → MakesAt p body pc' y → pc' ≡ pc → is_among (made_by p i) y ≡ true =
    λ pc' y m e. subst (λ j. is_among (made_by p j) y ≡ true) (same_instruction body pc pc' i m.0 here m.1 e) m.2
    in
    let always : (pc' y : ℕ) → AlwaysMakesAt p body pc' y → pc' ≡ pc → is_among (always_made_by p i) y ≡ true =
    λ pc' y m e. subst (λ j. is_among (always_made_by p j) y ≡ true) (same_instruction body pc pc' i m.0 here m.1 e)
    (ap (λ o. is_among (unless_only o (made_by p m.0)) y) m.3 ∙ m.2)
    in
    let killed : (y v : ℕ) → IsRelated d.killed y v
    → IsRelated b.killed y v = λ y v h. subst (λ k. IsRelated k y v) (taken.killed ∙ next.killed) h in
    record {
      edges = λ pc' q lt l. ⊎_elim
          (λ low. taken.edges_kept q pc'
          (next.edges_kept q pc' (subst (λ x. IsRelated x q pc') (sym edges) (r.edges pc' q low l))))
          (λ high. let e : pc' ≡ pc = omega arith in
          subst (λ z. IsRelated d.edges q z) (sym e)
          (⊎_elim (λ n. taken.edges_kept q pc (next.edge q n l.3)) (λ t. taken.edge q t l.3) (leads pc' q l e)))
          (cases_lt pc' pc);
      edges_only = λ q v h. ⊎_elim
          (λ o. ⊎_elim
          (λ o'. r.edges_only q v (subst (λ x. IsRelated x q v) edges o'))
          (λ n. subst (λ z. LeadsAt body z q) (sym n.2) (i, here, inl n.0, n.1))
          (next.edges_only q v o))
          (λ t. subst (λ z. LeadsAt body z q) (sym t.2) (i, here, inr t.0, t.1))
          (taken.edges_only q v h);
      read = λ pc' y lt l. ⊎_elim
          (λ low. taken.generated_kept y pc' (next.generated_kept y pc' (reads.kept y pc' (r.read pc' y low l))))
          (λ high. let e : pc' ≡ pc = omega arith in
          subst (λ z. IsRelated d.generated y z) (sym e)
          (taken.generated_kept y pc
          (next.generated_kept y pc
          (reads.has y (subst (λ j. is_read (read_by p f j) y ≡ true)
          (same_instruction body pc pc' i l.0 here l.1 e) l.2)))))
          (cases_lt pc' pc);
      made = λ pc' q y lt l m. ⊎_elim
          (λ low. taken.generated_kept y q (next.generated_kept y q (reads.kept y q (r.made pc' q y low l m))))
          (λ high. let e : pc' ≡ pc = omega arith in
          ⊎_elim (λ n. taken.generated_kept y q (next.generates q y n l.3 (always pc' y m e)))
          (λ t. taken.generates q y t l.3 (always pc' y m e)) (leads pc' q l e))
          (cases_lt pc' pc);
      generated_only = λ y v h. ⊎_elim
          (λ o. ⊎_elim
          (λ o'. ⊎_elim
          (λ old. r.generated_only y v old)
          (λ n. inl (subst (λ z. ReadsAt p f body z y) (sym n.1) (i, here, n.0)))
          (reads.only y v o'))
          (λ n. let o = always_parts p i y n.2 in inr (pc, (i, here, inl n.0, n.1), (i, here, o.0, o.1)))
          (next.generated_only y v o))
          (λ t. let o = always_parts p i y t.2 in inr (pc, (i, here, inr t.0, t.1), (i, here, o.0, o.1)))
          (taken.generated_only y v h);
      killed = λ pc' y lt m. ⊎_elim
          (λ low. subst (λ k. IsRelated k y pc') (sym (taken.killed ∙ next.killed))
          (kills.kept y pc' (r.killed pc' y low m)))
          (λ high. let e : pc' ≡ pc = omega arith in
          subst (λ k. IsRelated k y pc') (sym (taken.killed ∙ next.killed))
          (subst (λ z. IsRelated b.killed y z) (sym e) (kills.has y (makes pc' y m e))))
          (cases_lt pc' pc);
      killed_only = λ y v h. ⊎_elim
          (λ o. r.killed_only y v o)
          (λ n. subst (λ z. MakesAt p body z y) (sym n.1) (i, here, n.0))
          (kills.only y v (killed y v h));
    }

-- where the facts of a virtual register reach, it is needed, and nowhere else
pub needed_is_reached : (p : FlatProgram) (f : ℕ) (body : List FlatInstruction) (problem : Problem)
    → Represents p f body (length body) problem → (pc y : ℕ) → IsNeeded p f body pc y
    → IsReached problem.edges (images problem.generated y) (images problem.killed y) pc
needed_is_reached p f body problem r _ _ (Read pc y h) = Begins pc (r.read pc y (slice_get_within body pc h.0 h.1) h)
needed_is_reached p f body problem r _ _ (Made pc q y l m) = Begins q
    (r.made pc q y (slice_get_within body pc l.0 l.1) l m)
needed_is_reached p f body problem r _ _ (Before pc q y l n not_made) =
    Flows q pc (needed_is_reached p f body problem r q y n) (r.edges pc q (slice_get_within body pc l.0 l.1) l)
    (λ k. not_made (r.killed_only y pc k))

pub reached_is_needed : (p : FlatProgram) (f : ℕ) (body : List FlatInstruction) (problem : Problem)
    → Represents p f body (length body) problem → (y pc : ℕ)
    → IsReached problem.edges (images problem.generated y) (images problem.killed y) pc → IsNeeded p f body pc y
reached_is_needed p f body problem r y _ (Begins v h) = ⊎_elim (λ q. Read v y q) (λ q. Made q.0 v y q.1 q.2)
    (r.generated_only y v h)
reached_is_needed p f body problem r y _ (Flows u v h e n) =
    let l = r.edges_only u v e in
    Before v u y l (reached_is_needed p f body problem r y u h)
    (λ m. n (r.killed v y (slice_get_within body v l.0 l.1) m))
