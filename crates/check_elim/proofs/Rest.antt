-- What code keeps whose checks are dropped: it is the same but for checks as other code if it was so with them, and the
-- bodies of its counted loops stay closed.
use Rattle.std.proofs.Common.{◌≡◌, ◌⊎◌, inl, inr, ⊎_elim, ℕ, ◌≤◌, zero, suc, List, [], ◌∷◌, Option, Some}
use Rattle.std.proofs.Common.{None, refl, sym, ap, ◌∙◌, subst, arith, get_or}
use Rattle.std.specs.Prelude.{slice_get}
use Rattle.std.proofs.lemmas.Option.{slice_get-get_or, slice_get_within}
use Rattle.tac_ir.specs.declared.instruction.Instruction.{Instruction}
use Rattle.tac_ir.specs.declared.instruction.Instruction.TheVariants.{Judge, Reserved}
use Rattle.tac_ir.specs.declared.function.CodeFunction.{CodeFunction}
use Rattle.tac_ir.specs.declared.function.CountedLoop.{CountedLoop}
use Rattle.tac_ir.specs.declared.function.Tac.{Tac}
use Rattle.tac_ir.specs.Bodies.{IsInBody, IsTurnOf, assigns_plain, KeepsVariable, HasClosedBodies}
use Rattle.tac_ir.specs.Bodies.{HaveClosedBodies, KeepVariables}
use Rattle.tac_ir.specs.Edges.{LeadsTo}
use Rattle.tac_ir.specs.Meaning.{function_in}
use Rattle.tac_ir.specs.SameTables.{SameFunction, SameAt, SameTables}
use Rattle.tac_ir.specs.Structures.{structure_put}
use Rattle.tac_ir.specs.Temporaries.{temporaries}
use Rattle.check_insert.specs.Counting.{is_check}
use Rattle.check_insert.specs.Inserted.{Has, NeedsNoMore}
use Rattle.check_insert.specs.SameButChecks.{SameButChecksIn, SameButChecksAt, SameButChecks}
use Rattle.check_elim.specs.Dropped.{Choice, skipped, DroppedAt, FunctionDropped, AreDropped, Dropped}
use Rattle.check_elim.proofs.Sameness.{same_tables}

-- the same tables as those that were the same

same_function_then : (a b c : CodeFunction) → SameFunction a b → SameFunction b c → SameFunction a c
same_function_then a b c p q = record {
  header = q.header ∙ p.header;
  entry = q.entry ∙ p.entry;
  keys = q.keys ∙ p.keys;
  blocks = q.blocks ∙ p.blocks;
  loops = q.loops ∙ p.loops;
}

same_at_then : (a b c : Option CodeFunction) → SameAt a b → SameAt b c → SameAt a c
same_at_then None None None p q = tt
same_at_then None None (Some c) p q = absurd q
same_at_then None (Some b) c p q = absurd p
same_at_then (Some a) None c p q = absurd p
same_at_then (Some a) (Some b) None p q = absurd q
same_at_then (Some a) (Some b) (Some c) p q = same_function_then a b c p q

same_tables_then : (a b c : Tac) → SameTables a b → SameTables b c → SameTables a c
same_tables_then a b c p q = record {
  headers = q.headers ∙ p.headers;
  results = q.results ∙ p.results;
  main = q.main ∙ p.main;
  statics = q.statics ∙ p.statics;
  bytes = q.bytes ∙ p.bytes;
  texts = q.texts ∙ p.texts;
  functions = λ u. same_at_then (function_in a u) (function_in b u) (function_in c u) (p.functions u) (q.functions u);
}

-- a skip is no more than the check that stood there

skip_needs : (i : Instruction) → temporaries (skipped i) ≤ temporaries i
skip_needs (Judge test size line key a m) = omega arith
skip_needs i = omega arith

skip_puts : (t : Tac) (i : Instruction) (d : ℕ) → structure_put t (skipped i) d ≤ structure_put t i d
skip_puts t (Judge test size line key a m) d = omega arith
skip_puts t i d = omega arith

no_check : (i : Instruction) → is_check i ≡ 0 → skipped i ≡ i
no_check (Judge test size line key a m) e = cc
no_check i e = refl

skip_leads : (i : Instruction) (m : ℕ) → LeadsTo (skipped i) m → LeadsTo i m
skip_leads (Judge test size line key a n) m h = h
skip_leads i m h = h

skip_turns : (number : ℕ) (i : Instruction) → IsTurnOf number i → IsTurnOf number (skipped i)
skip_turns number (Judge test size line key a n) h = absurd h
skip_turns number i h = h

skip_assigns : (i : Instruction) (x : ℕ) → assigns_plain (skipped i) x ≡ assigns_plain i x
skip_assigns (Judge test size line key a n) x = refl
skip_assigns i x = refl

-- what stands at a node was there, or is a skip where a check was
record WasThere (c : CodeFunction) (n : ℕ) (i : Instruction) : Type 0 where
  before : Instruction
  has : slice_get c.code n ≡ Some before
  same : (i ≡ skipped before) ⊎ (i ≡ before)

module _ (Goes : Choice) (c c' : CodeFunction) (h : FunctionDropped Goes c c') where
  was_there : (n : ℕ) (i : Instruction) → slice_get c'.code n ≡ Some i → WasThere c n i
  was_there n i at =
      let j = get_or c.code n Reserved in
      let lt = slice_get_within c'.code n i at in
      let size = h.code.size in
      let here : slice_get c.code n ≡ Some j = slice_get-get_or c.code n Reserved (omega (arith, lt, size)) in
      record { before = j; has = here; same = by j (h.code.nodes n j here) }
    where
      by : (j : Instruction) → DroppedAt Goes c c'.code n j → (i ≡ skipped j) ⊎ (i ≡ j)
      by j (inl q) = let e = q.1 in inl cc
      by j (inr q) = let e = q.1 in inr cc

  same_but : (a : CodeFunction) → SameButChecksIn a c → SameButChecksIn a c'
  same_but a s = record {
    size = h.code.size ∙ s.size;
    code = λ n i has other. kept n i other.own (h.code.nodes n i (s.code n i has other));
    homes = λ n i has. let w = was_there n i has in needs i w.before w.same (s.homes n w.before w.has);
  }
    where
      kept : (n : ℕ) (i : Instruction) → is_check i ≡ 0 → DroppedAt Goes c c'.code n i → Has c'.code n i
      kept n i none (inl q) = q.1 ∙ ap Some (no_check i none)
      kept n i none (inr q) = q.1

      needs : (i j : Instruction) → (i ≡ skipped j) ⊎ (i ≡ j) → NeedsNoMore a.code j → NeedsNoMore a.code i
      needs i j (inr e) k = subst (NeedsNoMore a.code) (sym e) k
      needs i j (inl e) k = subst (NeedsNoMore a.code) (sym e) (record {
        node = k.node;
        other = k.other;
        has = k.has;
        most = let p = skip_needs j in let q = k.most in omega (arith, p, q);
        structures = λ t d. let p = skip_puts t j d in let q = k.structures t d in omega (arith, p, q);
      })

  led : (i j : Instruction) → (i ≡ skipped j) ⊎ (i ≡ j) → (m : ℕ) → LeadsTo i m → LeadsTo j m
  led i j (inl e) m to = skip_leads j m (subst (λ z. LeadsTo z m) e to)
  led i j (inr e) m to = subst (λ z. LeadsTo z m) e to

  turned : (number : ℕ) (i j : Instruction) → (i ≡ skipped j) ⊎ (i ≡ j) → IsTurnOf number j → IsTurnOf number i
  turned number i j (inl e) t = subst (IsTurnOf number) (sym e) (skip_turns number j t)
  turned number i j (inr e) t = subst (IsTurnOf number) (sym e) t

  assigned : (x : ℕ) (i j : Instruction) → (i ≡ skipped j) ⊎ (i ≡ j) → assigns_plain i x ≡ assigns_plain j x
  assigned x i j (inl e) = ap (λ z. assigns_plain z x) e ∙ skip_assigns j x
  assigned x i j (inr e) = ap (λ z. assigns_plain z x) e

  same_entry : c'.entry ≡ c.entry
  same_entry = ap (λ (x : CodeFunction). x.entry) h.rest

  loop_was : (number : ℕ) (l : CountedLoop) → slice_get c'.loops number ≡ Some l → slice_get c.loops number ≡ Some l
  loop_was number l e = sym (ap (λ (x : CodeFunction). slice_get x.loops number) h.rest) ∙ e

  still_closed : HasClosedBodies c → HasClosedBodies c'
  still_closed k = record {
    begins = let b = k.begins in omega (arith, b, same_entry, h.code.size);
    leads = λ n m i has to.
        let w = was_there n i has in
        let lt = k.leads n m w.before w.has (led i w.before w.same m to) in
        omega (arith, lt, h.code.size);
    bodies = λ number l e.
        let b = k.bodies number l (loop_was number l e) in
        record {
          within = λ n inside. let lt = b.within n inside in omega (arith, lt, h.code.size);
          begins = λ inside. b.begins (subst (IsInBody l) same_entry inside);
          enters = λ n m i has to inside.
              let w = was_there n i has in
              ⊎_elim (λ q. inl q) (λ t. inr (turned number i w.before w.same t))
              (b.enters n m w.before w.has (led i w.before w.same m to) inside);
        };
  }

  still_keeps : ((number : ℕ) (l : CountedLoop) → slice_get c.loops number ≡ Some l → KeepsVariable c l)
      → (number : ℕ) (l : CountedLoop) → slice_get c'.loops number ≡ Some l → KeepsVariable c' l
  still_keeps k number l e = record {
    by = λ n i has inside.
        let w = was_there n i has in
        assigned l.variable i w.before w.same ∙ (k number l (loop_was number l e)).by n w.before w.has inside;
  }

-- programs

same_but_at : (Goes : Choice) (o : Option CodeFunction) (cs cs' : List CodeFunction) → AreDropped Goes cs cs' → (u : ℕ)
    → SameButChecksAt o (slice_get cs u) → SameButChecksAt o (slice_get cs' u)
same_but_at Goes o [] [] h u s = s
same_but_at Goes o [] (c' ∷ cs') h u s = absurd h
same_but_at Goes o (c ∷ cs) [] h u s = absurd h
same_but_at Goes None (c ∷ cs) (c' ∷ cs') h zero s = absurd s
same_but_at Goes (Some a) (c ∷ cs) (c' ∷ cs') h zero s = same_but Goes c c' h.0 a s
same_but_at Goes o (c ∷ cs) (c' ∷ cs') h (suc u) s = same_but_at Goes o cs cs' h.1 u s

pub same_but_checks : (Goes : Choice) (a t r : Tac) → SameButChecks a t → Dropped Goes t r → SameButChecks a r
same_but_checks Goes a t r s h = record {
  tables = same_tables_then a t r s.tables (same_tables Goes t r h);
  functions = λ u. same_but_at Goes (function_in a u) t.functions r.functions h.functions u (s.functions u);
}

-- the function that one is without some checks
came_of : (Goes : Choice) (cs cs' : List CodeFunction) → AreDropped Goes cs cs' → (u : ℕ) (c' : CodeFunction)
    → slice_get cs' u ≡ Some c'
    → (c : CodeFunction) × (slice_get cs u ≡ Some c) × FunctionDropped Goes c c'
came_of Goes [] [] h u c' e = cc
came_of Goes [] (d ∷ ds) h u c' e = absurd h
came_of Goes (c ∷ cs) [] h u c' e = absurd h
came_of Goes (c ∷ cs) (d ∷ ds) h zero c' e =
    let same : d ≡ c' = cc in
    (c, refl, subst (FunctionDropped Goes c) same h.0)
came_of Goes (c ∷ cs) (d ∷ ds) h (suc u) c' e = came_of Goes cs ds h.1 u c' e

pub closed_bodies : (Goes : Choice) (t r : Tac) → Dropped Goes t r → HaveClosedBodies t → HaveClosedBodies r
closed_bodies Goes t r h k = record {
  by = λ u c' e.
      let q = came_of Goes t.functions r.functions h.functions u c' e in
      still_closed Goes q.0 c' q.2 (k.by u q.0 q.1);
}

pub kept_variables : (Goes : Choice) (t r : Tac) → Dropped Goes t r → KeepVariables t → KeepVariables r
kept_variables Goes t r h k = record {
  by = λ u c' e number l is.
      let q = came_of Goes t.functions r.functions h.functions u c' e in
      still_keeps Goes q.0 c' q.2 (k.by u q.0 q.1) number l is;
}
