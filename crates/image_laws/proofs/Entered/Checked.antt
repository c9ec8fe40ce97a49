-- Checks that are put in need no more homes than their accesses, and no temporaries that these do not read.
use Rattle.std.proofs.Common.{◌≡◌, ◌⊎◌, inl, inr, ⊎_elim, ℕ, zero, suc, true, false, ◌==◌, Option, Some}
use Rattle.std.proofs.Common.{None, refl, sym, ◌∙◌, subst}
use Rattle.std.specs.Prelude.{slice_get}
use Rattle.std.proofs.lemmas.Bool.{or_left, false≢true}
use Rattle.std.proofs.lemmas.Option.{same_Some}
use Rattle.obj_memory.specs.Access.{scalar_size}
use Rattle.obj_memory.specs.declared.value.Scalar.{Scalar}
use Rattle.c_tree.specs.declared.expression.Kind.{Kind}
use Rattle.c_tree.specs.declared.expression.Kind.TheVariants.{Void, Scalar as OfScalar, Structure, Array}
use Rattle.c_tree.specs.declared.expression.Update.{Update}
use Rattle.c_tree.specs.declared.expression.Fixity.{Fixity}
use Rattle.c_tree.specs.Kinds.{size_of_kind}
use Rattle.tac_ir.specs.declared.instruction.Mode.{Mode}
use Rattle.tac_ir.specs.declared.instruction.Mode.TheVariants.{Named, Unchecked, Judged}
use Rattle.tac_ir.specs.declared.instruction.RightOperand.{RightOperand}
use Rattle.tac_ir.specs.declared.instruction.Test.{Test}
use Rattle.tac_ir.specs.declared.instruction.Test.TheVariants.{Spatial, Temporal}
use Rattle.tac_ir.specs.declared.instruction.Instruction.{Instruction}
use Rattle.tac_ir.specs.declared.instruction.Instruction.TheVariants as tac
use Rattle.tac_ir.specs.declared.key.Key.{Key}
use Rattle.tac_ir.specs.declared.function.CodeFunction.{CodeFunction}
use Rattle.tac_ir.specs.Edges.{LeadsTo}
use Rattle.check_insert.specs.Inserted.{Checked, ReadIn, WriteIn, StandsFor, FunctionIn}
use Rattle.check_elim.specs.Dropped.{Choice, CodeDropped, skipped}
use Rattle.check_elim.specs.Paths.{Path, Start, On}
use Rattle.metadata_plan.specs.Entries.{key_in}
use Rattle.c_lower.specs.Liveness.Liveness.{reads, writes, LiveWithin, IsLive, is_right}
use Rattle.image_laws.specs.Plans.Assignment.{Registers, IsOneOf, IsMadeBefore}
use Rattle.image_laws.specs.Plans.Instructions.{home_compared, homes_read, entered_by}
use Rattle.image_laws.proofs.Entered.Along as steps
use Rattle.image_laws.proofs.Entered.Values.{needed}

temporal_none : (c : CodeFunction) (key : Option Key) (y : ℕ) → IsOneOf (home_compared c Temporal key) y → ⊥
temporal_none c None y h = h
temporal_none c (Some key) y h = h

-- lowered code, with its checks put in, and some of these dropped
module _ (Goes : Choice) (c : CodeFunction) (before checked : CodeFunction) (inserted : FunctionIn before checked)
    (dropped : CodeDropped Goes checked c.code) where
  abbrev Low : (steps : ℕ) → Registers → (node : ℕ) → Type 0
  Low = steps.Along before.code (needed c) (entered_by c)

  abbrev High : (steps : ℕ) → Registers → (node : ℕ) → Type 0
  High = steps.Along c.code (homes_read c) (entered_by c)

  -- what stands where a check was put in: it, or a skip
  data IsCheck (n : ℕ) (test : Test) (key : Option ℕ) (a m : ℕ) : Type 0 where
    Stays : (size line : ℕ) → slice_get c.code n ≡ Some (tac.Judge test size line key a m) → IsCheck n test key a m
    Went : slice_get c.code n ≡ Some (tac.Skip m) → IsCheck n test key a m

  check_at : (n : ℕ) (test : Test) (size line : ℕ) (key : Option ℕ) (a m : ℕ)
      → slice_get checked.code n ≡ Some (tac.Judge test size line key a m) → IsCheck n test key a m
  check_at n test size line key a m at =
      ⊎_elim (λ g. Went g.1) (λ g. Stays size line g.1) (dropped.nodes n (tac.Judge test size line key a m) at)

  -- what is no check stays
  stays : (n : ℕ) (i : Instruction) → skipped i ≡ i → slice_get checked.code n ≡ Some i → slice_get c.code n ≡ Some i
  stays n i same at =
      ⊎_elim (λ g. subst (λ z. slice_get c.code n ≡ Some z) same g.1) (λ g. g.1) (dropped.nodes n i at)

  -- ---- homes

  passes : (k : ℕ) (B : Registers) (n : ℕ) (test : Test) (key : Option ℕ) (a m : ℕ) → IsCheck n test key a m
      → ((y : ℕ) → IsOneOf (home_compared c test (key_in c key)) y → B y) → High k B m → High k B n
  passes k B n test key a m (Stays size line at) needs h =
      steps.goes c.code (homes_read c) (entered_by c) (tac.Judge test size line key a m) k B n m at needs (λ x q. q) h
  passes k B n test key a m (Went at) needs h =
      steps.goes c.code (homes_read c) (entered_by c) (tac.Skip m) k B n m at (λ y q. absurd q) (λ x q. q) h

  module _ (k : ℕ) (B : Registers) (n : ℕ) (again : (C : Registers) (m : ℕ) → Low k C m → High k C m) where
    -- an instruction that needs the same
    same_high : (i : Instruction) → ((y : ℕ) → IsOneOf (homes_read c i) y → IsOneOf (needed c i) y)
        → slice_get c.code n ≡ Some i → ((y : ℕ) → IsOneOf (needed c i) y → B y)
        → ((m : ℕ) → LeadsTo i m → Low k (λ y. B y ⊎ IsOneOf (entered_by c i) y) m) → High (suc k) B n
    same_high i less at needs on =
        steps.stepped c.code (homes_read c) (entered_by c) i k B n at (λ y r. needs y (less y r))
        (λ m l. again (λ y. B y ⊎ IsOneOf (entered_by c i) y) m (on m l))

    -- an access behind its checks, which need nothing themselves, and lead where the other one led
    behind_high : (size line : ℕ) (key : Option ℕ) (a m : ℕ) (i : Instruction) → skipped i ≡ i
        → Checked checked.code n size line key a i → ((y : ℕ) → IsOneOf (homes_read c i) y → ⊥)
        → ((x : ℕ) → LeadsTo i x → (x ≡ m) ⊎ ⊥)
        → ((y : ℕ) → IsOneOf (home_compared c Spatial (key_in c key)) y → B y)
        → ((y : ℕ) → IsOneOf (entered_by c i) y → ⊥) → Low k (λ y. B y ⊎ ⊥) m → High (suc k) B n
    behind_high size line key a m i kept ch none one needs enters h =
        let access : High (suc k) B ch.1 =
        steps.stepped c.code (homes_read c) (entered_by c) i k B ch.1 (stays ch.1 i kept ch.4)
        (λ y r. absurd (none y r))
        (λ x l. ⊎_elim
        (λ e. subst (High k (λ y. B y ⊎ IsOneOf (entered_by c i) y)) (sym e)
        (steps.more c.code (homes_read c) (entered_by c) k (λ y. B y ⊎ ⊥) (λ y. B y ⊎ IsOneOf (entered_by c i) y) m
        (λ y q. ⊎_elim inl (λ never. absurd never) q) (again (λ y. B y ⊎ ⊥) m h)))
        (λ never. absurd never) (one x l)) in
        passes (suc k) B n Spatial key a ch.0 (check_at n Spatial size line key a ch.0 ch.2) needs
        (passes (suc k) B ch.0 Temporal key a ch.1 (check_at ch.0 Temporal size line key a ch.1 ch.3)
        (λ y r. absurd (temporal_none c (key_in c key) y r)) access)

    read_high : (mode : Mode) (kind : Kind) (line : ℕ) (key : Option ℕ) (d a m : ℕ)
        → ReadIn checked.code n mode kind line key d a m
        → ((y : ℕ) → IsOneOf (home_compared c Spatial (key_in c key)) y → B y)
        → ((x : ℕ) → LeadsTo (tac.Read kind mode line key d a m) x → Low k (λ y. B y ⊎ ⊥) x) → High (suc k) B n
    read_high Named kind line key d a m st needs on =
        same_high (tac.Read kind Named line key d a m) (λ y r. absurd r)
        (stays n (tac.Read kind Named line key d a m) refl st) needs on
    read_high Judged kind line key d a m st needs on =
        same_high (tac.Read kind Judged line key d a m) (λ y r. absurd r)
        (stays n (tac.Read kind Judged line key d a m) refl st) needs on
    read_high Unchecked Void line key d a m st needs on =
        same_high (tac.Read Void Unchecked line key d a m) (λ y r. absurd r)
        (stays n (tac.Read Void Unchecked line key d a m) refl st) needs on
    read_high Unchecked (Array q) line key d a m st needs on =
        same_high (tac.Read (Array q) Unchecked line key d a m) (λ y r. absurd r)
        (stays n (tac.Read (Array q) Unchecked line key d a m) refl st) needs on
    read_high Unchecked (OfScalar q) line key d a m st needs on =
        behind_high (size_of_kind (OfScalar q)) line key a m (tac.Read (OfScalar q) Judged line key d a m) refl st
        (λ y r. r) (λ x l. l) needs (λ y r. r) (on m (inl refl))
    read_high Unchecked (Structure q) line key d a m st needs on =
        behind_high (size_of_kind (Structure q)) line key a m (tac.Read (Structure q) Judged line key d a m) refl st
        (λ y r. r) (λ x l. l) needs (λ y r. r) (on m (inl refl))

    write_high : (mode : Mode) (kind : Kind) (line : ℕ) (key : Option ℕ) (d a b m : ℕ)
        → WriteIn checked.code n mode kind line key d a b m
        → ((y : ℕ) → IsOneOf (home_compared c Spatial (key_in c key)) y → B y)
        → ((x : ℕ) → LeadsTo (tac.Write kind mode line key d a b m) x → Low k (λ y. B y ⊎ ⊥) x) → High (suc k) B n
    write_high Named kind line key d a b m st needs on =
        same_high (tac.Write kind Named line key d a b m) (λ y r. absurd r)
        (stays n (tac.Write kind Named line key d a b m) refl st) needs on
    write_high Judged kind line key d a b m st needs on =
        same_high (tac.Write kind Judged line key d a b m) (λ y r. absurd r)
        (stays n (tac.Write kind Judged line key d a b m) refl st) needs on
    write_high Unchecked Void line key d a b m st needs on =
        same_high (tac.Write Void Unchecked line key d a b m) (λ y r. absurd r)
        (stays n (tac.Write Void Unchecked line key d a b m) refl st) needs on
    write_high Unchecked (Array q) line key d a b m st needs on =
        same_high (tac.Write (Array q) Unchecked line key d a b m) (λ y r. absurd r)
        (stays n (tac.Write (Array q) Unchecked line key d a b m) refl st) needs on
    write_high Unchecked (OfScalar q) line key d a b m st needs on =
        behind_high (size_of_kind (OfScalar q)) line key a m (tac.Write (OfScalar q) Judged line key d a b m) refl st
        (λ y r. r) (λ x l. l) needs (λ y r. r) (on m (inl refl))
    write_high Unchecked (Structure q) line key d a b m st needs on =
        behind_high (size_of_kind (Structure q)) line key a m (tac.Write (Structure q) Judged line key d a b m) refl st
        (λ y r. r) (λ x l. l) needs (λ y r. r) (on m (inl refl))

    update_high : (mode : Mode) (w : Update) (q : Scalar) (f : Fixity) (line at : ℕ) (key : Option ℕ) (d a : ℕ)
        (right : RightOperand) (m : ℕ) → StandsFor checked.code n (tac.Update w q f mode line at key d a right m)
        → ((y : ℕ) → IsOneOf (home_compared c Spatial (key_in c key)) y → B y)
        → ((x : ℕ) → LeadsTo (tac.Update w q f mode line at key d a right m) x → Low k (λ y. B y ⊎ ⊥) x)
        → High (suc k) B n
    update_high Named w q f line at key d a right m st needs on =
        same_high (tac.Update w q f Named line at key d a right m) (λ y r. absurd r)
        (stays n (tac.Update w q f Named line at key d a right m) refl st) needs on
    update_high Judged w q f line at key d a right m st needs on =
        same_high (tac.Update w q f Judged line at key d a right m) (λ y r. absurd r)
        (stays n (tac.Update w q f Judged line at key d a right m) refl st) needs on
    update_high Unchecked w q f line at key d a right m st needs on =
        behind_high (scalar_size q) line key a m (tac.Update w q f Judged line at key d a right m) refl st
        (λ y r. r) (λ x l. l) needs (λ y r. r) (on m (inl refl))

    one_high : (i : Instruction) → StandsFor checked.code n i → ((y : ℕ) → IsOneOf (needed c i) y → B y)
        → ((m : ℕ) → LeadsTo i m → Low k (λ y. B y ⊎ IsOneOf (entered_by c i) y) m) → High (suc k) B n
    one_high (tac.Read kind mode line key d a m) st needs on = read_high mode kind line key d a m st needs on
    one_high (tac.Write kind mode line key d a b m) st needs on = write_high mode kind line key d a b m st needs on
    one_high (tac.Update w q f mode line at key d a right m) st needs on =
        update_high mode w q f line at key d a right m st needs on
    one_high (tac.Judge test size line key a m) st needs on = judged (check_at n test size line key a m st)
      where
        judged : IsCheck n test key a m → High (suc k) B n
        judged (Stays s l at) =
            steps.stepped c.code (homes_read c) (entered_by c) (tac.Judge test s l key a m) k B n at needs
            (λ x e. again (λ y. B y ⊎ ⊥) x (on x e))
        judged (Went at) =
            steps.stepped c.code (homes_read c) (entered_by c) (tac.Skip m) k B n at (λ y r. absurd r)
            (λ x e. again (λ y. B y ⊎ ⊥) x (on x e))
    one_high i st needs on = same_high i (λ y r. r) (stays n i refl st) needs on

  transfer : (k : ℕ) (B : Registers) (n : ℕ) → Low k B n → High k B n
  transfer zero B n h = tt
  transfer (suc k) B n h =
      one_high k B n (λ C m g. transfer k C m g) h.0 (inserted.code n h.0 h.1) h.2 h.3

  -- along a path
  on_path : (B : Registers) (n : ℕ) (path : Path c n) → ((k : ℕ) → High k B c.entry) → (k : ℕ)
      → High k (λ y. B y ⊎ IsMadeBefore c (entered_by c) y n path) n
  on_path B _ Start h k =
      steps.more c.code (homes_read c) (entered_by c) k B (λ y. B y ⊎ ⊥) c.entry (λ y b. inl b) (h k)
  on_path B _ (On n m i path at to) h k =
      let before = on_path B n path h (suc k) in
      let own : before.0 ≡ i = same_Some before.0 i (sym before.1 ∙ at) in
      let after = subst
      (λ z. (m : ℕ) → LeadsTo z m → High k (λ y. (B y ⊎ IsMadeBefore c (entered_by c) y n path) ⊎ IsOneOf (entered_by c z) y) m)
      own before.3 in
      steps.more c.code (homes_read c) (entered_by c) k
      (λ y. (B y ⊎ IsMadeBefore c (entered_by c) y n path) ⊎ IsOneOf (entered_by c i) y)
      (λ y. B y ⊎ (IsOneOf (entered_by c i) y ⊎ IsMadeBefore c (entered_by c) y n path)) m
      (λ y q. ⊎_elim (λ p. ⊎_elim inl (λ r. inr (inr r)) p) (λ r. inr (inl r)) q) (after m to)

  pub homes_given : (B : Registers) → ((k : ℕ) → Low k B c.entry) → (n y : ℕ) (i : Instruction)
      → slice_get c.code n ≡ Some i → IsOneOf (homes_read c i) y → (path : Path c n)
      → B y ⊎ IsMadeBefore c (entered_by c) y n path
  homes_given B h n y i at one path =
      let here = on_path B n path (λ k. transfer k B c.entry (h k)) 1 in
      let own : i ≡ here.0 = sym (same_Some here.0 i (sym here.1 ∙ at)) in
      here.2 y (subst (λ z. IsOneOf (homes_read c z) y) own one)

  -- ---- temporaries

  -- a node of the code before, and what it leads to
  record IsNode (B : Registers) (n : ℕ) : Type 0 where
    instruction : Instruction
    there : slice_get before.code n ≡ Some instruction
    on : (m : ℕ) → LeadsTo instruction m → (j : ℕ) → Low j (λ y. B y ⊎ IsOneOf (entered_by c instruction) y) m

  node : (B : Registers) (n : ℕ) → ((j : ℕ) → Low j B n) → IsNode B n
  node B n h =
      let first = h 1 in
      record {
        instruction = first.0;
        there = first.1;
        on = λ m l j.
            let s = h (suc j) in
            let own : s.0 ≡ first.0 = same_Some s.0 first.0 (sym s.1 ∙ first.1) in
            subst (λ z. (m : ℕ) → LeadsTo z m → Low j (λ y. B y ⊎ IsOneOf (entered_by c z) y) m) own s.3 m l;
      }

  longer : (k n z : ℕ) → LiveWithin c.code k n z → LiveWithin c.code (suc k) n z
  unfolding LiveWithin
  longer zero n z w = absurd w
  longer (suc k) n z w = (w.0, w.1, ⊎_elim inl (λ q. inr (q.0, q.1, q.2, longer k q.1 z q.3)) w.2)

  -- a check reads its pointer alone
  through : (k n z : ℕ) (test : Test) (key : Option ℕ) (a m : ℕ) → IsCheck n test key a m
      → LiveWithin c.code (suc k) n z → ((z == a) ≡ true) ⊎ LiveWithin c.code (suc k) m z
  unfolding LiveWithin
  through k n z test key a m (Stays size line at) w =
      let own : w.0 ≡ tac.Judge test size line key a m = same_Some w.0 (tac.Judge test size line key a m) (sym w.1 ∙ at) in
      ⊎_elim (λ r. inl (subst (λ i. reads i z ≡ true) own r))
      (λ q. ⊎_elim (λ e. inr (longer k m z (subst (λ x. LiveWithin c.code k x z) e q.3))) (λ never. absurd never)
      (subst (λ i. LeadsTo i q.1) own q.2)) w.2
  through k n z test key a m (Went at) w =
      let own : w.0 ≡ tac.Skip m = same_Some w.0 (tac.Skip m) (sym w.1 ∙ at) in
      ⊎_elim (λ r. absurd (false≢true (subst (λ i. reads i z ≡ true) own r)))
      (λ q. ⊎_elim (λ e. inr (longer k m z (subst (λ x. LiveWithin c.code k x z) e q.3))) (λ never. absurd never)
      (subst (λ i. LeadsTo i q.1) own q.2)) w.2

  read_here : (n z : ℕ) (i : Instruction) → slice_get before.code n ≡ Some i → reads i z ≡ true → IsLive before.code n z
  unfolding LiveWithin
  read_here n z i at r = record { steps = 1; within = (i, at, inl r) }

  read_behind : (n z m : ℕ) (i : Instruction) → slice_get before.code n ≡ Some i → writes i z ≡ false → LeadsTo i m
      → IsLive before.code m z → IsLive before.code n z
  unfolding LiveWithin
  read_behind n z m i at w to l = record { steps = suc l.steps; within = (i, at, inr (w, m, to, l.within)) }

  module _ (k n z : ℕ) (B : Registers) (within : LiveWithin c.code (suc k) n z)
      (again : (C : Registers) (m : ℕ) → ((j : ℕ) → Low j C m) → LiveWithin c.code k m z → IsLive before.code m z) where
    abbrev Next : Instruction → Type 0
    Next i = (m : ℕ) → LeadsTo i m → (j : ℕ) → Low j (λ y. B y ⊎ IsOneOf (entered_by c i) y) m

    -- an instruction at a node, for one at another that reads and writes no less and leads where that leads
    ends : (n' : ℕ) (i i' : Instruction) → slice_get before.code n ≡ Some i → slice_get c.code n' ≡ Some i'
        → (reads i' z ≡ true → reads i z ≡ true) → (writes i' z ≡ false → writes i z ≡ false)
        → ((x : ℕ) → LeadsTo i' x → LeadsTo i x) → Next i → LiveWithin c.code (suc k) n' z → IsLive before.code n z
    unfolding LiveWithin
    ends n' i i' at at' r w' to on w =
        let own : w.0 ≡ i' = same_Some w.0 i' (sym w.1 ∙ at') in
        ⊎_elim (λ q. read_here n z i at (r (subst (λ x. reads x z ≡ true) own q)))
        (λ q.
        let leads = to q.1 (subst (λ x. LeadsTo x q.1) own q.2) in
        read_behind n z q.1 i at (w' (subst (λ x. writes x z ≡ false) own q.0)) leads
        (again (λ y. B y ⊎ IsOneOf (entered_by c i) y) q.1 (on q.1 leads) q.3)) w.2

    same_live : (i : Instruction) → slice_get before.code n ≡ Some i → slice_get c.code n ≡ Some i → Next i
        → IsLive before.code n z
    same_live i at at' on = ends n i i at at' (λ q. q) (λ q. q) (λ x l. l) on within

    behind_live : (size line : ℕ) (key : Option ℕ) (a : ℕ) (i i' : Instruction) → slice_get before.code n ≡ Some i
        → skipped i' ≡ i' → Checked checked.code n size line key a i' → ((z == a) ≡ true → reads i z ≡ true)
        → (reads i' z ≡ true → reads i z ≡ true) → (writes i' z ≡ false → writes i z ≡ false)
        → ((x : ℕ) → LeadsTo i' x → LeadsTo i x) → Next i → IsLive before.code n z
    behind_live size line key a i i' at kept ch first r w' to on =
        ⊎_elim (λ e. read_here n z i at (first e))
        (λ v. ⊎_elim (λ e. read_here n z i at (first e))
        (λ u. ends ch.1 i i' at (stays ch.1 i' kept ch.4) r w' to on u)
        (through k ch.0 z Temporal key a ch.1 (check_at ch.0 Temporal size line key a ch.1 ch.3) v))
        (through k n z Spatial key a ch.0 (check_at n Spatial size line key a ch.0 ch.2) within)

    read_live : (mode : Mode) (kind : Kind) (line : ℕ) (key : Option ℕ) (d a m : ℕ) →
        let i = tac.Read kind mode line key d a m in
        slice_get before.code n ≡ Some i → ReadIn checked.code n mode kind line key d a m → Next i
        → IsLive before.code n z
    read_live Named kind line key d a m at st on =
        same_live (tac.Read kind Named line key d a m) at (stays n (tac.Read kind Named line key d a m) refl st) on
    read_live Judged kind line key d a m at st on =
        same_live (tac.Read kind Judged line key d a m) at (stays n (tac.Read kind Judged line key d a m) refl st) on
    read_live Unchecked Void line key d a m at st on =
        same_live (tac.Read Void Unchecked line key d a m) at (stays n (tac.Read Void Unchecked line key d a m) refl st) on
    read_live Unchecked (Array q) line key d a m at st on =
        same_live (tac.Read (Array q) Unchecked line key d a m) at
        (stays n (tac.Read (Array q) Unchecked line key d a m) refl st) on
    read_live Unchecked (OfScalar q) line key d a m at st on =
        behind_live (size_of_kind (OfScalar q)) line key a (tac.Read (OfScalar q) Unchecked line key d a m)
        (tac.Read (OfScalar q) Judged line key d a m) at refl st (λ e. e) (λ e. e) (λ e. e) (λ x l. l) on
    read_live Unchecked (Structure q) line key d a m at st on =
        behind_live (size_of_kind (Structure q)) line key a (tac.Read (Structure q) Unchecked line key d a m)
        (tac.Read (Structure q) Judged line key d a m) at refl st (λ e. e) (λ e. e) (λ e. e) (λ x l. l) on

    write_live : (mode : Mode) (kind : Kind) (line : ℕ) (key : Option ℕ) (d a b m : ℕ) →
        let i = tac.Write kind mode line key d a b m in
        slice_get before.code n ≡ Some i → WriteIn checked.code n mode kind line key d a b m → Next i
        → IsLive before.code n z
    write_live Named kind line key d a b m at st on =
        same_live (tac.Write kind Named line key d a b m) at (stays n (tac.Write kind Named line key d a b m) refl st) on
    write_live Judged kind line key d a b m at st on =
        same_live (tac.Write kind Judged line key d a b m) at (stays n (tac.Write kind Judged line key d a b m) refl st) on
    write_live Unchecked Void line key d a b m at st on =
        same_live (tac.Write Void Unchecked line key d a b m) at
        (stays n (tac.Write Void Unchecked line key d a b m) refl st) on
    write_live Unchecked (Array q) line key d a b m at st on =
        same_live (tac.Write (Array q) Unchecked line key d a b m) at
        (stays n (tac.Write (Array q) Unchecked line key d a b m) refl st) on
    write_live Unchecked (OfScalar q) line key d a b m at st on =
        behind_live (size_of_kind (OfScalar q)) line key a (tac.Write (OfScalar q) Unchecked line key d a b m)
        (tac.Write (OfScalar q) Judged line key d a b m) at refl st (or_left (z == a) (z == b)) (λ e. e) (λ e. e)
        (λ x l. l) on
    write_live Unchecked (Structure q) line key d a b m at st on =
        behind_live (size_of_kind (Structure q)) line key a (tac.Write (Structure q) Unchecked line key d a b m)
        (tac.Write (Structure q) Judged line key d a b m) at refl st (or_left (z == a) (z == b)) (λ e. e) (λ e. e)
        (λ x l. l) on

    update_live : (mode : Mode) (w : Update) (q : Scalar) (f : Fixity) (line at : ℕ) (key : Option ℕ) (d a : ℕ)
        (right : RightOperand) (m : ℕ) →
        let i = tac.Update w q f mode line at key d a right m in
        slice_get before.code n ≡ Some i → StandsFor checked.code n i → Next i → IsLive before.code n z
    update_live Named w q f line at key d a right m here st on =
        same_live (tac.Update w q f Named line at key d a right m) here
        (stays n (tac.Update w q f Named line at key d a right m) refl st) on
    update_live Judged w q f line at key d a right m here st on =
        same_live (tac.Update w q f Judged line at key d a right m) here
        (stays n (tac.Update w q f Judged line at key d a right m) refl st) on
    update_live Unchecked w q f line at key d a right m here st on =
        behind_live (scalar_size q) line key a (tac.Update w q f Unchecked line at key d a right m)
        (tac.Update w q f Judged line at key d a right m) here refl st (or_left (z == a) (is_right right z)) (λ e. e)
        (λ e. e) (λ x l. l) on

    one_live : (i : Instruction) → slice_get before.code n ≡ Some i → StandsFor checked.code n i → Next i
        → IsLive before.code n z
    one_live (tac.Read kind mode line key d a m) at st on = read_live mode kind line key d a m at st on
    one_live (tac.Write kind mode line key d a b m) at st on = write_live mode kind line key d a b m at st on
    one_live (tac.Update v q f mode line place key d a right m) at st on =
        update_live mode v q f line place key d a right m at st on
    one_live (tac.Judge test size line key a m) at st on = judged (check_at n test size line key a m st)
      where
        judged : IsCheck n test key a m → IsLive before.code n z
        judged (Stays s l at') =
            ends n (tac.Judge test size line key a m) (tac.Judge test s l key a m) at at' (λ e. e) (λ e. e) (λ x l. l) on within
        judged (Went at') =
            ends n (tac.Judge test size line key a m) (tac.Skip m) at at' (λ e. absurd (false≢true e)) (λ e. e) (λ x l. l) on
            within
    one_live i at st on = same_live i at (stays n i refl st) on

  live : (k n z : ℕ) (B : Registers) → ((j : ℕ) → Low j B n) → LiveWithin c.code k n z → IsLive before.code n z
  unfolding LiveWithin
  live zero n z B h w = absurd w
  live (suc k) n z B h w =
      let here = node B n h in
      one_live k n z B w (λ C m g v. live k m z C g v) here.instruction here.there
      (inserted.code n here.instruction here.there) here.on

  pub none_live : (B : Registers) (z : ℕ) → ((j : ℕ) → Low j B c.entry)
      → (IsLive before.code c.entry z → ⊥) → IsLive c.code c.entry z → ⊥
  none_live B z h none l = none (live l.steps c.entry z B h l.within)
