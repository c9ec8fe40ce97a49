-- Code that is passed over where a condition holds, and code by which one of two is done.
use Rattle.std.proofs.Common.{◌≡◌, ◌⊎◌, inl, inr, ⊎_elim, ℕ, zero, suc, ◌+◌, ◌<◌, ◌≤◌, refl, sym, subst}
use Rattle.std.proofs.Common.{arith, List, [], ◌∷◌, ◌++◌, length, length-append, Some}
use Rattle.std.specs.Prelude.{slice_get}
use Rattle.std.proofs.lemmas.Bool.{cases_lt, cases_Bool, both_ways}
use Rattle.std.proofs.lemmas.Option.{same_Some, none-some, slice_get_within}
use Rattle.rv_isa.specs.declared.instruction.BranchOp.{BranchOp}
use Rattle.flat_code.specs.declared.instruction.RightOperand.{RightOperand}
use Rattle.flat_code.specs.declared.instruction.FlatInstruction.{FlatInstruction}
use Rattle.flat_code.specs.declared.instruction.FlatInstruction.TheVariants.{Branch, JumpForward}
use Rattle.flat_code.specs.declared.function.FlatProgram.{FlatProgram}
use Rattle.reg_plan.specs.Effects.{made_by, is_among, Leads}
use Rattle.image_laws.specs.Plans.Assignment.{Registers, IsOneOf, Way, Begins, Goes, IsAssigned, Assigns}
use Rattle.image_laws.specs.Plans.Assignment.{Names}
use Rattle.image_laws.proofs.Plans.Flow.{none_has, reads_nothing, OfOperand}
use Rattle.image_laws.proofs.Plans.Places.{get_append}
use Rattle.image_laws.proofs.Assignment.Leading.{leads_from}
use Rattle.image_laws.proofs.Assignment.Flows.{Local, Flows, EndsWith, stays_behind}
use Rattle.image_laws.proofs.Assignment.Straight.{sources_read}

-- ---- what code assigns by itself

module _ (p : FlatProgram) (u : ℕ) (P G F : Registers) (is : List FlatInstruction) (M : List ℕ)
    (a : Assigns p u F is 0 M) (names : Names p u is P) (more : (y : ℕ) → F y → G y) (given_low : (y : ℕ) → G y → P y)
    (made_low : (y : ℕ) → IsOneOf M y → P y) where
  record Known (k y : ℕ) : Type 0 where
    assigned : IsAssigned p G is k y
    low : P y

  wide : (k y : ℕ) → IsAssigned p F is k y → IsAssigned p G is k y
  wide k y f way = ⊎_elim (λ h. inl (more y h)) inr (f way)

  known : (pc : ℕ) (i : FlatInstruction) → slice_get is pc ≡ Some i → Local p u P Known (length is + 0) pc i
  known pc i at = record {
    stays = a.stays pc i at;
    reads = λ y r. record { assigned = wide pc y (a.reads pc y (i, at, r)); low = names.read pc y (i, at, r) };
    steps = λ q y to k.
        ⊎_elim inr
        (λ none. inl (record {
          assigned = λ way. ⊎_elim inl
              (λ m. ⊎_elim (λ e. absurd (both_ways (is_among (made_by p i) y) none e)) inr m)
              (k.assigned (Goes pc q i way at to));
          low = k.low;
        }))
        (cases_Bool (is_among (made_by p i) y));
    makes = λ q y to m only. record {
      assigned = ⊎_elim (λ lt. wide q y (a.makes pc q y i at to (i, at, m, only) lt))
          (λ le. ⊎_elim (λ f way. inl (more y f)) (λ one. wide q y (a.made_behind q y le one))
          (a.ends pc q y i at to (i, at, m, only) le))
          (cases_lt q (length is));
      low = names.made pc y (i, at, m);
    };
    named = λ y m. names.made pc y (i, at, m);
  }

  way_within : (k : ℕ) → Way is k → k ≤ length is + 0
  way_within _ Begins = omega arith
  way_within _ (Goes pc q i way at to) =
      let within = slice_get_within is pc i at in
      let same : 0 + pc ≡ pc = omega arith in
      let t = leads_from i 0 pc q (length is + 0) (a.stays pc i at) (omega (arith, within))
      (subst (λ z. Leads i z q) (sym same) to) in
      omega (arith, t.is, t.within)

  pub flows_of : Flows p u P G is 0 M
  flows_of = record {
    at = Known;
    start = λ y k. ⊎_elim (λ g. g) absurd (k.assigned Begins);
    keeps = λ k y g. record { assigned = λ way. inl g; low = given_low y g };
    low = λ k y h. h.low;
    each = known;
    behind = λ q y le k.
        ⊎_elim (λ lt. record { assigned = λ way. absurd (let w = way_within q way in omega (arith, w, lt)); low = k.low })
        (λ ge. let same : length is ≡ q = omega (arith, le, ge) in subst (λ z. Known z y) same k)
        (cases_lt (length is) q);
    made = λ y m. record { assigned = wide (length is) y (a.made_behind (length is) y (omega arith) m); low = made_low y m };
  }

-- ---- code that is passed over

module _ (p : FlatProgram) (u : ℕ) (P G : Registers) (op : BranchOp) (x : ℕ) (z : RightOperand)
    (is : List FlatInstruction) (f : Flows p u P G is 0 []) (ends : EndsWith p is G) (left : G x) (right : OfOperand G z)
    (given_low : (y : ℕ) → G y → P y) where
  record Unless (k y : ℕ) : Type 0 where
    first : k ≡ 0 → G y
    inside : (j : ℕ) → k ≡ 1 + j → j < length is → f.at j y
    end : 1 + length is ≤ k → G y
    named : P y

  all_of : (k y : ℕ) → G y → Unless k y
  all_of k y g = record {
    first = λ e. g;
    inside = λ j e lt. f.keeps j y g;
    end = λ le. g;
    named = given_low y g;
  }

  inside_of : (k j y : ℕ) → k ≡ 1 + j → f.at j y → (length is ≤ j → G y) → Unless k y
  inside_of k j y e a g = record {
    first = λ e'. absurd (omega (arith, e, e'));
    inside = λ j' e' lt. let same : j ≡ j' = omega (arith, e, e') in subst (λ z. f.at z y) same a;
    end = λ le. g (omega (arith, le, e));
    named = f.low j y a;
  }

  -- what is assigned where its code leads
  reached : (q j y : ℕ) → q ≡ 1 + j → Unless q y → f.at j y
  reached q j y e h =
      ⊎_elim (λ lt. h.inside j e lt) (λ le. f.keeps j y (h.end (omega (arith, le, e)))) (cases_lt j (length is))

  branch : FlatInstruction
  branch = Branch op x z (length is)

  first_local : Local p u P Unless (length (Branch op x z (length is) ∷ is) + 0) 0 (Branch op x z (length is))
  first_local = record {
    stays = omega arith;
    reads = λ y r. all_of 0 y (sources_read p u P G (Branch op x z (length is)) y (left, right) r);
    steps = λ q y to h.
        inl (all_of 0 y (⊎_elim
        (λ e. let next = same_Some (0 + 1) q e in
        f.start y (reached q 0 y (omega (arith, next)) h))
        (λ e. let past = same_Some (0 + 1 + length is) q e in h.end (omega (arith, past))) to));
    makes = λ q y to m only. absurd (none_has y m);
    named = λ y m. absurd (none_has y m);
  }

  rest_local : (pc j : ℕ) (i : FlatInstruction) → pc ≡ 1 + j → slice_get is j ≡ Some i
      → Local p u P Unless (length (Branch op x z (length is) ∷ is) + 0) pc i
  rest_local pc j i e at =
      let within = slice_get_within is j i at in
      let l = f.each j i at in
      let target = λ (q : ℕ) (to : Leads i pc q).
      leads_from i 1 j q (length is + 0) l.stays (omega (arith, within)) (subst (λ z. Leads i z q) e to) in
      record {
        stays = stays_behind 1 (length is + 0) (length (Branch op x z (length is) ∷ is) + 0) j pc i (omega arith) e
            l.stays;
        reads = λ y r. inside_of pc j y e (l.reads y r) (λ le. absurd (omega (arith, within, le)));
        steps = λ q y to h.
            let t = target q to in
            ⊎_elim (λ k. inl (inside_of pc j y e k (λ le. absurd (omega (arith, within, le))))) inr
            (l.steps t.to y t.leads (reached q t.to y t.is h));
        makes = λ q y to m only.
            let t = target q to in
            inside_of q t.to y t.is (l.makes t.to y t.leads m only)
            (λ le. ends.ends j t.to y i at t.leads (i, at, m, only) le);
        named = l.named;
      }

  pub unless : Flows p u P G (Branch op x z (length is) ∷ is) 0 []
  unless = record {
    at = Unless;
    start = λ y h. h.first refl;
    keeps = all_of;
    low = λ k y h. h.named;
    each = by;
    behind = λ q y le h. all_of q y (h.end (omega arith));
    made = λ y m. absurd m;
  }
    where
      by : (pc : ℕ) (i : FlatInstruction) → slice_get (Branch op x z (length is) ∷ is) pc ≡ Some i
          → Local p u P Unless (length (Branch op x z (length is) ∷ is) + 0) pc i
      by zero i at =
          subst (Local p u P Unless (length (Branch op x z (length is) ∷ is) + 0) 0) (same_Some (Branch op x z (length is)) i at)
          first_local
      by (suc pc) i at = rest_local (suc pc) pc i (omega arith) at

-- ---- one of two is done

module _ (p : FlatProgram) (u : ℕ) (P G : Registers) (op : BranchOp) (x : ℕ) (z : RightOperand) (M : List ℕ)
    (is js : List FlatInstruction) (f : Flows p u P G is 0 M) (g : Flows p u P G js 0 M)
    (ends : EndsWith p js (λ y. G y ⊎ IsOneOf M y)) (left : G x) (right : OfOperand G z)
    (given_low : (y : ℕ) → G y → P y) where
  abbrev pub either_code : List FlatInstruction
  either_code = Branch op x z (length is + 1) ∷ (is ++ (JumpForward (length js) ∷ js))

  record Either (k y : ℕ) : Type 0 where
    first : k ≡ 0 → G y
    inside : (j : ℕ) → k ≡ 1 + j → j ≤ length is → f.at j y
    other : (j : ℕ) → k ≡ length is + 2 + j → j < length js → g.at j y
    end : length is + 2 + length js ≤ k → G y ⊎ IsOneOf M y
    named : P y

  at_all : (k y : ℕ) → G y → Either k y
  at_all k y r = record {
    first = λ e. r;
    inside = λ j e lt. f.keeps j y r;
    other = λ j e lt. g.keeps j y r;
    end = λ le. inl r;
    named = given_low y r;
  }

  in_first : (k j y : ℕ) → k ≡ 1 + j → j ≤ length is → f.at j y → Either k y
  in_first k j y e le a = record {
    first = λ e'. absurd (omega (arith, e, e'));
    inside = λ j' e' lt. let same : j ≡ j' = omega (arith, e, e') in subst (λ z. f.at z y) same a;
    other = λ j' e' lt. absurd (omega (arith, e, e', le));
    end = λ le'. absurd (omega (arith, e, le, le'));
    named = f.low j y a;
  }

  in_second : (k j y : ℕ) → k ≡ length is + 2 + j → g.at j y → (length js ≤ j → G y ⊎ IsOneOf M y) → Either k y
  in_second k j y e a r = record {
    first = λ e'. absurd (omega (arith, e, e'));
    inside = λ j' e' lt. absurd (omega (arith, e, e', lt));
    other = λ j' e' lt. let same : j ≡ j' = omega (arith, e, e') in subst (λ z. g.at z y) same a;
    end = λ le. r (omega (arith, le, e));
    named = g.low j y a;
  }

  of_second : (q j y : ℕ) → q ≡ length is + 2 + j → j ≤ length js → Either q y → g.at j y
  of_second q j y e within h =
      ⊎_elim (λ lt. h.other j e lt)
      (λ le. let same : length js ≡ j = omega (arith, le, within) in
      subst (λ z. g.at z y) same (⊎_elim (g.keeps (length js) y) (g.made y) (h.end (omega (arith, le, e)))))
      (cases_lt j (length js))

  abbrev Here : (pc : ℕ) → FlatInstruction → Type 0
  Here pc i = Local p u P Either (length either_code + 0) pc i

  whole : length either_code ≡ length is + 2 + length js
  whole = let e = length-append is (JumpForward (length js) ∷ js) in omega (arith, e)

  here_branch : Here 0 (Branch op x z (length is + 1))
  here_branch =
      let all = whole in
      record {
        stays = omega (arith, all);
        reads = λ y r. at_all 0 y (sources_read p u P G (Branch op x z (length is + 1)) y (left, right) r);
        steps = λ q y to h.
            inl (at_all 0 y (⊎_elim
            (λ e. let next = same_Some (0 + 1) q e in
            f.start y (h.inside 0 (omega (arith, next)) (omega arith)))
            (λ e. let past = same_Some (0 + 1 + (length is + 1)) q e in
            g.start y (of_second q 0 y (omega (arith, past)) (omega arith) h)) to));
        makes = λ q y to m only. absurd (none_has y m);
        named = λ y m. absurd (none_has y m);
      }

  here_first : (pc j : ℕ) (i : FlatInstruction) → pc ≡ 1 + j → slice_get is j ≡ Some i → Here pc i
  here_first pc j i e at =
      let all = whole in
      let within = slice_get_within is j i at in
      let l = f.each j i at in
      let target = λ (q : ℕ) (to : Leads i pc q).
      leads_from i 1 j q (length is + 0) l.stays (omega (arith, within)) (subst (λ z. Leads i z q) e to) in
      record {
        stays = stays_behind 1 (length is + 0) (length either_code + 0) j pc i (omega (arith, all)) e l.stays;
        reads = λ y r. in_first pc j y e (omega (arith, within)) (l.reads y r);
        steps = λ q y to h.
            let t = target q to in
            ⊎_elim (λ k. inl (in_first pc j y e (omega (arith, within)) k)) inr
            (l.steps t.to y t.leads (h.inside t.to t.is (omega (arith, t.within))));
        makes = λ q y to m only.
            let t = target q to in in_first q t.to y t.is (omega (arith, t.within)) (l.makes t.to y t.leads m only);
        named = l.named;
      }

  here_jump : (pc : ℕ) → pc ≡ 1 + length is → Here pc (JumpForward (length js))
  here_jump pc e =
      let all = whole in
      record {
        stays = omega (arith, all, e);
        reads = λ y r. absurd (reads_nothing y r);
        steps = λ q y to h.
            inl (in_first pc (length is) y e (omega arith) (⊎_elim
            (λ s. let past = same_Some (pc + 1 + length js) q s in
            ⊎_elim (f.keeps (length is) y) (f.made y) (h.end (omega (arith, past, e))))
            (λ s. absurd (none-some q s)) to));
        makes = λ q y to m only. absurd (none_has y m);
        named = λ y m. absurd (none_has y m);
      }

  here_second : (pc j : ℕ) (i : FlatInstruction) → pc ≡ length is + 2 + j → slice_get js j ≡ Some i → Here pc i
  here_second pc j i e at =
      let all = whole in
      let within = slice_get_within js j i at in
      let l = g.each j i at in
      let target = λ (q : ℕ) (to : Leads i pc q).
      leads_from i (length is + 2) j q (length js + 0) l.stays (omega (arith, within)) (subst (λ z. Leads i z q) e to) in
      record {
        stays = stays_behind (length is + 2) (length js + 0) (length either_code + 0) j pc i (omega (arith, all)) e l.stays;
        reads = λ y r. in_second pc j y e (l.reads y r) (λ le. absurd (omega (arith, within, le)));
        steps = λ q y to h.
            let t = target q to in
            ⊎_elim (λ k. inl (in_second pc j y e k (λ le. absurd (omega (arith, within, le))))) inr
            (l.steps t.to y t.leads (of_second q t.to y t.is (omega (arith, t.within)) h));
        makes = λ q y to m only.
            let t = target q to in
            in_second q t.to y t.is (l.makes t.to y t.leads m only)
            (λ le. ends.ends j t.to y i at t.leads (i, at, m, only) le);
        named = l.named;
      }

  pub either : Flows p u P G either_code 0 M
  either =
      let all = whole in
      record {
        at = Either;
        start = λ y h. h.first refl;
        keeps = at_all;
        low = λ k y h. h.named;
        each = by;
        behind = λ q y le h. record {
          first = λ e. absurd (omega (arith, e, le, all));
          inside = λ j e lt. absurd (omega (arith, e, lt, le, all));
          other = λ j e lt. absurd (omega (arith, e, lt, le, all));
          end = λ le'. h.end (omega (arith, all));
          named = h.named;
        };
        made = λ y m. in_second (length either_code) (length js) y (omega (arith, all)) (g.made y m) (λ le. inr m);
      }
    where
      by : (pc : ℕ) (i : FlatInstruction) → slice_get either_code pc ≡ Some i → Here pc i
      by zero i at = subst (Here 0) (same_Some (Branch op x z (length is + 1)) i at) here_branch
      by (suc pc) i at =
          ⊎_elim (λ a. here_first (suc pc) pc i (omega arith) a)
          (λ b. behind b.0 b.1 b.2)
          (get_append is (JumpForward (length js) ∷ js) pc i at)
        where
          behind : (j : ℕ) → pc ≡ length is + j → slice_get (JumpForward (length js) ∷ js) j ≡ Some i → Here (suc pc) i
          behind zero e at' =
              subst (Here (suc pc)) (same_Some (JumpForward (length js)) i at') (here_jump (suc pc) (omega (arith, e)))
          behind (suc j) e at' = here_second (suc pc) j i (omega (arith, e)) at'
