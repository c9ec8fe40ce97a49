-- A routine does the same over other registers, and wherever it stands.
use Rattle.std.proofs.Common.{◌≡◌, ℕ, zero, suc, ◌+◌, ◌<◌, ◌≤◌, List, [], ◌∷◌, ◌++◌, ◌%◌, Bool, true, false}
use Rattle.std.proofs.Common.{not, ◌&&◌, if◌then◌else◌, Some, None, Option, map, get_or, length, refl, sym, ap, ◌∙◌}
use Rattle.std.proofs.Common.{subst}
use Rattle.std.proofs.Common.{arith, ⊎_elim}
use Rattle.std.specs.Prelude.{slice_get, option_map, nat_lt, nat_le, drop}
use Rattle.std.proofs.lemmas.Bool.{cases_eq, and_parts, ltb-true, leb-true}
use Rattle.std.proofs.lemmas.Option.{slice_get-map, slice_get_cases}
use Rattle.behaviours.specs.Shown.{AccessKind, Read, Write}
use Rattle.rv_isa.specs.declared.instruction.LoadOp.{LoadOp}
use Rattle.rv_isa.specs.declared.instruction.StoreOp.{StoreOp}
use Rattle.rv_isa.specs.Results.{wrap, low_word, branch_taken, reg_result, reg32_result, load_bytes, extended}
use Rattle.rv_isa.specs.Results.{store_bytes}
use Rattle.flat_code.specs.declared.instruction.RightOperand.{RightOperand}
use Rattle.flat_code.specs.declared.instruction.RightOperand.TheVariants.{Register, Number}
use Rattle.flat_code.specs.declared.instruction.FlatInstruction.{FlatInstruction}
use Rattle.flat_code.specs.declared.instruction.FlatInstruction.TheVariants.{Constant, Move, Operate, Operate32}
use Rattle.flat_code.specs.declared.instruction.FlatInstruction.TheVariants.{Load, Store, Branch, JumpForward}
use Rattle.flat_code.specs.declared.instruction.FlatInstruction.TheVariants.{JumpBack, Turn, Call, CallAddress}
use Rattle.flat_code.specs.declared.instruction.FlatInstruction.TheVariants.{Return, Get, Put, Exit, End, Charged}
use Rattle.flat_code.specs.Memory.{put, load, store}
use Rattle.flat_code.specs.Spaces.{is_of_objects, is_allowed}
use Rattle.flat_code.specs.State.{Values, State}
use Rattle.flat_code.specs.Meaning.{Context, Local, Goes, Ends, Leaves, Fails, right_value, with_register}
use Rattle.flat_code.specs.Meaning.{with_access, local_cost}
use Rattle.flat_code.specs.Meaning.{loads, stores, received, local}
use Rattle.flat_code.proofs.Stored.{put_same, put_other}
use Rattle.flat_code.specs.Routines.Local.{counted, act, local_step, local_run}
use Rattle.flat_code.specs.Routines.Routine.{HasAt, Outcome, Continues, Halts, left_at, Reaches, Either}
use Rattle.flat_code.specs.Routines.Renaming.{rename_right, rename, reads_right, fits, all_fit, IsRenaming, ChangesOnly}
use Rattle.flat_code.specs.Routines.Renaming.{Agrees}
use Rattle.flat_code.specs.Routines.Renaming.{through}
use Rattle.flat_code.specs.Routines.Laws.{AgreeAtEnd, Arrives}
use Rattle.flat_code.proofs.Routines.Steps.{run_zero, run_suc, run_ended, run_left, run_failed}

has_get : (code r : List FlatInstruction) (pc i : ℕ) (x : FlatInstruction) → HasAt code pc r → slice_get r i ≡ Some x
    → slice_get code (pc + i) ≡ Some x
has_get code [] pc i x h e = cc
has_get code (y ∷ r) pc zero x h e = let n : pc ≡ pc + 0 = omega arith in
    subst (λ k. slice_get code k ≡ Some x) n (h.0 ∙ e)
has_get code (y ∷ r) pc (suc i) x h e = let n : pc + 1 + i ≡ pc + suc i = omega arith in
    subst (λ k. slice_get code k ≡ Some x) n (has_get code r (pc + 1) i x h.1 e)

fit_get : (n d len i : ℕ) (r : List FlatInstruction) (j : ℕ) (x : FlatInstruction) → all_fit n d len i r ≡ true
    → slice_get r j ≡ Some x → fits n d len (i + j) x ≡ true
fit_get n d len i [] j x h e = cc
fit_get n d len i (y ∷ r) zero x h e =
    let p = and_parts (fits n d len i y) (all_fit n d len (i + 1) r) h in
    let m : i ≡ i + 0 = omega arith in
    let same : y ≡ x = cc in
    subst (λ z. fits n d len (i + 0) z ≡ true) same (subst (λ k. fits n d len k y ≡ true) m p.0)
fit_get n d len i (y ∷ r) (suc j) x h e =
    let p = and_parts (fits n d len i y) (all_fit n d len (i + 1) r) h in
    let m : i + 1 + j ≡ i + suc j = omega arith in
    subst (λ k. fits n d len k x ≡ true) m (fit_get n d len (i + 1) r j x p.1 e)

le_of : (a b : ℕ) → nat_le a b ≡ true → a ≤ b
le_of a b e = leb-true a b e

lt_of : (a b : ℕ) → nat_lt a b ≡ true → a < b
lt_of a b e = ltb-true a b e

-- both runs side by side: the routine alone from 0 on, over its own registers, and in the code from pc on
module _ (c : Context) (n d : ℕ) (f : ℕ → ℕ) (names : IsRenaming n d f) (len pc : ℕ) (s0 : State) where
  record Rel (v s : State) : Type 0 where
    agrees : Agrees n f v s
    only : ChangesOnly n d f s0 s

  abbrev RelAt : Local → Local → Type 0
  RelAt (Goes i v) (Goes j s) = (j ≡ pc + i) × (i ≤ len) × Rel v s
  RelAt (Ends status report v) (Ends status' report' s) = (status ≡ status') × (report ≡ report') × Rel v s
  RelAt Leaves Leaves = Unit {0}
  RelAt Fails Fails = Unit {0}
  RelAt _ _ = ⊥

  register_rel : (v s : State) (k w w' : ℕ) → d ≤ k → k < n → w ≡ w' → Rel v s
      → Rel (with_register k w v) (with_register (f k) w' s)
  register_rel v s k w w' dk kn e r = record {
    agrees = record {
      values = λ j jn. ⊎_elim
          (λ (same : j ≡ k). ap (put v.values k w) same ∙ put_same v.values k w ∙ e
          ∙ sym (put_same s.values (f k) w') ∙ ap (λ i. put s.values (f k) w' (f i)) (sym same))
          (λ (other : j ≡ k → ⊥). put_other v.values k w j other ∙ r.agrees.values j jn
          ∙ sym (put_other s.values (f k) w' (f j) (λ q. other (names.apart j k jn dk kn q))))
          (cases_eq j k);
      rest = ap with_this r.agrees.rest;
    };
    only = record { others = λ x h. put_other s.values (f k) w' x (h k dk kn) ∙ r.only.others x h };
  }
    where
      with_this : State → State
      with_this z = record z { values = put s.values (f k) w' }

  -- what does not look at the registers and leaves them keeps the relation
  kept_rel : (v s : State) (g : State → State)
      → ((z : State) (values : Values) → g (record z { values = values }) ≡ record (g z) { values = values })
      → Rel v s → Rel (g v) (g s)
  kept_rel v s g commutes r =
      let own : (z : State) → (g z).values ≡ z.values = λ z. ap (λ y. y.values) (commutes z z.values) in
      record {
        agrees = record {
          values = λ j jn. ap (λ y. y j) (own v) ∙ r.agrees.values j jn ∙ ap (λ y. y (f j)) (sym (own s));
          rest = ap g r.agrees.rest ∙ commutes v s.values ∙ ap (λ y. record (g v) { values = y }) (sym (own s));
        };
        only = record { others = λ x h. ap (λ y. y x) (own s) ∙ r.only.others x h };
      }

  memory_same : (v s : State) → Rel v s → s.memory ≡ v.memory
  memory_same v s r = ap (λ z. z.memory) r.agrees.rest

  input_same : (v s : State) → Rel v s → s.input ≡ v.input
  input_same v s r = ap (λ z. z.input) r.agrees.rest

  value_same : (v s : State) (y : ℕ) → nat_lt y n ≡ true → Rel v s → v.values y ≡ s.values (f y)
  value_same v s y e r = r.agrees.values y (lt_of y n e)

  right_same : (v s : State) (z : RightOperand) → reads_right n z ≡ true → Rel v s
      → right_value z v.values ≡ right_value (rename_right f z) s.values
  right_same v s (Register x) e r = value_same v s x e r
  right_same v s (Number k) e r = refl

  next_rel : (i : ℕ) (v s : State) → i < len → Rel v s → RelAt (Goes (i + 1) v) (Goes (pc + i + 1) s)
  next_rel i v s l r = (omega arith, omega arith, r)

  choice_rel : (b : Bool) (l l' : Local) → RelAt l l' → RelAt (if b then l else Fails) (if b then l' else Fails)
  choice_rel true l l' h = h
  choice_rel false l l' h = tt

  access_rel : (v s : State) (a k : ℕ) (kind : AccessKind) → Rel v s
      → Rel (with_access c a k kind v) (with_access c a k kind s)
  access_rel v s a k kind r = kept_rel v s (with_access c a k kind)
      (λ z values. by z values (not c.is_runtime && is_of_objects c.sizes a k)) r
    where
      by : (z : State) (values : Values) (b : Bool)
          → (if b then record (record z { values = values }) {
            accesses = z.accesses ++ record {
              address = a;
              size =
                  k;
              kind = kind;
            } ∷ [];
          } else record z { values = values })
          ≡ record (if b then record z {
            accesses = z.accesses ++ record { address = a; size = k; kind = kind } ∷ [];
          } else z) { values = values }
      by z values true = refl
      by z values false = refl

  loads_rel : (op : LoadOp) (x a a' i : ℕ) (v s : State) → i < len → d ≤ x → x < n → a ≡ a' → Rel v s
      → RelAt (loads c op x a i v) (loads c op (f x) a' (pc + i) s)
  loads_rel op x a a' i v s l dx xn e r =
      let k = load_bytes op in
      let same : extended op (load k v.memory a) ≡ extended op (load k s.memory a) =
      ap (λ m. extended op (load k m a)) (sym (memory_same v s r)) in
      subst (λ z. RelAt (loads c op x a i v) (loads c op (f x) z (pc + i) s)) e
      (choice_rel (is_allowed c.sizes a k) _ (Goes (pc + i + 1) (with_register (f x) (extended op (load k s.memory
      a)) (with_access c a k Read s)))
      (next_rel i _ _ l (register_rel _ _ x _ _ dx xn same (access_rel v s a k Read r))))

  stores_rel : (op : StoreOp) (a a' w w' i : ℕ) (v s : State) → i < len → a ≡ a' → w ≡ w' → Rel v s
      → RelAt (stores c op a w i v) (stores c op a' w' (pc + i) s)
  stores_rel op a a' w w' i v s l ea ew r =
      let k = store_bytes op in
      subst (λ z. RelAt (stores c op a w i v) (stores c op z w' (pc + i) s)) ea
      (subst (λ z. RelAt (stores c op a w i v) (stores c op a z (pc + i) s)) ew
      (choice_rel (is_allowed c.sizes a k) _ (Goes (pc + i + 1) (with_access c a k Write (record s {
        memory = store k
            s.memory a w;
      })))
      (next_rel i _ _ l (access_rel _ _ a k Write
      (kept_rel v s (λ z. record z { memory = store k z.memory a w }) (λ z values. refl) r)))))

  received_rel : (x : ℕ) (o : Option ℕ) (v s : State) → d ≤ x → x < n → Rel v s
      → Rel (received x o v) (received (f x) o s)
  received_rel x None v s dx xn r = register_rel v s x _ _ dx xn refl r
  received_rel x (Some byte) v s dx xn r = kept_rel _ _ (λ z. record z { input = drop 1 z.input; taken = z.taken + 1 })
      (λ z values. refl) (register_rel v s x (byte % 256) (byte % 256) dx xn refl r)

  branch_rel : (b : Bool) (i past : ℕ) (v s : State) → i < len → i + 1 + past ≤ len → Rel v s
      → RelAt (Goes (if b then i + 1 + past else i + 1) v) (Goes (if b then pc + i + 1 + past else pc + i + 1) s)
  branch_rel true i past v s l le r = (omega arith, omega arith, r)
  branch_rel false i past v s l le r = (omega arith, omega arith, r)

  -- one instruction
  local_rel : (i : ℕ) (x : FlatInstruction) (v s : State) → i < len → fits n d len i x ≡ true → Rel v s
      → RelAt (local c x i v) (local c (rename f x) (pc + i) s)
  local_rel i (Constant x w) v s l e r =
      let p = and_parts _ _ e in
      next_rel i _ _ l (register_rel v s x _ _ (le_of d x p.0) (lt_of x n p.1) refl r)
  local_rel i (Move x y) v s l e r =
      let p = and_parts _ _ e in let q = and_parts _ _ p.0 in
      next_rel i _ _ l (register_rel v s x _ _ (le_of d x q.0) (lt_of x n q.1) (value_same v s y p.1 r) r)
  local_rel i (Operate op x y z) v s l e r =
      let p = and_parts _ _ e in let q = and_parts _ _ p.0 in let t = and_parts _ _ p.1 in
      next_rel i _ _ l (register_rel v s x _ _ (le_of d x q.0) (lt_of x n q.1)
      (ap (λ a. reg_result op a (right_value z v.values)) (value_same v s y t.0 r)
      ∙ ap (reg_result op (s.values (f y))) (right_same v s z t.1 r)) r)
  local_rel i (Operate32 op x y z) v s l e r =
      let p = and_parts _ _ e in let q = and_parts _ _ p.0 in let t = and_parts _ _ p.1 in
      next_rel i _ _ l (register_rel v s x _ _ (le_of d x q.0) (lt_of x n q.1)
      (ap (λ a. reg32_result op (low_word a) (low_word (right_value z v.values))) (value_same v s y t.0 r)
      ∙ ap (λ a. reg32_result op (low_word (s.values (f y))) (low_word a)) (right_same v s z t.1 r)) r)
  local_rel i (Load op x y offset) v s l e r =
      let p = and_parts _ _ e in let q = and_parts _ _ p.0 in
      loads_rel op x _ _ i v s l (le_of d x q.0) (lt_of x n q.1)
      (ap (λ a. wrap (a + offset)) (value_same v s y p.1 r)) r
  local_rel i (Store op y offset x) v s l e r =
      let p = and_parts _ _ e in
      stores_rel op _ _ _ _ i v s l (ap (λ a. wrap (a + offset)) (value_same v s y p.0 r)) (value_same v s x p.1 r) r
  local_rel i (Branch op y z past) v s l e r =
      let p = and_parts _ _ e in let q = and_parts _ _ p.0 in
      let same : branch_taken op (v.values y) (right_value z v.values)
      ≡ branch_taken op (s.values (f y)) (right_value (rename_right f z) s.values) =
      ap (λ a. branch_taken op a (right_value z v.values)) (value_same v s y q.0 r)
      ∙ ap (branch_taken op (s.values (f y))) (right_same v s z q.1 r) in
      subst (λ b. RelAt (local c (Branch op y z past) i v) (Goes (if b then pc + i + 1 + past else pc + i + 1) s)) same
      (branch_rel (branch_taken op (v.values y) (right_value z v.values)) i past v s l (le_of (i + 1 + past) len p.1) r)
  local_rel i (JumpForward past) v s l e r = let le = le_of (i + 1 + past) len e in (omega arith, omega arith, r)
  local_rel i (JumpBack back) v s l e r = let le = le_of back i e in (omega arith, omega arith, r)
  local_rel i Turn v s l e r = next_rel i _ _ l (kept_rel v s (λ z. record z { turns = z.turns + 1 }) (λ z values.
      refl) r)
  local_rel i (Call g first x) v s l e r = cc
  local_rel i (CallAddress y first m x k) v s l e r = cc
  local_rel i (Return y) v s l e r = cc
  local_rel i (Get x) v s l e r =
      let p = and_parts _ _ e in
      next_rel i _ _ l (subst (λ o. Rel (received x (slice_get v.input 0) v) (received (f x) (slice_get o 0) s))
      (sym (input_same v s r)) (received_rel x (slice_get v.input 0) v s (le_of d x p.0) (lt_of x n p.1) r))
  local_rel i (Put x) v s l e r =
      next_rel i _ _ l (subst (λ a. Rel (record v { output = v.output ++ v.values x % 256 ∷ [] })
      (record s { output = s.output ++ a % 256 ∷ [] })) (value_same v s x e r)
      (kept_rel v s (λ z. record z { output = z.output ++ v.values x % 256 ∷ [] }) (λ z values. refl) r))
  local_rel i (Exit x) v s l e r = (ap (λ a. a % 256) (value_same v s x e r), refl, r)
  local_rel i (End k) v s l e r = (refl, refl, r)
  local_rel i (Charged x) v s l e r =
      let p = and_parts _ _ e in
      next_rel i _ _ l (register_rel v s x _ _ (le_of d x p.0) (lt_of x n p.1) refl r)

  -- a run, as far as it goes
  record Follows (code : List FlatInstruction) (bound : ℕ) (start : Local) (e : Outcome) : Type 0 where
    steps : ℕ
    within : steps ≤ bound
    outcome : Outcome
    comes : local_run c code steps start ≡ left_at (pc + len) outcome
    same : RelAt (left_at len e) (left_at (pc + len) outcome)

  -- the run alone is over
  left_rel : (code : List FlatInstruction) (k : ℕ) (e : Outcome) (l' : Local) → RelAt (left_at len e) l'
      → Follows code k l' e
  left_rel code k (Continues v) (Goes j s) rel =
      let m : j ≡ pc + len = rel.0 in
      record {
        steps = 0;
        within = omega arith;
        outcome = Continues s;
        comes = run_zero c code (Goes j s) ∙ ap (λ p. Goes p s) m;
        same = (refl, rel.1, rel.2);
      }
  left_rel code k (Continues v) (Ends status report s) rel = absurd rel
  left_rel code k (Continues v) Leaves rel = absurd rel
  left_rel code k (Continues v) Fails rel = absurd rel
  left_rel code k (Halts status report v) (Goes j s) rel = absurd rel
  left_rel code k (Halts status report v) (Ends status' report' s) rel = record {
    steps = 0;
    within = omega arith;
    outcome = Halts status' report' s;
    comes = run_zero c code (Ends status' report' s);
    same = rel;
  }
  left_rel code k (Halts status report v) Leaves rel = absurd rel
  left_rel code k (Halts status report v) Fails rel = absurd rel

  left_not_fails : (e : Outcome) → Fails ≡ left_at len e → ⊥
  left_not_fails (Continues v) h = cc
  left_not_fails (Halts status report v) h = cc

  left_not_leaves : (e : Outcome) → Leaves ≡ left_at len e → ⊥
  left_not_leaves (Continues v) h = cc
  left_not_leaves (Halts status report v) h = cc

module _ (c : Context) (n d : ℕ) (f : ℕ
    → ℕ) (names : IsRenaming n d f) (code r : List FlatInstruction) (pc : ℕ) (s0 : State)
    (fit : all_fit n d (length r) 0 r ≡ true) (has : HasAt code pc (map (rename f) r)) where
  abbrev Both : Local → Local → Type 0
  Both = RelAt c n d f names (length r) pc s0

  abbrev Goal : ℕ → Local → Outcome → Type 0
  Goal k l' e = Follows c n d f names (length r) pc s0 code k l' e

  abbrev Again : ℕ → Outcome → Type 0
  Again k e = (l l' : Local) → Both l l' → local_run c r k l ≡ left_at (length r) e → Goal k l' e

  turn : (k : ℕ) (e : Outcome) (i j : ℕ) (v s : State) → Again k e → Both (Goes i v) (Goes j s)
      → local_run c r (suc k) (Goes i v) ≡ left_at (length r) e → Goal (suc k) (Goes j s) e
  turn k e i j v s again rel h = ⊎_elim inside past (slice_get_cases r i).1
    where
      from_step : local_run c r k (local_step c r (Goes i v)) ≡ left_at (length r) e
      from_step = sym (run_suc c r k (Goes i v)) ∙ h

      past : (length r ≤ i) × (slice_get r i ≡ None) → Goal (suc k) (Goes j s) e
      past p =
          let back : local_run c r k Fails ≡ left_at (length r) e =
          ap (λ o. local_run c r k (act c o i v)) (sym p.1) ∙ from_step in
          absurd (left_not_fails c n d f names (length r) pc s0 e (sym (run_failed c r k) ∙ back))

      inside : (x : FlatInstruction) × (i < length r) × (slice_get r i ≡ Some x) × (get_or r i x ≡ x)
          → Goal (suc k) (Goes j s) e
      inside p = let x = p.0 in
          let fx : fits n d (length r) i x ≡ true = (let m : 0 + i ≡ i = omega arith in
          subst (λ q. fits n d (length r) q x ≡ true) m (fit_get n d (length r) 0 r i x fit p.2)) in
          let at : slice_get code (pc + i) ≡ Some (rename f x) =
          has_get code (map (rename f) r) pc i (rename f x) has
          (slice_get-map (rename f) r i ∙ ap (option_map (rename f)) p.2) in
          let there : local_step c code (Goes j s) ≡ local c (rename f x) (pc + i) (counted c (rename f x) s) =
          ap (λ q. local_step c code (Goes q s)) rel.0 ∙ ap (λ o. act c o (pc + i) s) at in
          let alone : local_run c r k (local c x i (counted c x v)) ≡ left_at (length r) e =
          ap (λ o. local_run c r k (act c o i v)) (sym p.2) ∙ from_step in
          let both = local_rel c n d f names (length r) pc s0 i x (counted c x v) (counted c (rename f x) s) p.1 fx
          (counted_rel x rel.2) in
          let t = again (local c x i (counted c x v)) (local c (rename f x) (pc + i) (counted c (rename f x) s)) both
          alone in
          record {
            steps = suc t.steps;
            within = omega (arith, t.within);
            outcome = t.outcome;
            comes = run_suc c code t.steps (Goes j s) ∙ ap (local_run c code t.steps) there ∙ t.comes;
            same = t.same;
          }
        where
          cost_same : (x : FlatInstruction) → local_cost c.weight (rename f x) ≡ local_cost c.weight x
          cost_same (Constant x w) = refl
          cost_same (Move x y) = refl
          cost_same (Operate op x y z) = refl
          cost_same (Operate32 op x y z) = refl
          cost_same (Load op x y offset) = refl
          cost_same (Store op y offset x) = refl
          cost_same (Branch op y z past) = refl
          cost_same (JumpForward past) = refl
          cost_same (JumpBack back) = refl
          cost_same Turn = refl
          cost_same (Call g first x) = refl
          cost_same (CallAddress y first m x k) = refl
          cost_same (Return y) = refl
          cost_same (Get x) = refl
          cost_same (Put x) = refl
          cost_same (Exit x) = refl
          cost_same (End e) = refl
          cost_same (Charged x) = refl

          counted_rel : (x : FlatInstruction) → Rel c n d f names (length r) pc s0 v s
              → Rel c n d f names (length r) pc s0 (counted c x v) (counted c (rename f x) s)
          counted_rel x q =
              subst (λ w. Rel c n d f names (length r) pc s0 (counted c x v) (record s { work = s.work + w }))
              (sym (cost_same x))
              (kept_rel c n d f names (length r) pc s0 v s (λ z. record z { work = z.work + local_cost c.weight x })
              (λ z values. refl) q)

  follow : (k : ℕ) (e : Outcome) → Again k e
  follow zero e l l' rel h =
      left_rel c n d f names (length r) pc s0 code 0 e l' (subst (λ z. Both z l') (sym (run_zero c r l) ∙ h) rel)
  follow (suc k) e (Goes i v) (Goes j s) rel h = turn k e i j v s (follow k e) rel h
  follow (suc k) e (Goes i v) (Ends status report s) rel h = absurd rel
  follow (suc k) e (Goes i v) Leaves rel h = absurd rel
  follow (suc k) e (Goes i v) Fails rel h = absurd rel
  follow (suc k) e (Ends status report v) l' rel h =
      left_rel c n d f names (length r) pc s0 code (suc k) e l'
      (subst (λ z. Both z l') (sym (run_ended c r (suc k) status report v) ∙ h) rel)
  follow (suc k) e Leaves l' rel h =
      absurd (left_not_leaves c n d f names (length r) pc s0 e (sym (run_left c r (suc k)) ∙ h))
  follow (suc k) e Fails l' rel h =
      absurd (left_not_fails c n d f names (length r) pc s0 e (sym (run_failed c r (suc k)) ∙ h))

-- what a state of the routine alone says of one of the code
abbrev pub Through : (n d : ℕ) (f : ℕ → ℕ) (s : State) → (State → Type 0) → State → Type 0
Through n d f s I s' = (v : State) × I v × Agrees n f v s' × ChangesOnly n d f s s'

-- A routine that is proved alone, from place 0 and over its own registers, does the same in any code and over any
-- registers.
pub renamed : (c : Context) (n d : ℕ) (f : ℕ → ℕ) (r : List FlatInstruction) → IsRenaming n d f
    → all_fit n d (length r) 0 r ≡ true → (code : List FlatInstruction) (pc : ℕ) (s : State)
    → HasAt code pc (map (rename f) r)
    → (b : ℕ) (I : State → Type 0) (J : (status : ℕ) → (report : List ℕ) → State → Type 0)
    → Reaches c r b (Goes 0 (through f s)) (length r) (Either I J)
    → Reaches c code b (Goes pc s) (pc + length r)
    (Either (Through n d f s I) (λ status report. Through n d f s (J status report)))
renamed c n d f r names fit code pc s has b I J t =
    by t.outcome t.holds
    (follow c n d f names code r pc s fit has t.steps t.outcome (Goes 0 (through f s)) (Goes pc s) start t.comes)
  where
    start : RelAt c n d f names (length r) pc s (Goes 0 (through f s)) (Goes pc s)
    start = (
      omega arith,
      omega arith,
      record {
        agrees = record { values = λ j h. refl; rest = refl };
        only = record { others = λ x h. refl };
      },
    )

    by : (e : Outcome) → Either I J e → Follows c n d f names (length r) pc s code t.steps (Goes pc s) e
        → Reaches c code b (Goes pc s) (pc + length r)
        (Either (Through n d f s I) (λ status report. Through n d f s (J status report)))
    by e q u = go e u.outcome q u.comes u.same
      where
        go : (e x : Outcome) → Either I J e → local_run c code u.steps (Goes pc s) ≡ left_at (pc + length r) x
            → RelAt c n d f names (length r) pc s (left_at (length r) e) (left_at (pc + length r) x)
            → Reaches c code b (Goes pc s) (pc + length r)
            (Either (Through n d f s I) (λ status report. Through n d f s (J status report)))
        go (Continues v) (Continues s') q comes same = record {
          steps = u.steps;
          within = omega (arith, u.within, t.within);
          outcome = Continues s';
          comes = comes;
          holds = (v, q, same.2.agrees, same.2.only);
        }
        go (Halts status report v) (Halts status' report' s') q comes same = record {
          steps = u.steps;
          within = omega (arith, u.within, t.within);
          outcome = Halts status' report' s';
          comes = comes;
          holds = (
            v,
            subst (λ z. J status' z v) same.1 (subst (λ z. J z report v) same.0 q),
            same.2.agrees,
            same.2.only,
          );
        }
        go (Continues v) (Halts status report s') q comes same = absurd same
        go (Halts status report v) (Continues s') q comes same = absurd same

-- the same of a run that is known, without words for what holds then
pub arrives : (c : Context) (n d : ℕ) (f : ℕ → ℕ) (r : List FlatInstruction) → IsRenaming n d f
    → all_fit n d (length r) 0 r ≡ true → (code : List FlatInstruction) (pc : ℕ) (s : State)
    → HasAt code pc (map (rename f) r) → (k : ℕ) (x : Outcome)
    → local_run c r k (Goes 0 (through f s)) ≡ left_at (length r) x
    → Arrives c n d f code k pc s (pc + length r) x
arrives c n d f r names fit code pc s has k x comes =
    let t = renamed c n d f r names fit code pc s has k (λ v. Continues v ≡ x)
    (λ status report v. Halts status report v ≡ x)
    (record { steps = k; within = omega arith; outcome = x; comes = comes; holds = itself x }) in
    record {
      steps = t.steps;
      within = t.within;
      outcome = t.outcome;
      comes = t.comes;
      agree = agree t.outcome t.holds;
    }
  where
    itself : (y : Outcome) → Either (λ v. Continues v ≡ y) (λ status report v. Halts status report v ≡ y) y
    itself (Continues v) = refl
    itself (Halts status report v) = refl

    agree : (y : Outcome) → Either (Through n d f s (λ v. Continues v ≡ x))
        (λ status report. Through n d f s (λ v. Halts status report v ≡ x)) y → AgreeAtEnd n d f s x y
    agree (Continues s') q = subst (λ z. AgreeAtEnd n d f s z (Continues s')) q.1 (q.2, q.3)
    agree (Halts status report s') q =
        subst (λ z. AgreeAtEnd n d f s z (Halts status report s')) q.1 (refl, refl, q.2, q.3)
