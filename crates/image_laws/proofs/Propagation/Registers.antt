-- Which registers a propagated instruction reads: those that it read, and those of which facts speak.
use Rattle.std.proofs.Common.{◌≡◌, ◌⊎◌, inl, inr, ⊎_elim, ℕ, ◌+◌, refl, sym, subst, arith}
use Rattle.std.proofs.Common.{Bool, true}
use Rattle.std.specs.Prelude.{nat_lt, nat_le, ◌==◌, ◌||◌}
use Rattle.std.proofs.lemmas.Bool.{or_left, or_right, or_cases, and_parts, and_from, ltb-true, lt-ltb, leb-true, le-leb}
use Rattle.addr_map.specs.Places.{MapSizes}
use Rattle.rv_isa.specs.declared.instruction.RegOp.{RegOp}
use Rattle.rv_isa.specs.declared.instruction.RegOp.TheVariants.{Sub, Slt, Sltu, Xor}
use Rattle.rv_isa.specs.declared.instruction.BranchOp.{BranchOp}
use Rattle.rv_isa.specs.declared.instruction.BranchOp.TheVariants.{Beq, Bne, Blt, Bge, Bltu, Bgeu}
use Rattle.flat_code.specs.declared.instruction.RightOperand.{RightOperand}
use Rattle.flat_code.specs.declared.instruction.RightOperand.TheVariants.{Register, Number}
use Rattle.flat_code.specs.declared.instruction.FlatInstruction.{FlatInstruction}
use Rattle.flat_code.specs.declared.instruction.FlatInstruction.TheVariants as flat
use Rattle.flat_code.specs.declared.function.FlatProgram.{FlatProgram}
use Rattle.flat_code.specs.Calls.{function_in}
use Rattle.flat_code.specs.Meaning.{parameters_of, results_of}
use Rattle.reg_plan.specs.declared.effects.Span.{Span}
use Rattle.reg_plan.specs.Effects.{read_by, is_read, is_among, one, none, many, operand}
use Rattle.flat_propagation.specs.declared.fact.Fact.{Fact}
use Rattle.flat_propagation.specs.declared.fact.Fact.TheVariants.{Unknown, Same, Word, Difference, Condition}
use Rattle.flat_propagation.specs.Facts.{Facts}
use Rattle.flat_propagation.specs.Known.{source, source_but, register_or_zero, right_source_but, copied, if_branchable}
use Rattle.flat_propagation.specs.Known.{is_zero, turned, if_one, computed, after}
use Rattle.flat_propagation.specs.Propagated.{is_short, takes, takes32, register_or_number, right_but, right_source}
use Rattle.flat_propagation.specs.Propagated.{unless_zero, if_zero, compared, compared_zero, branch_on, moved}
use Rattle.flat_propagation.specs.Propagated.{rewritten}
use Rattle.flat_propagation.specs.Propagated.{propagated}
use Rattle.flat_propagation.proofs.Holding.{either}
use Rattle.flat_propagation.proofs.Meaning.{parameters_same, results_same}
use Rattle.image_laws.proofs.Propagation.Fits.{with_has}

-- ---- spans

one_is : (x y : ℕ) → is_among (one x) y ≡ true → y ≡ x
one_is x y e =
    let h = and_parts (nat_le x y) (nat_lt y (x + 1)) e in
    let a = leb-true x y h.0 in
    let b = ltb-true y (x + 1) h.1 in
    omega arith

one_has : (x : ℕ) → is_among (one x) x ≡ true
one_has x =
    and_from (nat_le x x) (nat_lt x (x + 1)) (le-leb x x (omega arith)) (lt-ltb x (x + 1) (omega arith))

none_has : (y : ℕ) → is_among none y ≡ true → ⊥
none_has y e =
    let h = and_parts (nat_le 0 y) (nat_lt y 0) e in
    let b = ltb-true y 0 h.1 in
    absurd (omega arith)

abbrev pub Registers : Type 1
Registers = ℕ → Type 0

abbrev pub OfOperand : Registers → RightOperand → Type 0
OfOperand R (Register x) = R x
OfOperand R (Number n) = Unit {0}

-- a fact speaks of a register
abbrev pub RightSpeaks : RightOperand → (register : ℕ) → Type 0
RightSpeaks (Register x) y = x ≡ y
RightSpeaks (Number n) y = ⊥

abbrev pub Speaks : Fact → (register : ℕ) → Type 0
Speaks Unknown y = ⊥
Speaks (Same x) y = x ≡ y
Speaks (Word n) y = ⊥
Speaks (Difference a b) y = (a ≡ y) ⊎ RightSpeaks b y
Speaks (Condition op a b) y = (a ≡ y) ⊎ RightSpeaks b y

module _ (m : MapSizes) (p : FlatProgram) (f : ℕ) (R : Registers) where
  -- it speaks of such registers alone
  abbrev pub OfFact : Fact → Type 0
  OfFact Unknown = Unit {0}
  OfFact (Same x) = R x
  OfFact (Word n) = Unit {0}
  OfFact (Difference a b) = R a × OfOperand R b
  OfFact (Condition op a b) = R a × OfOperand R b

  right_of : (b : RightOperand) → ((y : ℕ) → RightSpeaks b y → R y) → OfOperand R b
  right_of (Register x) h = h x refl
  right_of (Number n) h = tt

  pub of_fact : (fact : Fact) → ((y : ℕ) → Speaks fact y → R y) → OfFact fact
  of_fact Unknown h = tt
  of_fact (Same x) h = h x refl
  of_fact (Word n) h = tt
  of_fact (Difference a b) h = (h a (inl refl), right_of b (λ y s. h y (inr s)))
  of_fact (Condition op a b) h = (h a (inl refl), right_of b (λ y s. h y (inr s)))

  right_speaks : (b : RightOperand) (y : ℕ) → OfOperand R b → RightSpeaks b y → R y
  right_speaks (Register x) y r s = subst R s r
  right_speaks (Number n) y r s = absurd s

  pub speaks_of : (fact : Fact) (y : ℕ) → OfFact fact → Speaks fact y → R y
  speaks_of Unknown y h s = absurd s
  speaks_of (Same x) y h s = subst R s h
  speaks_of (Word n) y h s = absurd s
  speaks_of (Difference a b) y h s = ⊎_elim (λ e. subst R e h.0) (λ e. right_speaks b y h.1 e) s
  speaks_of (Condition op a b) y h s = ⊎_elim (λ e. subst R e h.0) (λ e. right_speaks b y h.1 e) s

  -- ---- operands

  source_of : (fact : Fact) (x : ℕ) → OfFact fact → R x → R (source fact x)
  source_of Unknown x h r = r
  source_of (Same y) x h r = h
  source_of (Word n) x h r = r
  source_of (Difference a b) x h r = r
  source_of (Condition op a b) x h r = r

  source_but_of : (d : ℕ) (fact : Fact) (x : ℕ) → OfFact fact → R x → R (source_but d fact x)
  source_but_of d fact x h r =
      either R (source fact x == d) x (source fact x) (λ e. r) (λ e. source_of fact x h r)

  zero_of : (fact : Fact) (x : ℕ) → R x → OfOperand R (register_or_zero fact x)
  zero_of Unknown x r = r
  zero_of (Same y) x r = r
  zero_of (Word n) x r = either (OfOperand R) (n == 0) (Number 0) (Register x) (λ e. tt) (λ e. r)
  zero_of (Difference a b) x r = r
  zero_of (Condition op a b) x r = r

  number_of : (fits : ℕ → Bool) (fact : Fact) (x : ℕ) → R x → OfOperand R (register_or_number fits fact x)
  number_of fits Unknown x r = r
  number_of fits (Same y) x r = r
  number_of fits (Word n) x r = either (OfOperand R) (fits n) (Number n) (Register x) (λ e. tt) (λ e. r)
  number_of fits (Difference a b) x r = r
  number_of fits (Condition op a b) x r = r

  module _ (k : Facts) (known : (y : ℕ) → OfFact (k y)) where
    right_source_but_of : (d : ℕ) (b : RightOperand) → OfOperand R b → OfOperand R (right_source_but d k b)
    right_source_but_of d (Register x) r = zero_of (k x) (source_but d (k x) x) (source_but_of d (k x) x (known x) r)
    right_source_but_of d (Number n) r = tt

    right_but_of : (d : ℕ) (fits : ℕ → Bool) (b : RightOperand) → OfOperand R b → OfOperand R (right_but d fits k b)
    right_but_of d fits (Register x) r =
        number_of fits (k x) (source_but d (k x) x) (source_but_of d (k x) x (known x) r)
    right_but_of d fits (Number n) r = tt

    right_source_of : (b : RightOperand) → OfOperand R b → OfOperand R (right_source k b)
    right_source_of (Register x) r = zero_of (k x) (source (k x) x) (source_of (k x) x (known x) r)
    right_source_of (Number n) r = tt

    -- ---- facts

    copied_of : (fact : Fact) (x : ℕ) → OfFact fact → R x → OfFact (copied fact x)
    copied_of Unknown x h r = r
    copied_of (Same y) x h r = h
    copied_of (Word n) x h r = tt
    copied_of (Difference a b) x h r = h
    copied_of (Condition op a b) x h r = h

    branchable_of : (b : RightOperand) (fact : Fact) → OfFact fact → OfFact (if_branchable b fact)
    branchable_of (Register x) fact h = h
    branchable_of (Number n) fact h = either OfFact (n == 0) fact Unknown (λ e. h) (λ e. tt)

    is_zero_of : (fact : Fact) (x : ℕ) → OfFact fact → R x → OfFact (is_zero fact x)
    is_zero_of Unknown x h r = (r, tt)
    is_zero_of (Same y) x h r = (r, tt)
    is_zero_of (Word n) x h r = (r, tt)
    is_zero_of (Difference a b) x h r = h
    is_zero_of (Condition op a b) x h r = h

    turned_of : (fact : Fact) → OfFact fact → OfFact (turned fact)
    turned_of Unknown h = tt
    turned_of (Same y) h = tt
    turned_of (Word n) h = tt
    turned_of (Difference a b) h = tt
    turned_of (Condition op a b) h = h

    one_of : (b : RightOperand) (fact other : Fact) → OfFact fact → OfFact other → OfFact (if_one b fact other)
    one_of (Register x) fact other h g = g
    one_of (Number n) fact other h g = either OfFact (n == 1) fact other (λ e. h) (λ e. g)

    computed_of : (op : RegOp) (fact : Fact) (a : ℕ) (b : RightOperand) → OfFact fact → R a → OfOperand R b
        → OfFact (computed op fact a b)
    unfolding computed
    computed_of Sub fact a b h r s = branchable_of b (Difference a b) (r, s)
    computed_of Slt fact a b h r s = branchable_of b (Condition Blt a b) (r, s)
    computed_of Sltu fact a b h r s =
        one_of b (is_zero fact a) (if_branchable b (Condition Bltu a b)) (is_zero_of fact a h r)
        (branchable_of b (Condition Bltu a b) (r, s))
    computed_of Xor fact a b h r s = one_of b (turned fact) Unknown (turned_of fact h) tt
    computed_of _ fact a b h r s = tt

    -- ---- instructions

    -- what an instruction reads: operands one by one, and the values that are handed over
    abbrev Values : FlatProgram → FlatInstruction → Type 0
    Values p (flat.Constant x n) = Unit {0}
    Values p (flat.Move x y) = R y
    Values p (flat.Operate op x y z) = R y × OfOperand R z
    Values p (flat.Operate32 op x y z) = R y × OfOperand R z
    Values p (flat.Load op x y offset) = R y
    Values p (flat.Store op y offset x) = R y × R x
    Values p (flat.Branch op y z past) = R y × OfOperand R z
    Values p (flat.JumpForward past) = Unit {0}
    Values p (flat.JumpBack back) = Unit {0}
    Values p flat.Turn = Unit {0}
    Values p (flat.Call g first x) =
        (y : ℕ) → is_among (many first (parameters_of (function_in p g))) y ≡ true → R y
    Values p (flat.CallAddress y first n x r) = R y × ((z : ℕ) → is_among (many first n) z ≡ true → R z)
    Values p (flat.Return y) = (z : ℕ) → is_among (many y (results_of (function_in p f))) z ≡ true → R z
    Values p (flat.Get x) = Unit {0}
    Values p (flat.Put x) = R x
    Values p (flat.Exit x) = R x
    Values p (flat.End e) = Unit {0}
    Values p (flat.Charged x) = Unit {0}

    operand_reads : (b : RightOperand) → ((y : ℕ) → is_among (operand b) y ≡ true → R y) → OfOperand R b
    operand_reads (Register x) h = h x (one_has x)
    operand_reads (Number n) h = tt

    reads_operand : (b : RightOperand) (y : ℕ) → OfOperand R b → is_among (operand b) y ≡ true → R y
    reads_operand (Register x) y r e = subst R (sym (one_is x y e)) r
    reads_operand (Number n) y r e = absurd (none_has y e)

    abbrev Reads : FlatProgram → FlatInstruction → Type 0
    Reads p i = (y : ℕ) → is_read (read_by p f i) y ≡ true → R y

    left_read : (l r o : Span) → ((y : ℕ) → (is_among l y || (is_among r y || is_among o y)) ≡ true → R y) → (y : ℕ)
        → is_among l y ≡ true → R y
    left_read l r o h y e = h y (or_left (is_among l y) (is_among r y || is_among o y) e)

    right_read : (l r o : Span) → ((y : ℕ) → (is_among l y || (is_among r y || is_among o y)) ≡ true → R y)
        → (y : ℕ) → is_among r y ≡ true → R y
    right_read l r o h y e =
        h y (or_right (is_among l y) (is_among r y || is_among o y) (or_left (is_among r y) (is_among o y) e))

    other_read : (l r o : Span) → ((y : ℕ) → (is_among l y || (is_among r y || is_among o y)) ≡ true → R y)
        → (y : ℕ) → is_among o y ≡ true → R y
    other_read l r o h y e =
        h y (or_right (is_among l y) (is_among r y || is_among o y) (or_right (is_among r y) (is_among o y) e))

    all_read : (l r o : Span) → ((y : ℕ) → is_among l y ≡ true → R y) → ((y : ℕ) → is_among r y ≡ true → R y)
        → ((y : ℕ) → is_among o y ≡ true → R y) → (y : ℕ)
        → (is_among l y || (is_among r y || is_among o y)) ≡ true → R y
    all_read l r o a b c y e =
        ⊎_elim (λ h. a y h)
        (λ h. ⊎_elim (λ g. b y g) (λ g. c y g) (or_cases (is_among r y) (is_among o y) h))
        (or_cases (is_among l y) (is_among r y || is_among o y) e)

    one_read : (x y : ℕ) → R x → is_among (one x) y ≡ true → R y
    one_read x y r e = subst R (sym (one_is x y e)) r

    nothing_read : (y : ℕ) → is_among none y ≡ true → R y
    nothing_read y e = absurd (none_has y e)

    values_of : (p : FlatProgram) (i : FlatInstruction) → Reads p i → Values p i
    values_of p (flat.Constant x n) h = tt
    values_of p (flat.Move x y) h = left_read (one y) none none h y (one_has y)
    values_of p (flat.Operate op x y z) h =
        (left_read (one y) (operand z) none h y (one_has y), operand_reads z (right_read (one y) (operand z) none h))
    values_of p (flat.Operate32 op x y z) h =
        (left_read (one y) (operand z) none h y (one_has y), operand_reads z (right_read (one y) (operand z) none h))
    values_of p (flat.Load op x y offset) h = left_read (one y) none none h y (one_has y)
    values_of p (flat.Store op y offset x) h =
        (left_read (one y) (one x) none h y (one_has y), right_read (one y) (one x) none h x (one_has x))
    values_of p (flat.Branch op y z past) h =
        (left_read (one y) (operand z) none h y (one_has y), operand_reads z (right_read (one y) (operand z) none h))
    values_of p (flat.JumpForward past) h = tt
    values_of p (flat.JumpBack back) h = tt
    values_of p flat.Turn h = tt
    values_of p (flat.Call g first x) h = other_read none none (many first (parameters_of (function_in p g))) h
    values_of p (flat.CallAddress y first n x r) h =
        (left_read (one y) none (many first n) h y (one_has y), other_read (one y) none (many first n) h)
    values_of p (flat.Return y) h = other_read none none (many y (results_of (function_in p f))) h
    values_of p (flat.Get x) h = tt
    values_of p (flat.Put x) h = left_read (one x) none none h x (one_has x)
    values_of p (flat.Exit x) h = left_read (one x) none none h x (one_has x)
    values_of p (flat.End e) h = tt
    values_of p (flat.Charged x) h = tt

    reads_of : (p : FlatProgram) (i : FlatInstruction) → Values p i → Reads p i
    reads_of p (flat.Constant x n) v = all_read none none none nothing_read nothing_read nothing_read
    reads_of p (flat.Move x y) v = all_read (one y) none none (λ z. one_read y z v) nothing_read nothing_read
    reads_of p (flat.Operate op x y z) v =
        all_read (one y) (operand z) none (λ a. one_read y a v.0) (λ a. reads_operand z a v.1) nothing_read
    reads_of p (flat.Operate32 op x y z) v =
        all_read (one y) (operand z) none (λ a. one_read y a v.0) (λ a. reads_operand z a v.1) nothing_read
    reads_of p (flat.Load op x y offset) v = all_read (one y) none none (λ z. one_read y z v) nothing_read nothing_read
    reads_of p (flat.Store op y offset x) v =
        all_read (one y) (one x) none (λ a. one_read y a v.0) (λ a. one_read x a v.1) nothing_read
    reads_of p (flat.Branch op y z past) v =
        all_read (one y) (operand z) none (λ a. one_read y a v.0) (λ a. reads_operand z a v.1) nothing_read
    reads_of p (flat.JumpForward past) v = all_read none none none nothing_read nothing_read nothing_read
    reads_of p (flat.JumpBack back) v = all_read none none none nothing_read nothing_read nothing_read
    reads_of p flat.Turn v = all_read none none none nothing_read nothing_read nothing_read
    reads_of p (flat.Call g first x) v =
        all_read none none (many first (parameters_of (function_in p g))) nothing_read nothing_read v
    reads_of p (flat.CallAddress y first n x r) v =
        all_read (one y) none (many first n) (λ a. one_read y a v.0) nothing_read v.1
    reads_of p (flat.Return y) v =
        all_read none none (many y (results_of (function_in p f))) nothing_read nothing_read v
    reads_of p (flat.Get x) v = all_read none none none nothing_read nothing_read nothing_read
    reads_of p (flat.Put x) v = all_read (one x) none none (λ z. one_read x z v) nothing_read nothing_read
    reads_of p (flat.Exit x) v = all_read (one x) none none (λ z. one_read x z v) nothing_read nothing_read
    reads_of p (flat.End e) v = all_read none none none nothing_read nothing_read nothing_read
    reads_of p (flat.Charged x) v = all_read none none none nothing_read nothing_read nothing_read

    -- ---- what is rewritten

    branch_values : (q : FlatProgram) (op : BranchOp) (fact : Fact) (y past : ℕ) (b : RightOperand) → OfFact fact
        → R y → OfOperand R b → Values q (branch_on op fact y past b)
    branch_values q op fact y past (Register z) h r s = (source_of fact y h r, s)
    branch_values q op fact y past (Number n) h r s =
        either (Values q) (n == 0) (compared_zero op fact y past) (compared op fact y past (Number n))
        (λ e. zeros op) (λ e. (source_of fact y h r, tt))
      where
        unless : (fact : Fact) → OfFact fact → Values q (unless_zero fact y past)
        unless Unknown h = (r, tt)
        unless (Same z) h = (h, tt)
        unless (Word n) h = (r, tt)
        unless (Difference a b) h = h
        unless (Condition op a b) h = h

        ifs : (fact : Fact) → OfFact fact → Values q (if_zero fact y past)
        ifs Unknown h = (r, tt)
        ifs (Same z) h = (h, tt)
        ifs (Word n) h = (r, tt)
        ifs (Difference a b) h = h
        ifs (Condition op a b) h = h

        zeros : (op : BranchOp) → Values q (compared_zero op fact y past)
        zeros Bne = unless fact h
        zeros Beq = ifs fact h
        zeros Blt = (source_of fact y h r, tt)
        zeros Bge = (source_of fact y h r, tt)
        zeros Bltu = (source_of fact y h r, tt)
        zeros Bgeu = (source_of fact y h r, tt)

    moved_values : (q : FlatProgram) (fact : Fact) (x y : ℕ) → OfFact fact → R y → Values q (moved fact x y)
    moved_values q Unknown x y h r = r
    moved_values q (Same z) x y h r = h
    moved_values q (Word n) x y h r = either (Values q) (is_short n) (flat.Constant x n) (flat.Move x y) (λ e. tt) (λ e. r)
    moved_values q (Difference a b) x y h r = r
    moved_values q (Condition op a b) x y h r = r

    rewritten_values : (i : FlatInstruction) → Values p i → Values (propagated p) (rewritten k i)
    unfolding rewritten
    rewritten_values (flat.Constant x n) v = tt
    rewritten_values (flat.Move x y) v = moved_values (propagated p) (k y) x y (known y) v
    rewritten_values (flat.Operate op x y z) v =
        (source_but_of x (k y) y (known y) v.0, right_but_of x (takes op) z v.1)
    rewritten_values (flat.Operate32 op x y z) v =
        (source_but_of x (k y) y (known y) v.0, right_but_of x (takes32 op) z v.1)
    rewritten_values (flat.Load op x y offset) v = source_of (k y) y (known y) v
    rewritten_values (flat.Store op y offset x) v =
        (source_of (k y) y (known y) v.0, source_of (k x) x (known x) v.1)
    rewritten_values (flat.Branch op y z past) v =
        branch_values (propagated p) op (k y) y past (right_source k z) (known y) v.0 (right_source_of z v.1)
    rewritten_values (flat.JumpForward past) v = tt
    rewritten_values (flat.JumpBack back) v = tt
    rewritten_values flat.Turn v = tt
    rewritten_values (flat.Call g first x) v =
        λ y e. v y (subst (λ n. is_among (many first n) y ≡ true) (parameters_same m p g) e)
    rewritten_values (flat.CallAddress y first n x r) v = (source_of (k y) y (known y) v.0, v.1)
    rewritten_values (flat.Return y) v =
        λ z e. v z (subst (λ n. is_among (many y n) z ≡ true) (results_same m p f) e)
    rewritten_values (flat.Get x) v = tt
    rewritten_values (flat.Put x) v = source_of (k x) x (known x) v
    rewritten_values (flat.Exit x) v = source_of (k x) x (known x) v
    rewritten_values (flat.End e) v = tt
    rewritten_values (flat.Charged x) v = tt

    pub rewritten_reads : (i : FlatInstruction) → Reads p i → Reads (propagated p) (rewritten k i)
    rewritten_reads i h = reads_of (propagated p) (rewritten k i) (rewritten_values i (values_of p i h))

    pub after_of : (i : FlatInstruction) → Reads p i → (y : ℕ) → OfFact (after k i y)
    unfolding after
    after_of i h y = by i (values_of p i h)
      where
        by : (i : FlatInstruction) → Values p i → OfFact (after k i y)
        by (flat.Constant x n) v = with_has OfFact tt k x (Word n) known tt y
        by (flat.Move x z) v = with_has OfFact tt k x (copied (k z) z) known (copied_of (k z) z (known z) v) y
        by (flat.Operate op x a b) v =
            let b' = right_source_but x k b in
            with_has OfFact tt k x (computed op (k a) (source_but x (k a) a) b') known
            (computed_of op (k a) (source_but x (k a) a) b' (known a) (source_but_of x (k a) a (known a) v.0)
            (right_source_but_of x b v.1)) y
        by (flat.Operate32 op x a b) v = with_has OfFact tt k x Unknown known tt y
        by (flat.Load op x a offset) v = with_has OfFact tt k x Unknown known tt y
        by (flat.Store op a offset x) v = known y
        by (flat.Branch op a b past) v = known y
        by (flat.JumpForward past) v = tt
        by (flat.JumpBack back) v = tt
        by flat.Turn v = known y
        by (flat.Call f first x) v = tt
        by (flat.CallAddress a first n x r) v = tt
        by (flat.Return a) v = tt
        by (flat.Get x) v = with_has OfFact tt k x Unknown known tt y
        by (flat.Put x) v = known y
        by (flat.Exit x) v = tt
        by (flat.End e) v = tt
        by (flat.Charged x) v = with_has OfFact tt k x Unknown known tt y
