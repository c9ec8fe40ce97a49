-- Code without loops: what it reads that it has not made itself, and where it leads.
use Rattle.std.proofs.Common.{◌≡◌, ◌⊎◌, inl, inr, ⊎_elim, ℕ, zero, suc, ◌+◌, ◌-◌, ◌<◌, ◌≤◌, refl, sym, ap, subst, arith}
use Rattle.std.proofs.Common.{true, List, [], ◌∷◌, ◌++◌, length, Some}
use Rattle.std.specs.Prelude.{slice_get, ◌||◌, nat_le, nat_lt}
use Rattle.std.proofs.lemmas.Bool.{and_parts, and_from, or_cases, ltb-true, lt-ltb, leb-true, le-leb}
use Rattle.std.proofs.lemmas.Option.{same_Some, none-some}
use Rattle.flat_code.specs.declared.instruction.RightOperand.{RightOperand}
use Rattle.flat_code.specs.declared.instruction.RightOperand.TheVariants.{Register, Number}
use Rattle.flat_code.specs.declared.instruction.FlatInstruction.{FlatInstruction}
use Rattle.flat_code.specs.declared.instruction.FlatInstruction.TheVariants.{Constant, Move, Operate, Operate32}
use Rattle.flat_code.specs.declared.instruction.FlatInstruction.TheVariants.{Load, Store, Branch, JumpForward}
use Rattle.flat_code.specs.declared.instruction.FlatInstruction.TheVariants.{JumpBack, Turn, Call, CallAddress}
use Rattle.flat_code.specs.declared.instruction.FlatInstruction.TheVariants.{Return, Get, Put, Exit, End, Charged}
use Rattle.flat_code.specs.declared.function.FlatProgram.{FlatProgram}
use Rattle.flat_code.specs.Calls.{function_in}
use Rattle.flat_code.specs.Meaning.{parameters_of, results_of}
use Rattle.reg_plan.specs.declared.effects.Span.{Span}
use Rattle.reg_plan.specs.Effects.{read_by, is_read, made_by, is_among, one, none, many, two, operand, Leads}

-- ---- spans

pub one_is : (x y : ℕ) → is_among (one x) y ≡ true → y ≡ x
one_is x y e =
    let h = and_parts (nat_le x y) (nat_lt y (x + 1)) e in
    let a = leb-true x y h.0 in
    let b = ltb-true y (x + 1) h.1 in
    omega arith

pub many_has : (x n j : ℕ) → j < n → is_among (many x n) (x + j) ≡ true
many_has x n j lt =
    and_from (nat_le x (x + j)) (nat_lt (x + j) (x + n)) (le-leb x (x + j) (omega arith))
    (lt-ltb (x + j) (x + n) (omega arith))

pub one_has : (x : ℕ) → is_among (one x) x ≡ true
one_has x =
    and_from (nat_le x x) (nat_lt x (x + 1)) (le-leb x x (omega arith)) (lt-ltb x (x + 1) (omega arith))

pub many_is : (x n y : ℕ) → is_among (many x n) y ≡ true → (j : ℕ) × (j < n) × (y ≡ x + j)
many_is x n y e =
    let h = and_parts (nat_le x y) (nat_lt y (x + n)) e in
    let a = leb-true x y h.0 in
    let b = ltb-true y (x + n) h.1 in
    (y - x, omega arith, omega arith)

pub none_has : (y : ℕ) → is_among none y ≡ true → ⊥
none_has y e =
    let h = and_parts (nat_le 0 y) (nat_lt y 0) e in
    let b = ltb-true y 0 h.1 in
    absurd (omega arith)

pub reads_nothing : (y : ℕ) → is_read (two none none) y ≡ true → ⊥
reads_nothing y e =
    ⊎_elim (none_has y) (λ h. ⊎_elim (none_has y) (none_has y) (or_cases (is_among none y) (is_among none y) h))
    (or_cases (is_among none y) (is_among none y || is_among none y) e)

-- ---- registers

abbrev pub Registers : Type 1
Registers = ℕ → Type 0

-- and one more
abbrev pub With : Registers → ℕ → Registers
With R x y = R y ⊎ (y ≡ x)

abbrev pub OfOperand : Registers → RightOperand → Type 0
OfOperand R (Register x) = R x
OfOperand R (Number n) = Unit {0}

operand_of : (R : Registers) (z : RightOperand) (y : ℕ) → OfOperand R z → is_among (operand z) y ≡ true → R y
operand_of R (Register x) y r e = subst R (sym (one_is x y e)) r
operand_of R (Number n) y r e = absurd (none_has y e)

operand_more : (R S : Registers) (z : RightOperand) → ((y : ℕ) → R y → S y) → OfOperand R z → OfOperand S z
operand_more R S (Register x) k r = k x r
operand_more R S (Number n) k r = tt

-- a branch passes over one instruction that ends the run; where it may, it is the last of all
abbrev pub PassesEnd : (last : Type 0) → List FlatInstruction → Type 0
PassesEnd T [] = T
PassesEnd T (End e ∷ is) = Unit {0}
PassesEnd T _ = ⊥

module _ (p : FlatProgram) (f : ℕ) (gives : results_of (function_in p f) ≤ 1) where
  -- what an instruction reads is among some registers. Code of integers has no jumps but behind its blocks, no accesses
  -- and no calls of addresses
  abbrev pub Sources : Registers → FlatInstruction → Type 0
  Sources R (Constant x n) = Unit {0}
  Sources R (Move x y) = R y
  Sources R (Operate op x y z) = R y × OfOperand R z
  Sources R (Operate32 op x y z) = R y × OfOperand R z
  Sources R (Load op x y offset) = ⊥
  Sources R (Store op y offset x) = ⊥
  Sources R (Branch op y z past) = R y × OfOperand R z
  Sources R (JumpForward past) = ⊥
  Sources R (JumpBack back) = ⊥
  Sources R Turn = Unit {0}
  Sources R (Call g first x) = (j : ℕ) → j < parameters_of (function_in p g) → R (first + j)
  Sources R (CallAddress y first n x r) = ⊥
  Sources R (Return y) = R y
  Sources R (Get x) = Unit {0}
  Sources R (Put x) = R x
  Sources R (Exit x) = R x
  Sources R (End e) = Unit {0}
  Sources R (Charged x) = Unit {0}

  -- and what it makes
  abbrev pub Targets : Registers → FlatInstruction → Type 0
  Targets P (Constant x n) = P x
  Targets P (Move x y) = P x
  Targets P (Operate op x y z) = P x
  Targets P (Operate32 op x y z) = P x
  Targets P (Call g first x) = (results_of (function_in p g) ≡ 1) × P x
  Targets P (Get x) = P x
  Targets P (Charged x) = P x
  Targets P _ = Unit {0}

  -- some registers, and what an instruction makes
  abbrev pub Behind : Registers → FlatInstruction → Registers
  Behind R (Constant x n) = With R x
  Behind R (Move x y) = With R x
  Behind R (Operate op x y z) = With R x
  Behind R (Operate32 op x y z) = With R x
  Behind R (Call g first x) = With R x
  Behind R (Get x) = With R x
  Behind R (Charged x) = With R x
  Behind R _ = R

  abbrev pub Guards : (last : Type 0) → FlatInstruction → List FlatInstruction → Type 0
  Guards T (Branch op y z past) is = (past ≡ 1) × PassesEnd T is
  Guards T _ is = Unit {0}

  -- Code that reads nothing but some registers and what it made before, and makes nothing but those of P. Where T holds
  -- its last instruction may be a branch.
  abbrev pub Flow : (last : Type 0) → (P R : Registers) → List FlatInstruction → Type 0
  Flow T P R [] = Unit {0}
  Flow T P R (i ∷ is) = Sources R i × Targets P i × Guards T i is × Flow T P (Behind R i) is

  -- code that makes a register
  abbrev pub Makes : List FlatInstruction → (y : ℕ) → Type 0
  Makes [] y = ⊥
  Makes (i ∷ is) y = (is_among (made_by p i) y ≡ true) ⊎ Makes is y

  -- ---- one instruction

  -- what is among three spans
  of_three : (R : Registers) (a b c : Span) (y : ℕ) → (is_among a y ≡ true → R y) → (is_among b y ≡ true → R y)
      → (is_among c y ≡ true → R y) → (is_among a y || (is_among b y || is_among c y)) ≡ true → R y
  of_three R a b c y fa fb fc e =
      ⊎_elim fa (λ h. ⊎_elim fb fc (or_cases (is_among b y) (is_among c y) h))
      (or_cases (is_among a y) (is_among b y || is_among c y) e)

  of_one : (R : Registers) (x y : ℕ) → R x → is_among (one x) y ≡ true → R y
  of_one R x y r e = subst R (sym (one_is x y e)) r

  of_none : (R : Registers) (y : ℕ) → is_among none y ≡ true → R y
  of_none R y e = absurd (none_has y e)

  of_two : (R : Registers) (x : ℕ) (z : RightOperand) (y : ℕ) → R x → OfOperand R z
      → is_read (two (one x) (operand z)) y ≡ true → R y
  of_two R x z y rx rz e = of_three R (one x) (operand z) none y (of_one R x y rx) (operand_of R z y rz) (of_none R y) e

  of_first : (R : Registers) (x y : ℕ) → R x → is_read (two (one x) none) y ≡ true → R y
  of_first R x y r e = of_three R (one x) none none y (of_one R x y r) (of_none R y) (of_none R y) e

  of_nothing : (R : Registers) (y : ℕ) → is_read (two none none) y ≡ true → R y
  of_nothing R y e = absurd (reads_nothing y e)

  of_many : (R : Registers) (x n y : ℕ) → ((j : ℕ) → j < n → R (x + j))
      → is_read (record { left = none; right = none; others = many x n }) y ≡ true → R y
  of_many R x n y r e =
      of_three R none none (many x n) y (of_none R y) (of_none R y)
      (λ h. let a = many_is x n y h in subst R (sym a.2) (r a.0 a.1)) e

  pub sources_read : (R : Registers) (i : FlatInstruction) (y : ℕ) → Sources R i → is_read (read_by p f i) y ≡ true
      → R y
  sources_read R (Constant x n) y s e = of_nothing R y e
  sources_read R (Move x z) y s e = of_first R z y s e
  sources_read R (Operate op x a z) y s e = of_two R a z y s.0 s.1 e
  sources_read R (Operate32 op x a z) y s e = of_two R a z y s.0 s.1 e
  sources_read R (Load op x a offset) y s e = absurd s
  sources_read R (Store op a offset x) y s e = absurd s
  sources_read R (Branch op a z past) y s e = of_two R a z y s.0 s.1 e
  sources_read R (JumpForward past) y s e = absurd s
  sources_read R (JumpBack back) y s e = absurd s
  sources_read R Turn y s e = of_nothing R y e
  sources_read R (Call g first x) y s e = of_many R first (parameters_of (function_in p g)) y s e
  sources_read R (CallAddress a first n x r) y s e = absurd s
  sources_read R (Return a) y s e =
      of_many R a (results_of (function_in p f)) y
      (λ j lt. let z : a + j ≡ a = omega (arith, gives, lt) in subst R (sym z) s) e
  sources_read R (Get x) y s e = of_nothing R y e
  sources_read R (Put x) y s e = of_first R x y s e
  sources_read R (Exit x) y s e = of_first R x y s e
  sources_read R (End x) y s e = of_nothing R y e
  sources_read R (Charged x) y s e = of_nothing R y e

  -- a call makes one register
  called_one : (g x y : ℕ) → results_of (function_in p g) ≡ 1
      → is_among (many x (results_of (function_in p g))) y ≡ true → y ≡ x
  called_one g x y n e =
      let h = many_is x (results_of (function_in p g)) y e in
      omega (arith, n, h.1, h.2)

  pub made_behind : (P R : Registers) (i : FlatInstruction) (y : ℕ) → Sources R i → Targets P i
      → is_among (made_by p i) y ≡ true → P y × Behind R i y
  made_behind P R (Constant x n) y s t e = let h = one_is x y e in (subst P (sym h) t, inr h)
  made_behind P R (Move x z) y s t e = let h = one_is x y e in (subst P (sym h) t, inr h)
  made_behind P R (Operate op x a z) y s t e = let h = one_is x y e in (subst P (sym h) t, inr h)
  made_behind P R (Operate32 op x a z) y s t e = let h = one_is x y e in (subst P (sym h) t, inr h)
  made_behind P R (Load op x a offset) y s t e = absurd s
  made_behind P R (Call g first x) y s t e = let h = called_one g x y t.0 e in (subst P (sym h) t.1, inr h)
  made_behind P R (CallAddress a first n x r) y s t e = absurd s
  made_behind P R (Get x) y s t e = let h = one_is x y e in (subst P (sym h) t, inr h)
  made_behind P R (Charged x) y s t e = let h = one_is x y e in (subst P (sym h) t, inr h)
  made_behind P R _ y s t e = absurd (none_has y e)

  pub behind_made : (P R : Registers) (i : FlatInstruction) (y : ℕ) → Targets P i → Behind R i y
      → R y ⊎ (is_among (made_by p i) y ≡ true)
  behind_made P R (Constant x n) y t (inl r) = inl r
  behind_made P R (Constant x n) y t (inr e) = inr (subst (λ z. is_among (one x) z ≡ true) (sym e) (one_has x))
  behind_made P R (Move x z) y t (inl r) = inl r
  behind_made P R (Move x a) y t (inr e) = inr (subst (λ z. is_among (one x) z ≡ true) (sym e) (one_has x))
  behind_made P R (Operate op x a z) y t (inl r) = inl r
  behind_made P R (Operate op x a b) y t (inr e) = inr (subst (λ z. is_among (one x) z ≡ true) (sym e) (one_has x))
  behind_made P R (Operate32 op x a z) y t (inl r) = inl r
  behind_made P R (Operate32 op x a b) y t (inr e) = inr (subst (λ z. is_among (one x) z ≡ true) (sym e) (one_has x))
  behind_made P R (Call g first x) y t (inl r) = inl r
  behind_made P R (Call g first x) y t (inr e) =
      inr (subst (λ z. is_among (many x z) y ≡ true) (sym t.0)
      (subst (λ z. is_among (one x) z ≡ true) (sym e) (one_has x)))
  behind_made P R (Get x) y t (inl r) = inl r
  behind_made P R (Get x) y t (inr e) = inr (subst (λ z. is_among (one x) z ≡ true) (sym e) (one_has x))
  behind_made P R (Charged x) y t (inl r) = inl r
  behind_made P R (Charged x) y t (inr e) = inr (subst (λ z. is_among (one x) z ≡ true) (sym e) (one_has x))
  behind_made P R _ y t r = inl r

  behind_keeps : (R : Registers) (i : FlatInstruction) (y : ℕ) → R y → Behind R i y
  behind_keeps R (Constant x n) y r = inl r
  behind_keeps R (Move x z) y r = inl r
  behind_keeps R (Operate op x a z) y r = inl r
  behind_keeps R (Operate32 op x a z) y r = inl r
  behind_keeps R (Call g first x) y r = inl r
  behind_keeps R (Get x) y r = inl r
  behind_keeps R (Charged x) y r = inl r
  behind_keeps R _ y r = r

  -- an instruction leads to the next one, or it is a branch that passes over one
  pub onward : (T : Type 0) (R : Registers) (i : FlatInstruction) (is : List FlatInstruction) (pc q : ℕ) → Sources R i
      → Guards T i is → Leads i pc q → (q ≡ pc + 1) ⊎ ((q ≡ pc + 2) × PassesEnd T is)
  onward T R (Branch op a z past) is pc q s g (inl e) = inl (sym (same_Some (pc + 1) q e))
  onward T R (Branch op a z past) is pc q s g (inr e) =
      let same = same_Some (pc + 1 + past) q e in
      inr (omega (arith, same, g.0), g.1)
  onward T R (Load op x a offset) is pc q s g l = absurd s
  onward T R (Store op a offset x) is pc q s g l = absurd s
  onward T R (JumpForward past) is pc q s g l = absurd s
  onward T R (JumpBack back) is pc q s g l = absurd s
  onward T R (CallAddress a first n x r) is pc q s g l = absurd s
  onward T R (Return a) is pc q s g (inl e) = absurd (none-some q e)
  onward T R (Exit a) is pc q s g (inl e) = absurd (none-some q e)
  onward T R (End a) is pc q s g (inl e) = absurd (none-some q e)
  onward T R _ is pc q s g (inl e) = inl (sym (same_Some (pc + 1) q e))
  onward T R _ is pc q s g (inr e) = absurd (none-some q e)

  -- what makes a register leads to the next instruction alone
  pub maker_onward : (i : FlatInstruction) (y pc q : ℕ) → is_among (made_by p i) y ≡ true → Leads i pc q → q ≡ pc + 1
  maker_onward (Store op a offset x) y pc q m l = absurd (none_has y m)
  maker_onward (Branch op a z past) y pc q m l = absurd (none_has y m)
  maker_onward (JumpForward past) y pc q m l = absurd (none_has y m)
  maker_onward (JumpBack back) y pc q m l = absurd (none_has y m)
  maker_onward (Return a) y pc q m l = absurd (none_has y m)
  maker_onward (Exit a) y pc q m l = absurd (none_has y m)
  maker_onward (End a) y pc q m l = absurd (none_has y m)
  maker_onward _ y pc q m (inl e) = sym (same_Some (pc + 1) q e)
  maker_onward _ y pc q m (inr e) = absurd (none-some q e)

  -- what may be passed over makes nothing
  pub end_first : (T : Type 0) (i : FlatInstruction) (is : List FlatInstruction) (y : ℕ) → PassesEnd T (i ∷ is)
      → is_among (made_by p i) y ≡ true → ⊥
  end_first T (End e) is y h m = none_has y m
  end_first T _ is y h m = h

  -- ---- code behind other code

  guards_append : (T : Type 0) (i : FlatInstruction) (is js : List FlatInstruction) → Guards ⊥ i is
      → Guards T i (is ++ js)
  guards_append T (Branch op a z past) is js g = (g.0, by is g.1)
    where
      by : (is : List FlatInstruction) → PassesEnd ⊥ is → PassesEnd T (is ++ js)
      by [] h = absurd h
      by (End e ∷ is) h = h
      by (_ ∷ is) h = absurd h
  guards_append T _ is js g = g

  pub flow_append : (T : Type 0) (P R : Registers) (is js : List FlatInstruction) → Flow ⊥ P R is
      → ((S : Registers) → ((y : ℕ) → R y → S y) → ((y : ℕ) → Makes is y → S y) → Flow T P S js)
      → Flow T P R (is ++ js)
  flow_append T P R [] js h k = k R (λ y r. r) (λ y m. absurd m)
  flow_append T P R (i ∷ is) js h k = (
    h.0,
    h.1,
    guards_append T i is js h.2,
    flow_append T P (Behind R i) is js h.3
        (λ S keeps makes. k S (λ y r. keeps y (behind_keeps R i y r))
        (λ y m. ⊎_elim (λ e. keeps y (made_behind P R i y h.0 h.1 e).1) (makes y) m)),
  )

  pub makes_right : (is js : List FlatInstruction) (y : ℕ) → Makes js y → Makes (is ++ js) y
  makes_right [] js y m = m
  makes_right (i ∷ is) js y m = inr (makes_right is js y m)

  -- ---- an instruction of such code

  pub sources_more : (R S : Registers) (i : FlatInstruction) → ((y : ℕ) → R y → S y) → Sources R i → Sources S i
  sources_more R S (Constant x n) k s = tt
  sources_more R S (Move x y) k s = k y s
  sources_more R S (Operate op x y z) k s = (k y s.0, operand_more R S z k s.1)
  sources_more R S (Operate32 op x y z) k s = (k y s.0, operand_more R S z k s.1)
  sources_more R S (Load op x a offset) k s = absurd s
  sources_more R S (Store op a offset x) k s = absurd s
  sources_more R S (Branch op y z past) k s = (k y s.0, operand_more R S z k s.1)
  sources_more R S (JumpForward past) k s = absurd s
  sources_more R S (JumpBack back) k s = absurd s
  sources_more R S Turn k s = tt
  sources_more R S (Call g first x) k s = λ j lt. k (first + j) (s j lt)
  sources_more R S (CallAddress a first n x r) k s = absurd s
  sources_more R S (Return y) k s = k y s
  sources_more R S (Get x) k s = tt
  sources_more R S (Put x) k s = k x s
  sources_more R S (Exit x) k s = k x s
  sources_more R S (End e) k s = tt
  sources_more R S (Charged x) k s = tt

  -- it reads and makes registers of P alone
  pub flow_names : (T : Type 0) (P R : Registers) (is : List FlatInstruction) (r : ℕ) (x : FlatInstruction)
      → ((y : ℕ) → R y → P y) → Flow T P R is → slice_get is r ≡ Some x → (y : ℕ)
      → (is_read (read_by p f x) y ≡ true → P y) × (is_among (made_by p x) y ≡ true → P y)
  flow_names T P R [] r x low h e y = absurd (none-some x e)
  flow_names T P R (i ∷ is) zero x low h e y =
      let same = same_Some i x e in (
        λ m. sources_read P i y (sources_more R P i low h.0)
            (subst (λ z. is_read (read_by p f z) y ≡ true) (sym same) m),
        λ m. (made_behind P R i y h.0 h.1 (subst (λ z. is_among (made_by p z) y ≡ true) (sym same) m)).0,
      )
  flow_names T P R (i ∷ is) (suc r) x low h e y =
      flow_names T P (Behind R i) is r x
      (λ z b. ⊎_elim (low z) (λ m. (made_behind P R i z h.0 h.1 m).0) (behind_made P R i z h.1 b)) h.3 e y

  -- and leads to the next instruction, or past one that ends the run
  pub flow_leads : (T : Type 0) (P R : Registers) (is : List FlatInstruction) (r : ℕ) (x : FlatInstruction)
      → Flow T P R is → slice_get is r ≡ Some x → (pc q : ℕ) → Leads x pc q
      → (q ≡ pc + 1) ⊎ ((q ≡ pc + 2)
      × (((z : FlatInstruction) × (slice_get is (suc r) ≡ Some z) × ((y : ℕ) → is_among (made_by p z) y ≡ true → ⊥))
      ⊎ (T × (length is ≡ suc r))))
  flow_leads T P R [] r x h e pc q l = absurd (none-some x e)
  flow_leads T P R (i ∷ is) zero x h e pc q l =
      let same = same_Some i x e in
      ⊎_elim inl (λ g. inr (g.0, by is g.1))
      (onward T R i is pc q h.0 h.2 (subst (λ z. Leads z pc q) (sym same) l))
    where
      by : (is : List FlatInstruction) → PassesEnd T is
          → ((z : FlatInstruction) × (slice_get is zero ≡ Some z) × ((y : ℕ) → is_among (made_by p z) y ≡ true → ⊥))
          ⊎ (T × (length (i ∷ is) ≡ suc zero))
      by [] t = inr (t, refl)
      by (End e ∷ is) t = inl (End e, refl, none_has)
      by (_ ∷ is) t = absurd t
  flow_leads T P R (i ∷ is) (suc r) x h e pc q l =
      ⊎_elim inl (λ g. inr (g.0, ⊎_elim inl (λ b. inr (b.0, ap suc b.1)) g.1))
      (flow_leads T P (Behind R i) is r x h.3 e pc q l)
