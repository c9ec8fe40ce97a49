-- Straight code: no jumps, and branches that pass over one instruction that ends the run.
use Rattle.std.proofs.Common.{◌≡◌, ◌⊎◌, inl, inr, ⊎_elim, ℕ, zero, suc, ◌+◌, ◌<◌, ◌≤◌, refl, sym, ap, subst, arith}
use Rattle.std.proofs.Common.{true, false, Bool, List, [], ◌∷◌, length, Some}
use Rattle.std.specs.Prelude.{slice_get, ◌||◌, if◌then◌else◌}
use Rattle.std.proofs.lemmas.Bool.{or_cases}
use Rattle.std.proofs.lemmas.Option.{same_Some, none-some, slice_get_within}
use Rattle.sb_base.specs.declared.ending.Ending.{Ending}
use Rattle.flat_code.specs.declared.instruction.RightOperand.{RightOperand}
use Rattle.flat_code.specs.declared.instruction.RightOperand.TheVariants.{Register, Number}
use Rattle.flat_code.specs.declared.instruction.FlatInstruction.{FlatInstruction}
use Rattle.flat_code.specs.declared.instruction.FlatInstruction.TheVariants.{Constant, Move, Operate, Operate32}
use Rattle.flat_code.specs.declared.instruction.FlatInstruction.TheVariants.{Load, Store, Branch, JumpForward}
use Rattle.flat_code.specs.declared.instruction.FlatInstruction.TheVariants.{JumpBack, Turn, Call, CallAddress}
use Rattle.flat_code.specs.declared.instruction.FlatInstruction.TheVariants.{Return, Get, Put, Exit, End, Charged}
use Rattle.flat_code.specs.declared.function.FlatProgram.{FlatProgram}
use Rattle.flat_code.specs.Calls.{function_in}
use Rattle.flat_code.specs.Meaning.{parameters_of, results_of}
use Rattle.reg_plan.specs.declared.effects.Span.{Span}
use Rattle.reg_plan.specs.Effects.{read_by, is_read, made_by, is_among, one, none, many, two, operand}
use Rattle.reg_plan.specs.Effects.{Leads}
use Rattle.image_laws.specs.Plans.Assignment.{Registers, IsOneOf, StaysWithin}
use Rattle.image_laws.proofs.Plans.Flow.{one_is, one_has, many_is, many_has, none_has, With, OfOperand}
use Rattle.image_laws.proofs.Assignment.Flows.{Local, Flows}

-- so many registers from one on are among some
abbrev pub AllFrom : Registers → (first count : ℕ) → Type 0
AllFrom R x n = (j : ℕ) → j < n → R (x + j)

-- some registers, and so many from one on
pub record IsFrom (x n y : ℕ) : Type 0 where
  pub number : ℕ
  pub low : number < n
  pub is : y ≡ x + number

abbrev pub WithAll : Registers → (first count : ℕ) → Registers
WithAll R x n y = R y ⊎ IsFrom x n y

-- all of a list are among some
abbrev pub AreIn : List ℕ → Registers → Type 0
AreIn [] R = Unit {0}
AreIn (x ∷ xs) R = R x × AreIn xs R

pub one_in : (xs : List ℕ) (R : Registers) (y : ℕ) → AreIn xs R → IsOneOf xs y → R y
one_in [] R y all h = absurd h
one_in (x ∷ xs) R y all (inl e) = subst R (sym e) all.0
one_in (x ∷ xs) R y all (inr h) = one_in xs R y all.1 h

pub are_in_more : (xs : List ℕ) (R S : Registers) → ((y : ℕ) → R y → S y) → AreIn xs R → AreIn xs S
are_in_more [] R S k all = tt
are_in_more (x ∷ xs) R S k all = (k x all.0, are_in_more xs R S k all.1)

-- a branch passes over one instruction that ends the run; where the code leads further, the last may pass over its end
abbrev pub PassesOver : (beyond : ℕ) → List FlatInstruction → Type 0
PassesOver b [] = b ≡ 1
PassesOver b (End e ∷ is) = Unit {0}
PassesOver b _ = ⊥

module _ (p : FlatProgram) (u : ℕ) (P : Registers) where
  -- what an instruction reads is among some registers
  abbrev pub Sources : Registers → FlatInstruction → Type 0
  Sources R (Constant x n) = Unit {0}
  Sources R (Move x y) = R y
  Sources R (Operate op x y z) = R y × OfOperand R z
  Sources R (Operate32 op x y z) = R y × OfOperand R z
  Sources R (Load op x y offset) = R y
  Sources R (Store op y offset x) = R y × R x
  Sources R (Branch op y z past) = R y × OfOperand R z
  Sources R (JumpForward past) = ⊥
  Sources R (JumpBack back) = ⊥
  Sources R Turn = Unit {0}
  Sources R (Call g first x) = AllFrom R first (parameters_of (function_in p g))
  Sources R (CallAddress y first n x r) = R y × AllFrom R first n
  Sources R (Return y) = AllFrom R y (results_of (function_in p u))
  Sources R (Get x) = Unit {0}
  Sources R (Put x) = R x
  Sources R (Exit x) = R x
  Sources R (End e) = Unit {0}
  Sources R (Charged x) = Unit {0}

  -- and what it makes among those that may be named
  abbrev pub Targets : FlatInstruction → Type 0
  Targets (Constant x n) = P x
  Targets (Move x y) = P x
  Targets (Operate op x y z) = P x
  Targets (Operate32 op x y z) = P x
  Targets (Load op x y offset) = P x
  Targets (Call g first x) = AllFrom P x (results_of (function_in p g))
  Targets (CallAddress y first n x r) = AllFrom P x r
  Targets (Get x) = P x
  Targets (Charged x) = P x
  Targets _ = Unit {0}

  -- some registers, and what an instruction makes
  abbrev pub Behind : Registers → FlatInstruction → Registers
  Behind R (Constant x n) = With R x
  Behind R (Move x y) = With R x
  Behind R (Operate op x y z) = With R x
  Behind R (Operate32 op x y z) = With R x
  Behind R (Load op x y offset) = With R x
  Behind R (Call g first x) = WithAll R x (results_of (function_in p g))
  Behind R (CallAddress y first n x r) = WithAll R x r
  Behind R (Get x) = With R x
  Behind R (Charged x) = With R x
  Behind R _ = R

  abbrev pub Passes : (beyond : ℕ) → FlatInstruction → List FlatInstruction → Type 0
  Passes b (Branch op y z past) is = (past ≡ 1) × PassesOver b is
  Passes b _ is = Unit {0}

  abbrev pub Straight : (beyond : ℕ) → Registers → List FlatInstruction → Type 0
  Straight b R [] = Unit {0}
  Straight b R (i ∷ is) = Sources R i × Targets i × Passes b i is × Straight b (Behind R i) is

  -- what is assigned before each instruction
  abbrev pub along : Registers → List FlatInstruction → (place : ℕ) → Registers
  along R is zero = R
  along R [] (suc k) = R
  along R (i ∷ is) (suc k) = along (Behind R i) is k

  -- ---- one instruction

  of_three : (R : Registers) (a b c : Span) (y : ℕ) → (is_among a y ≡ true → R y) → (is_among b y ≡ true → R y)
      → (is_among c y ≡ true → R y) → (is_among a y || (is_among b y || is_among c y)) ≡ true → R y
  of_three R a b c y fa fb fc e =
      ⊎_elim fa (λ h. ⊎_elim fb fc (or_cases (is_among b y) (is_among c y) h))
      (or_cases (is_among a y) (is_among b y || is_among c y) e)

  of_one : (R : Registers) (x y : ℕ) → R x → is_among (one x) y ≡ true → R y
  of_one R x y r e = subst R (sym (one_is x y e)) r

  of_none : (R : Registers) (y : ℕ) → is_among none y ≡ true → R y
  of_none R y e = absurd (none_has y e)

  of_operand : (R : Registers) (z : RightOperand) (y : ℕ) → OfOperand R z → is_among (operand z) y ≡ true → R y
  of_operand R (Register x) y r e = of_one R x y r e
  of_operand R (Number n) y r e = of_none R y e

  of_many : (R : Registers) (x n y : ℕ) → AllFrom R x n → is_among (many x n) y ≡ true → R y
  of_many R x n y all e = let a = many_is x n y e in subst R (sym a.2) (all a.0 a.1)

  of_two : (R : Registers) (a b : Span) (y : ℕ) → (is_among a y ≡ true → R y) → (is_among b y ≡ true → R y)
      → is_read (two a b) y ≡ true → R y
  of_two R a b y fa fb e = of_three R a b none y fa fb (of_none R y) e

  pub sources_read : (R : Registers) (i : FlatInstruction) (y : ℕ) → Sources R i → is_read (read_by p u i) y ≡ true
      → R y
  sources_read R (Constant x n) y s e = of_two R none none y (of_none R y) (of_none R y) e
  sources_read R (Move x z) y s e = of_two R (one z) none y (of_one R z y s) (of_none R y) e
  sources_read R (Operate op x a z) y s e = of_two R (one a) (operand z) y (of_one R a y s.0) (of_operand R z y s.1) e
  sources_read R (Operate32 op x a z) y s e =
      of_two R (one a) (operand z) y (of_one R a y s.0) (of_operand R z y s.1) e
  sources_read R (Load op x a offset) y s e = of_two R (one a) none y (of_one R a y s) (of_none R y) e
  sources_read R (Store op a offset x) y s e = of_two R (one a) (one x) y (of_one R a y s.0) (of_one R x y s.1) e
  sources_read R (Branch op a z past) y s e =
      of_two R (one a) (operand z) y (of_one R a y s.0) (of_operand R z y s.1) e
  sources_read R (JumpForward past) y s e = absurd s
  sources_read R (JumpBack back) y s e = absurd s
  sources_read R Turn y s e = of_two R none none y (of_none R y) (of_none R y) e
  sources_read R (Call g first x) y s e =
      let n = parameters_of (function_in p g) in
      of_three R none none (many first n) y (of_none R y) (of_none R y) (of_many R first n y s) e
  sources_read R (CallAddress a first n x r) y s e =
      of_three R (one a) none (many first n) y (of_one R a y s.0) (of_none R y) (of_many R first n y s.1) e
  sources_read R (Return a) y s e =
      let n = results_of (function_in p u) in
      of_three R none none (many a n) y (of_none R y) (of_none R y) (of_many R a n y s) e
  sources_read R (Get x) y s e = of_two R none none y (of_none R y) (of_none R y) e
  sources_read R (Put x) y s e = of_two R (one x) none y (of_one R x y s) (of_none R y) e
  sources_read R (Exit x) y s e = of_two R (one x) none y (of_one R x y s) (of_none R y) e
  sources_read R (End x) y s e = of_two R none none y (of_none R y) (of_none R y) e
  sources_read R (Charged x) y s e = of_two R none none y (of_none R y) (of_none R y) e

  from_many : (R : Registers) (x n y : ℕ) → is_among (many x n) y ≡ true → WithAll R x n y
  from_many R x n y e = let a = many_is x n y e in inr (record { number = a.0; low = a.1; is = a.2 })

  many_from : (x n y : ℕ) → IsFrom x n y → is_among (many x n) y ≡ true
  many_from x n y h = subst (λ z. is_among (many x n) z ≡ true) (sym h.is) (many_has x n h.number h.low)

  from_one : (R : Registers) (x y : ℕ) → is_among (one x) y ≡ true → With R x y
  from_one R x y e = inr (one_is x y e)

  -- what it makes is assigned behind it, and is named
  pub made_behind : (R : Registers) (i : FlatInstruction) (y : ℕ) → is_among (made_by p i) y ≡ true → Behind R i y
  made_behind R (Constant x n) y e = from_one R x y e
  made_behind R (Move x z) y e = from_one R x y e
  made_behind R (Operate op x a z) y e = from_one R x y e
  made_behind R (Operate32 op x a z) y e = from_one R x y e
  made_behind R (Load op x a offset) y e = from_one R x y e
  made_behind R (Call g first x) y e = from_many R x (results_of (function_in p g)) y e
  made_behind R (CallAddress a first n x r) y e = from_many R x r y e
  made_behind R (Get x) y e = from_one R x y e
  made_behind R (Charged x) y e = from_one R x y e
  made_behind R _ y e = absurd (none_has y e)

  pub made_named : (i : FlatInstruction) (y : ℕ) → Targets i → is_among (made_by p i) y ≡ true → P y
  made_named (Constant x n) y t e = of_one P x y t e
  made_named (Move x z) y t e = of_one P x y t e
  made_named (Operate op x a z) y t e = of_one P x y t e
  made_named (Operate32 op x a z) y t e = of_one P x y t e
  made_named (Load op x a offset) y t e = of_one P x y t e
  made_named (Call g first x) y t e = of_many P x (results_of (function_in p g)) y t e
  made_named (CallAddress a first n x r) y t e = of_many P x r y t e
  made_named (Get x) y t e = of_one P x y t e
  made_named (Charged x) y t e = of_one P x y t e
  made_named _ y t e = absurd (none_has y e)

  one_back : (R : Registers) (x y : ℕ) → With R x y → R y ⊎ (is_among (one x) y ≡ true)
  one_back R x y (inl r) = inl r
  one_back R x y (inr e) = inr (subst (λ z. is_among (one x) z ≡ true) (sym e) (one_has x))

  many_back : (R : Registers) (x n y : ℕ) → WithAll R x n y → R y ⊎ (is_among (many x n) y ≡ true)
  many_back R x n y (inl r) = inl r
  many_back R x n y (inr h) = inr (many_from x n y h)

  pub behind_made : (R : Registers) (i : FlatInstruction) (y : ℕ) → Behind R i y
      → R y ⊎ (is_among (made_by p i) y ≡ true)
  behind_made R (Constant x n) y h = one_back R x y h
  behind_made R (Move x z) y h = one_back R x y h
  behind_made R (Operate op x a z) y h = one_back R x y h
  behind_made R (Operate32 op x a z) y h = one_back R x y h
  behind_made R (Load op x a offset) y h = one_back R x y h
  behind_made R (Call g first x) y h = many_back R x (results_of (function_in p g)) y h
  behind_made R (CallAddress a first n x r) y h = many_back R x r y h
  behind_made R (Get x) y h = one_back R x y h
  behind_made R (Charged x) y h = one_back R x y h
  behind_made R _ y h = inl h

  behind_keeps : (R : Registers) (i : FlatInstruction) (y : ℕ) → R y → Behind R i y
  behind_keeps R (Constant x n) y r = inl r
  behind_keeps R (Move x z) y r = inl r
  behind_keeps R (Operate op x a z) y r = inl r
  behind_keeps R (Operate32 op x a z) y r = inl r
  behind_keeps R (Load op x a offset) y r = inl r
  behind_keeps R (Call g first x) y r = inl r
  behind_keeps R (CallAddress a first n x k) y r = inl r
  behind_keeps R (Get x) y r = inl r
  behind_keeps R (Charged x) y r = inl r
  behind_keeps R _ y r = r

  -- an instruction of straight code leads to the next one, or it is a branch that passes over one
  pub data Onto (b : ℕ) (is : List FlatInstruction) (k pc q : ℕ) : Type 0 where
    Next : q ≡ pc + 1 → Onto b is k pc q
    Over : (e : Ending) → q ≡ pc + 2 → slice_get is k ≡ Some (End e) → Onto b is k pc q
    Past : q ≡ pc + 2 → length is ≡ k → b ≡ 1 → Onto b is k pc q

  passed : (b : ℕ) (is : List FlatInstruction) (pc q : ℕ) → PassesOver b is → q ≡ pc + 2 → Onto b is 0 pc q
  passed b [] pc q g e = Past e refl g
  passed b (End x ∷ is) pc q g e = Over x e refl
  passed b (_ ∷ is) pc q g e = absurd g

  on_next : (b : ℕ) (is : List FlatInstruction) (pc q : ℕ) → Some (pc + 1) ≡ Some q → Onto b is 0 pc q
  on_next b is pc q e = Next (sym (same_Some (pc + 1) q e))

  onward : (b : ℕ) (R : Registers) (i : FlatInstruction) (is : List FlatInstruction) (pc q : ℕ) → Sources R i
      → Passes b i is → Leads i pc q → Onto b is 0 pc q
  onward b R (Branch op a z past) is pc q s g (inl e) = on_next b is pc q e
  onward b R (Branch op a z past) is pc q s g (inr e) =
      passed b is pc q g.1 (let same = same_Some (pc + 1 + past) q e in omega (arith, same, g.0))
  onward b R (JumpForward past) is pc q s g l = absurd s
  onward b R (JumpBack past) is pc q s g l = absurd s
  onward b R (Return a) is pc q s g (inl e) = absurd (none-some q e)
  onward b R (Exit a) is pc q s g (inl e) = absurd (none-some q e)
  onward b R (End a) is pc q s g (inl e) = absurd (none-some q e)
  onward b R (Constant x n) is pc q s g (inl e) = on_next b is pc q e
  onward b R (Move x y) is pc q s g (inl e) = on_next b is pc q e
  onward b R (Operate op x y z) is pc q s g (inl e) = on_next b is pc q e
  onward b R (Operate32 op x y z) is pc q s g (inl e) = on_next b is pc q e
  onward b R (Load op x y offset) is pc q s g (inl e) = on_next b is pc q e
  onward b R (Store op y offset x) is pc q s g (inl e) = on_next b is pc q e
  onward b R Turn is pc q s g (inl e) = on_next b is pc q e
  onward b R (Call f first x) is pc q s g (inl e) = on_next b is pc q e
  onward b R (CallAddress y first n x r) is pc q s g (inl e) = on_next b is pc q e
  onward b R (Get x) is pc q s g (inl e) = on_next b is pc q e
  onward b R (Put x) is pc q s g (inl e) = on_next b is pc q e
  onward b R (Charged x) is pc q s g (inl e) = on_next b is pc q e
  onward b R i is pc q s g (inr e) = absurd (none-some q e)

  -- what makes registers leads to the next one
  pub maker_onward : (R : Registers) (i : FlatInstruction) (y pc q : ℕ) → Sources R i → is_among (made_by p i) y ≡ true
      → Leads i pc q → q ≡ pc + 1
  maker_onward R (Branch op a z past) y pc q s m l = absurd (none_has y m)
  maker_onward R (JumpForward past) y pc q s m l = absurd s
  maker_onward R (JumpBack past) y pc q s m l = absurd s
  maker_onward R (Return a) y pc q s m l = absurd (none_has y m)
  maker_onward R (Exit a) y pc q s m l = absurd (none_has y m)
  maker_onward R (End a) y pc q s m l = absurd (none_has y m)
  maker_onward R (Constant x n) y pc q s m (inl e) = sym (same_Some (pc + 1) q e)
  maker_onward R (Move x z) y pc q s m (inl e) = sym (same_Some (pc + 1) q e)
  maker_onward R (Operate op x a z) y pc q s m (inl e) = sym (same_Some (pc + 1) q e)
  maker_onward R (Operate32 op x a z) y pc q s m (inl e) = sym (same_Some (pc + 1) q e)
  maker_onward R (Load op x a offset) y pc q s m (inl e) = sym (same_Some (pc + 1) q e)
  maker_onward R (Store op a offset x) y pc q s m l = absurd (none_has y m)
  maker_onward R Turn y pc q s m l = absurd (none_has y m)
  maker_onward R (Call f first x) y pc q s m (inl e) = sym (same_Some (pc + 1) q e)
  maker_onward R (CallAddress a first n x r) y pc q s m (inl e) = sym (same_Some (pc + 1) q e)
  maker_onward R (Get x) y pc q s m (inl e) = sym (same_Some (pc + 1) q e)
  maker_onward R (Put x) y pc q s m l = absurd (none_has y m)
  maker_onward R (Charged x) y pc q s m (inl e) = sym (same_Some (pc + 1) q e)
  maker_onward R i y pc q s m (inr e) = absurd (none-some q e)

  -- ---- the instruction at a place

  pub record Here (b : ℕ) (R : Registers) (is : List FlatInstruction) (k : ℕ) (i : FlatInstruction) : Type 0 where
    pub sources : Sources (along R is k) i
    pub targets : Targets i
    pub onto : (pc q : ℕ) → Leads i pc q → Onto b is (suc k) pc q
    pub ahead : (y : ℕ) → Behind (along R is k) i y → along R is (suc k) y
    pub before : (y : ℕ) → along R is (suc k) y → Behind (along R is k) i y

  lift : (b : ℕ) (x : FlatInstruction) (is : List FlatInstruction) (k pc q : ℕ) → Onto b is k pc q
      → Onto b (x ∷ is) (suc k) pc q
  lift b x is k pc q (Next e) = Next e
  lift b x is k pc q (Over z e at) = Over z e at
  lift b x is k pc q (Past e same one) = Past e (ap suc same) one

  here : (b : ℕ) (R : Registers) (is : List FlatInstruction) (k : ℕ) (i : FlatInstruction) → Straight b R is
      → slice_get is k ≡ Some i → Here b R is k i
  here b R [] k i h e = absurd (none-some i e)
  here b R (x ∷ is) zero i h e =
      subst (λ z. Here b R (x ∷ is) zero z) (same_Some x i e) (record {
        sources = h.0;
        targets = h.1;
        onto = λ pc q l. lift b x is 0 pc q (onward b R x is pc q h.0 h.2 l);
        ahead = λ y a. a;
        before = λ y a. a;
      })
  here b R (x ∷ is) (suc k) i h e =
      let rest = here b (Behind R x) is k i h.3 e in
      record {
        sources = rest.sources;
        targets = rest.targets;
        onto = λ pc q l. lift b x is (suc k) pc q (rest.onto pc q l);
        ahead = rest.ahead;
        before = rest.before;
      }

  along_keeps : (R : Registers) (is : List FlatInstruction) (k y : ℕ) → R y → along R is k y
  along_keeps R is zero y r = r
  along_keeps R [] (suc k) y r = r
  along_keeps R (x ∷ is) (suc k) y r = along_keeps (Behind R x) is k y (behind_keeps R x y r)

  along_low : (b : ℕ) (R : Registers) (is : List FlatInstruction) (k y : ℕ) → Straight b R is → ((y : ℕ) → R y → P y)
      → along R is k y → P y
  along_low b R is zero y h low a = low y a
  along_low b R [] (suc k) y h low a = low y a
  along_low b R (x ∷ is) (suc k) y h low a =
      along_low b (Behind R x) is k y h.3
      (λ z m. ⊎_elim (low z) (made_named x z h.1) (behind_made R x z m)) a

  along_end : (R : Registers) (is : List FlatInstruction) (q y : ℕ) → length is ≤ q → along R is (length is) y
      → along R is q y
  along_end R [] zero y le a = a
  along_end R [] (suc q) y le a = a
  along_end R (x ∷ is) zero y le a = absurd (omega arith)
  along_end R (x ∷ is) (suc q) y le a = along_end (Behind R x) is q y (omega (arith, le)) a

  end_along : (R : Registers) (is : List FlatInstruction) (q y : ℕ) → length is ≤ q → along R is q y
      → along R is (length is) y
  end_along R [] zero y le a = a
  end_along R [] (suc q) y le a = a
  end_along R (x ∷ is) zero y le a = absurd (omega arith)
  end_along R (x ∷ is) (suc q) y le a = end_along (Behind R x) is q y (omega (arith, le)) a

  -- code that makes a register
  abbrev pub Makes : List FlatInstruction → (y : ℕ) → Type 0
  Makes [] y = ⊥
  Makes (i ∷ is) y = (is_among (made_by p i) y ≡ true) ⊎ Makes is y

  pub makes_along : (R : Registers) (is : List FlatInstruction) (y : ℕ) → Makes is y → along R is (length is) y
  makes_along R [] y m = absurd m
  makes_along R (i ∷ is) y m =
      ⊎_elim (λ e. along_keeps (Behind R i) is (length is) y (made_behind R i y e))
      (makes_along (Behind R i) is y) m

  -- ---- such code is assigned what it reads

  module _ (b : ℕ) (G : Registers) (is : List FlatInstruction) (h : Straight b G is) where
    stays : (pc : ℕ) (i : FlatInstruction) → pc < length is → Here b G is pc i → StaysWithin (length is + b) pc i
    stays pc (Branch op a z past) lt o = by (pc + 1 + past) refl (o.onto pc (pc + 1 + past) (inr refl))
      where
        by : (q : ℕ) → q ≡ pc + 1 + past → Onto b is (suc pc) pc q → pc + 1 + past ≤ length is + b
        by q s (Next e) = omega (arith, s, e, lt)
        by q s (Over x e at) = let within = slice_get_within is (suc pc) (End x) at in omega (arith, s, within, e)
        by q s (Past e same one) = omega (arith, s, e, same, one)
    stays pc (JumpForward past) lt o = absurd o.sources
    stays pc (JumpBack past) lt o = absurd o.sources
    stays pc _ lt o = tt

    local : (pc : ℕ) (i : FlatInstruction) → slice_get is pc ≡ Some i
        → Local p u P (along G is) (length is + b) pc i
    local pc i at =
        let o = here b G is pc i h at in
        let step_back = λ (y : ℕ) (a : along G is (suc pc) y). behind_made (along G is pc) i y (o.before y a) in
        record {
          stays = stays pc i (slice_get_within is pc i at) o;
          reads = λ y e. sources_read (along G is pc) i y o.sources e;
          steps = λ q y l a. by q y (o.onto pc q l) a step_back;
          makes = λ q y l m only.
              let next : suc pc ≡ q = let e = maker_onward (along G is pc) i y pc q o.sources m l in omega (arith, e) in
              subst (λ z. along G is z y) next (o.ahead y (made_behind (along G is pc) i y m));
          named = λ y m. made_named i y o.targets m;
        }
      where
        by : (q y : ℕ) → Onto b is (suc pc) pc q → along G is q y
            → ((y : ℕ) → along G is (suc pc) y → along G is pc y ⊎ (is_among (made_by p i) y ≡ true))
            → along G is pc y ⊎ (is_among (made_by p i) y ≡ true)
        by q y (Next e) a back =
            let next : q ≡ suc pc = omega (arith, e) in back y (subst (λ z. along G is z y) next a)
        by q y (Over x e at') a back =
            let next : q ≡ suc (suc pc) = omega (arith, e) in
            let o = here b G is (suc pc) (End x) h at' in
            back y (o.before y (subst (λ z. along G is z y) next a))
        by q y (Past e same one) a back =
            back y (subst (λ z. along G is z y) same (end_along G is q y (omega (arith, e, same)) a))

    pub straight : ((y : ℕ) → G y → P y) → (M : List ℕ) → AreIn M (along G is (length is)) → Flows p u P G is b M
    straight low M all = record {
      at = along G is;
      start = λ y a. a;
      keeps = λ k y r. along_keeps G is k y r;
      low = λ k y a. along_low b G is k y h low a;
      each = local;
      behind = λ q y le a. along_end G is q y le a;
      made = λ y m. one_in M (along G is (length is)) y all m;
    }

-- ---- code by a choice

pub if_flows : (p : FlatProgram) (u : ℕ) (P G : Registers) (c : Bool) (is js : List FlatInstruction) (b : ℕ) (M : List ℕ)
    → Flows p u P G is b M → Flows p u P G js b M → Flows p u P G (if c then is else js) b M
if_flows p u P G true is js b M f g = f
if_flows p u P G false is js b M f g = g

-- no code
pub nothing : (p : FlatProgram) (u : ℕ) (P G : Registers) → ((y : ℕ) → G y → P y) → Flows p u P G [] 0 []
nothing p u P G low = straight p u P 0 G [] tt low [] tt

-- an instruction that ends the run or returns makes what one likes
record AtEnd (G P : Registers) (k y : ℕ) : Type 0 where
  first : k ≡ 0 → G y
  low : P y

pub stops_run : (p : FlatProgram) (u : ℕ) (P G : Registers) (i : FlatInstruction) (M : List ℕ)
    → ((y : ℕ) → G y → P y) → AreIn M P → Sources p u P G i → StaysWithin 1 0 i → ((pc q : ℕ) → Leads i pc q → ⊥)
    → ((y : ℕ) → is_among (made_by p i) y ≡ true → ⊥) → Flows p u P G (i ∷ []) 0 M
stops_run p u P G i M low all sources stays nowhere makes = record {
  at = AtEnd G P;
  start = λ y a. a.first refl;
  keeps = λ k y r. record { first = λ s. r; low = low y r };
  low = λ k y a. a.low;
  each = by;
  behind = λ q y le a. record { first = λ s. absurd (omega (arith, s, le)); low = a.low };
  made = λ y m. record { first = λ s. absurd (omega (arith, s)); low = one_in M P y all m };
}
  where
    by : (pc : ℕ) (x : FlatInstruction) → slice_get (i ∷ []) pc ≡ Some x → Local p u P (AtEnd G P) 1 pc x
    by (suc pc) x at = absurd (none-some x at)
    by zero x at = subst (Local p u P (AtEnd G P) 1 0) (same_Some i x at) (record {
      stays = stays;
      reads = λ y r.
          let g = sources_read p u P G i y sources r in record { first = λ s. g; low = low y g };
      steps = λ q y l a. absurd (nowhere 0 q l);
      makes = λ q y l m only. absurd (makes y m);
      named = λ y m. absurd (makes y m);
    })

pub ends_run : (p : FlatProgram) (u : ℕ) (P G : Registers) (e : Ending) (M : List ℕ) → ((y : ℕ) → G y → P y)
    → AreIn M P → Flows p u P G (End e ∷ []) 0 M
ends_run p u P G e M low all =
    stops_run p u P G (End e) M low all tt tt (λ pc q l. ⊎_elim (none-some q) (none-some q) l) (λ y m. none_has y m)
