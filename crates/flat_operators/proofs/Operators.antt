-- The code of each operator gives its value.
use Rattle.std.proofs.Common.{◌≡◌, ℕ, ◌-◌, ◌/◌, ◌%◌, ◌^◌, ◌<◌, ◌≤◌, Bool, true, false, not, ◌==◌}
use Rattle.std.proofs.Common.{if◌then◌else◌, List, [], ◌∷◌, ◌++◌, length, refl, sym, ap, ◌∙◌, subst}
use Rattle.std.proofs.Common.{arith, lt-ltb, ltb-true}
use Rattle.std.specs.Prelude.{nat_lt}
use Rattle.rv_isa.specs.declared.instruction.RegOp.{RegOp}
use Rattle.rv_isa.specs.declared.instruction.RegOp.TheVariants as op
use Rattle.rv_isa.specs.declared.instruction.RegOp32.{RegOp32}
use Rattle.rv_isa.specs.declared.instruction.RegOp32.TheVariants.{Sllw}
use Rattle.rv_isa.specs.Results.{low_word, reg_result, reg32_result}
use Rattle.rv_isa.proofs.Words.{reg_fits}
use Rattle.words.specs.TwosComplement.{low_bits}
use Rattle.words.specs.Operations.{sum, shifted_left}
use Rattle.obj_memory.specs.declared.int_type.IntType.{IntType}
use Rattle.obj_memory.specs.declared.int_type.IntType.TheVariants.{Char, SignedChar, UnsignedChar, Short}
use Rattle.obj_memory.specs.declared.int_type.IntType.TheVariants.{UnsignedShort, Int, UnsignedInt, Long}
use Rattle.obj_memory.specs.declared.int_type.IntType.TheVariants.{UnsignedLong, LongLong, UnsignedLongLong}
use Rattle.obj_memory.specs.Integers.{fit, is_signed, size_of}
use Rattle.obj_memory.specs.declared.operator.UnaryOperator.{UnaryOperator}
use Rattle.obj_memory.specs.declared.operator.UnaryOperator.TheVariants.{Plus, Negate, Complement, Not}
use Rattle.obj_memory.specs.Operators.{one_if, shift_right, shift_amount, unary_value}
use Rattle.flat_code.specs.declared.instruction.RightOperand.TheVariants.{Register, Number}
use Rattle.flat_code.specs.declared.instruction.FlatInstruction.{FlatInstruction}
use Rattle.flat_code.specs.declared.instruction.FlatInstruction.TheVariants.{Constant, Move, Operate, Operate32}
use Rattle.flat_code.specs.State.{State}
use Rattle.flat_code.specs.Words.{IsOfWords}
use Rattle.flat_code.specs.Meaning.{Context}
use Rattle.flat_code.proofs.Stored.{put_same, put_other}
use Rattle.flat_code.specs.Routines.Effects.{IsAllowed, AreAllowed, effect, effects}
use Rattle.flat_code.proofs.Routines.Straight.{effects_append}
use Rattle.flat_operators.specs.Operators.{is_short, appended, wide_code, medium_code, long_code, constant_code}
use Rattle.flat_operators.specs.Operators.{two_shifts, conversion_code, converted, wrapping_code}
use Rattle.flat_operators.specs.Operators.{shift_left_code, shift_right_code, turned, equal_code, unary_code}
use Rattle.flat_operators.specs.Results.{HasResult, IsUnchanged}
use Rattle.flat_operators.proofs.Sets.{one_set, scratch_set, set_again, set_behind, is_value}
use Rattle.flat_operators.proofs.Values.{zeros_by_shifts, signs_by_shifts, int_by_word, left_by_word, right_by}
use Rattle.flat_operators.proofs.Values.{masked, other_by, zero_by, equal_by, amount_of_whole}
use Rattle.flat_operators.proofs.Values.{amount_of_word, whole_shift, word_shift_fits, negated_by, complement_by}

-- code that may be done, behind code that may
pub both_all : (c : Context) (is js : List FlatInstruction) (s : State) → AreAllowed c is s
    → AreAllowed c js (effects c is s) → AreAllowed c (is ++ js) s
both_all c [] js s a b = b
both_all c (i ∷ is) js s a b = (a.0, both_all c is js (effect c i s) a.1 b)

module _ (c : Context) (d n : ℕ) where
  -- code without jumps gives a value in d
  abbrev pub Gives : List FlatInstruction → State → (value : ℕ) → Type 0
  Gives is s v = AreAllowed c is s × HasResult d v n s (effects c is s)

  -- nothing is left to do
  nothing_left : (s : State) (v : ℕ) → s.values d ≡ v → Gives [] s v
  nothing_left s v e = (
    tt,
    record {
      result = e;
      others = λ x low ne. refl;
      memory = refl;
      shows = record { input = refl; output = refl; taken = refl; accesses = refl; turns = refl };
    },
  )

  -- an instruction that sets d, and what follows it
  pub then_gives : (i : FlatInstruction) (is : List FlatInstruction) (u v : ℕ) (s : State) → IsAllowed c i s
      → HasResult d u n s (effect c i s) → Gives is (effect c i s) v → Gives (i ∷ is) s v
  then_gives i is u v s a h g = ((a, g.0), set_again n d u v s (effect c i s) (effects c is (effect c i s)) h g.1)

  -- one that sets the scratch register
  pub behind_gives : (i : FlatInstruction) (is : List FlatInstruction) (v : ℕ) (s : State) → IsAllowed c i s
      → IsUnchanged n s (effect c i s) → Gives is (effect c i s) v → Gives (i ∷ is) s v
  behind_gives i is v s a h g = ((a, g.0), set_behind n d v s (effect c i s) (effects c is (effect c i s)) h g.1)

  -- ---- constants

  -- so many more bits behind those that stand in d
  appended_gives : (k bits u v : ℕ) (s : State) → k < 64 → s.values d ≡ u → sum 64 (shifted_left 64 u k) bits ≡ v
      → bits < 2 ^ 20 → Gives (appended k d bits) s v
  unfolding reg_result
  appended_gives k bits u v s shift is_u e low =
      let m = reg_result op.Sll (s.values d) (low_bits 64 k) in
      let s1 = effect c (Operate op.Sll d d (Number k)) s in
      let amount : low_bits 64 k % 64 ≡ k = omega (arith, shift) in
      let here : s1.values d ≡ shifted_left 64 u k =
      put_same s.values d m ∙ ap (shifted_left 64 (s.values d)) amount ∙ ap (λ x. shifted_left 64 x k) is_u in
      let is_bits : low_bits 64 bits ≡ bits = omega arith in
      then_gives (Operate op.Sll d d (Number k)) (Operate op.Add d d (Number bits) ∷ []) m v s tt (one_set n d m _ s) (
        (tt, tt),
        is_value n d (sum 64 (s1.values d) (low_bits 64 bits)) v s1 _
            (ap (λ x. sum 64 x (low_bits 64 bits)) here ∙ ap (sum 64 (shifted_left 64 u k)) is_bits ∙ e)
            (one_set n d _ _ s1),
      )

  -- two lists one behind the other
  pub both_give : (is js : List FlatInstruction) (u v : ℕ) (s : State) → Gives is s u → Gives js (effects c is s) v
      → Gives (is ++ js) s v
  both_give is js u v s g h = (
    both_all c is js s g.0 h.0,
    subst (HasResult d v n s) (sym (effects_append c is js s))
        (set_again n d u v s (effects c is s) (effects c js (effects c is s)) g.1 h.1),
  )

  wide_gives : (s : State) (word : ℕ) → word < 2 ^ 64 → Gives (wide_code d word) s word
  wide_gives s word low =
      then_gives (Constant d high) (appended 20 d middle ++ appended 20 d (word % 2 ^ 20)) (low_bits 64 high) word s tt
      (one_set n d _ _ s) (both_give (appended 20 d middle) (appended 20 d (word % 2 ^ 20)) (word / 2 ^ 20) word s1 g
      (appended_gives 20 (word % 2 ^ 20) (word / 2 ^ 20) word (effects c (appended 20 d middle) s1) (omega arith)
      g.1.result third (omega arith)))
    where
      high : ℕ
      high = word / 2 ^ 40

      middle : ℕ
      middle = word / 2 ^ 20 % 2 ^ 20

      s1 : State
      s1 = effect c (Constant d high) s

      first : s1.values d ≡ high
      first = put_same s.values d (low_bits 64 high) ∙ omega arith

      second : sum 64 (shifted_left 64 high 20) middle ≡ word / 2 ^ 20
      second = omega arith

      third : sum 64 (shifted_left 64 (word / 2 ^ 20) 20) (word % 2 ^ 20) ≡ word
      third = omega arith

      g : Gives (appended 20 d middle) s1 (word / 2 ^ 20)
      g = appended_gives 20 middle high (word / 2 ^ 20) s1 (omega arith) first second (omega arith)

  medium_gives : (s : State) (word : ℕ) → word < 2 ^ 33 → Gives (medium_code d word) s word
  medium_gives s word low =
      then_gives (Constant d (word / 8)) (appended 3 d (word % 8)) (low_bits 64 (word / 8)) word s tt
      (one_set n d _ _ s) (appended_gives 3 (word % 8) (word / 8) word (effect c (Constant d (word / 8)) s) (omega arith) first last
      (omega arith))
    where
      first : (effect c (Constant d (word / 8)) s).values d ≡ word / 8
      first = put_same s.values d (low_bits 64 (word / 8)) ∙ omega (arith, low)

      last : sum 64 (shifted_left 64 (word / 8) 3) (word % 8) ≡ word
      last = omega (arith, low)

  pub constant_gives : (s : State) (word : ℕ) → word < 2 ^ 64 → Gives (constant_code d word) s word
  unfolding constant_code
  constant_gives s word low = cases (is_short word)
    where
      long : (b : Bool) → nat_lt word (2 ^ 33) ≡ b
          → Gives (if b then medium_code d word else wide_code d word) s word
      long true e = medium_gives s word (ltb-true word (2 ^ 33) e)
      long false e = wide_gives s word low

      whole : low_bits 64 word ≡ word
      whole = omega arith

      cases : (b : Bool) → Gives (if b then Constant d word ∷ [] else long_code d word) s word
      cases true = ((tt, tt), is_value n d (low_bits 64 word) word s _ whole (one_set n d _ _ s))
      cases false = long (nat_lt word (2 ^ 33)) refl

  -- ---- conversions

  shifts_give : (back : RegOp) (m x v : ℕ) (s : State)
      → reg_result back (reg_result op.Sll (s.values x) (low_bits 64 m)) (low_bits 64 m) ≡ v
      → Gives (two_shifts back m d x) s v
  shifts_give back m x v s e =
      let u = reg_result op.Sll (s.values x) (low_bits 64 m) in
      let s1 = effect c (Operate op.Sll d x (Number m)) s in
      let here : s1.values d ≡ u = put_same s.values d u in
      then_gives (Operate op.Sll d x (Number m)) (Operate back d d (Number m) ∷ []) u v s tt (one_set n d u _ s) (
        (tt, tt),
        is_value n d (reg_result back (s1.values d) (low_bits 64 m)) v s1 _
            (ap (λ w. reg_result back w (low_bits 64 m)) here ∙ e) (one_set n d _ _ s1),
      )

  pub conversion_gives : (t : IntType) (x : ℕ) (s : State) → s.values x < 2 ^ 64
      → Gives (conversion_code t d x) s (fit t (s.values x))
  unfolding conversion_code fit
  conversion_gives t x s fits = by t
    where
      y : ℕ
      y = s.values x

      whole : low_bits 64 y ≡ y
      whole = omega arith

      moved : Gives (Move d x ∷ []) s (low_bits 64 y)
      moved = ((tt, tt), is_value n d y (low_bits 64 y) s _ (sym whole) (one_set n d y _ s))

      by : (t : IntType) → Gives (conversion_code t d x) s (fit t y)
      by Char = shifts_give op.Srl 56 x _ s (zeros_by_shifts 8 y (omega arith) (omega arith))
      by SignedChar = shifts_give op.Sra 56 x _ s (signs_by_shifts 8 y (omega arith) (omega arith))
      by UnsignedChar = shifts_give op.Srl 56 x _ s (zeros_by_shifts 8 y (omega arith) (omega arith))
      by Short = shifts_give op.Sra 48 x _ s (signs_by_shifts 16 y (omega arith) (omega arith))
      by UnsignedShort = shifts_give op.Srl 48 x _ s (zeros_by_shifts 16 y (omega arith) (omega arith))
      by Int = ((tt, tt), is_value n d _ (fit Int y) s _ (int_by_word y) (one_set n d _ _ s))
      by UnsignedInt = shifts_give op.Srl 32 x _ s (zeros_by_shifts 32 y (omega arith) (omega arith))
      by Long = moved
      by UnsignedLong = moved
      by LongLong = moved
      by UnsignedLongLong = moved

  -- what stands in d is converted
  pub converted_gives : (t : IntType) (s : State) → s.values d < 2 ^ 64
      → Gives (converted t d) s (fit t (s.values d))
  unfolding fit size_of
  converted_gives t s fits = by t
    where
      whole : s.values d ≡ low_bits 64 (s.values d)
      whole = omega arith

      by : (t : IntType) → Gives (converted t d) s (fit t (s.values d))
      by Char = conversion_gives Char d s fits
      by SignedChar = conversion_gives SignedChar d s fits
      by UnsignedChar = conversion_gives UnsignedChar d s fits
      by Short = conversion_gives Short d s fits
      by UnsignedShort = conversion_gives UnsignedShort d s fits
      by Int = conversion_gives Int d s fits
      by UnsignedInt = conversion_gives UnsignedInt d s fits
      by Long = nothing_left s _ whole
      by UnsignedLong = nothing_left s _ whole
      by LongLong = nothing_left s _ whole
      by UnsignedLongLong = nothing_left s _ whole

  -- ---- an operator of 64 bits, and a conversion

  module _ (s : State) (w : IsOfWords s) where
    pub operator_gives : (o : RegOp) (t : IntType) (a b v : ℕ) → reg_result o (s.values a) (s.values b) ≡ v
        → Gives (Operate o d a (Register b) ∷ converted t d) s (fit t v)
    operator_gives o t a b v e =
        let i = Operate o d a (Register b) in
        let u = reg_result o (s.values a) (s.values b) in
        let s1 = effect c i s in
        let here : s1.values d ≡ v = put_same s.values d u ∙ e in
        let low = reg_fits o (s.values a) (s.values b) (w.values a) (w.values b) in
        let fits : s1.values d < 2 ^ 64 = subst (λ x. x < 2 ^ 64) (sym (put_same s.values d u)) low in
        then_gives i (converted t d) u (fit t v) s tt (one_set n d u _ s)
        (subst (λ x. Gives (converted t d) s1 (fit t x)) here (converted_gives t s1 fits))

    pub alone_gives : (o : RegOp) (a b v : ℕ) → reg_result o (s.values a) (s.values b) ≡ v
        → Gives (Operate o d a (Register b) ∷ []) s v
    alone_gives o a b v e = ((tt, tt), is_value n d _ v s _ e (one_set n d _ _ s))

    pub wrapping_gives : (o : RegOp) (o32 : RegOp32) (t : IntType) (a b v : ℕ)
        → reg_result o (s.values a) (s.values b) ≡ v
        → reg32_result o32 (low_word (s.values a)) (low_word (s.values b)) ≡ fit Int v
        → Gives (wrapping_code o o32 t d a b) s (fit t v)
    unfolding wrapping_code
    wrapping_gives o o32 t a b v wide word = by t
      where
        by : (t : IntType) → Gives (wrapping_code o o32 t d a b) s (fit t v)
        by Char = operator_gives o Char a b v wide
        by SignedChar = operator_gives o SignedChar a b v wide
        by UnsignedChar = operator_gives o UnsignedChar a b v wide
        by Short = operator_gives o Short a b v wide
        by UnsignedShort = operator_gives o UnsignedShort a b v wide
        by Int = ((tt, tt), is_value n d _ (fit Int v) s _ word (one_set n d _ _ s))
        by UnsignedInt = operator_gives o UnsignedInt a b v wide
        by Long = operator_gives o Long a b v wide
        by UnsignedLong = operator_gives o UnsignedLong a b v wide
        by LongLong = operator_gives o LongLong a b v wide
        by UnsignedLongLong = operator_gives o UnsignedLongLong a b v wide

    -- ---- comparisons

    -- 1 turned to 0 and 0 to 1, behind an operator
    pub turned_gives : (o : RegOp) (a b : ℕ) (x : Bool) → reg_result o (s.values a) (s.values b) ≡ one_if x
        → Gives (Operate o d a (Register b) ∷ turned d ∷ []) s (one_if (not x))
    turned_gives o a b x e =
        let i = Operate o d a (Register b) in
        let u = reg_result o (s.values a) (s.values b) in
        let s1 = effect c i s in
        let here : s1.values d ≡ one_if x = put_same s.values d u ∙ e in
        then_gives i (turned d ∷ []) u (one_if (not x)) s tt (one_set n d u _ s) (
          (tt, tt),
          is_value n d _ (one_if (not x)) s1 _ (ap (λ y. reg_result op.Xor y 1) here ∙ other_by x)
              (one_set n d _ _ s1),
        )

    equal_here : (a b : ℕ) → let s1 = effect c (Operate op.Sub d a (Register b)) s in
        reg_result op.Sltu (s1.values d) 1 ≡ one_if (s.values a == s.values b)
    equal_here a b =
        ap (λ y. reg_result op.Sltu y 1) (put_same s.values d (reg_result op.Sub (s.values a) (s.values b)))
        ∙ equal_by (s.values a) (s.values b) (w.values a) (w.values b)

    pub equal_gives : (a b : ℕ) → Gives (equal_code d a b) s (one_if (s.values a == s.values b))
    equal_gives a b =
        let s1 = effect c (Operate op.Sub d a (Register b)) s in
        then_gives (Operate op.Sub d a (Register b)) (Operate op.Sltu d d (Number 1) ∷ []) _ _ s tt (one_set n d _ _ s)
        ((tt, tt), is_value n d _ _ s1 _ (equal_here a b) (one_set n d _ _ s1))

    pub unequal_gives : (a b : ℕ)
        → Gives (equal_code d a b ++ turned d ∷ []) s (one_if (not (s.values a == s.values b)))
    unequal_gives a b =
        let same = s.values a == s.values b in
        let s1 = effect c (Operate op.Sub d a (Register b)) s in
        let s2 = effect c (Operate op.Sltu d d (Number 1)) s1 in
        let here : s2.values d ≡ one_if same = put_same s1.values d _ ∙ equal_here a b in
        then_gives (Operate op.Sub d a (Register b)) (Operate op.Sltu d d (Number 1) ∷ turned d ∷ []) _ _ s tt
        (one_set n d _ _ s)
        (then_gives (Operate op.Sltu d d (Number 1)) (turned d ∷ []) _ _ s1 tt (one_set n d _ _ s1) (
          (tt, tt),
          is_value n d _ (one_if (not same)) s2 _ (ap (λ y. reg_result op.Xor y 1) here ∙ other_by same)
              (one_set n d _ _ s2),
        ))

    -- ---- shifts

    pub shift_left_gives : (t : IntType) (a b : ℕ)
        → Gives (shift_left_code t d a b) s (fit t (shifted_left 64 (s.values a) (shift_amount t (s.values b))))
    unfolding shift_left_code
    shift_left_gives t a b = cases (size_of t == 8) refl
      where
        x : ℕ
        x = s.values a

        y : ℕ
        y = s.values b

        code : Bool → List FlatInstruction
        code whole =
            if whole then Operate op.Sll d a (Register b) ∷ []
            else Operate32 Sllw d a (Register b) ∷ conversion_code t d d

        cases : (whole : Bool) → (size_of t == 8) ≡ whole
            → Gives (code whole) s (fit t (shifted_left 64 x (shift_amount t y)))
        cases true e = ((tt, tt), is_value n d _ _ s _ (whole_shift t x y e) (one_set n d _ _ s))
        cases false e =
            let i = Operate32 Sllw d a (Register b) in
            let u = reg32_result Sllw (low_word x) (low_word y) in
            let s1 = effect c i s in
            let here : s1.values d ≡ u = put_same s.values d u in
            let fits : s1.values d < 2 ^ 64 = subst (λ z. z < 2 ^ 64) (sym here) (word_shift_fits x y) in
            then_gives i (conversion_code t d d) u _ s tt (one_set n d u _ s)
            (subst (Gives (conversion_code t d d) s1) (ap (fit t) here ∙ left_by_word t x y e)
            (conversion_gives t d s1 fits))

    pub shift_right_gives : (t : IntType) (a b : ℕ) → a < n
        → Gives (shift_right_code t d a b n) s (shift_right (is_signed t) (s.values a) (shift_amount t (s.values b)))
    unfolding shift_right_code
    shift_right_gives t a b below = cases (size_of t == 8) refl
      where
        x : ℕ
        x = s.values a

        y : ℕ
        y = s.values b

        o : RegOp
        o = if is_signed t then op.Sra else op.Srl

        code : Bool → List FlatInstruction
        code whole =
            if whole then Operate o d a (Register b) ∷ []
            else Operate op.And n b (Number 31) ∷ Operate o d a (Register n) ∷ []

        cases : (whole : Bool) → (size_of t == 8) ≡ whole
            → Gives (code whole) s (shift_right (is_signed t) x (shift_amount t y))
        cases true e =
            ((tt, tt), is_value n d _ _ s _ (right_by t x y y (sym (amount_of_whole t y e))) (one_set n d _ _ s))
        cases false e =
            let i = Operate op.And n b (Number 31) in
            let m = reg_result op.And y 31 in
            let s1 = effect c i s in
            let amount : s1.values n ≡ y % 32 = put_same s.values n m ∙ masked y in
            let value : s1.values a ≡ x = put_other s.values n m a (λ h. omega arith) in
            let by : s1.values n % 64 ≡ shift_amount t y = omega arith ∙ sym (amount_of_word t y e) in
            behind_gives i (Operate o d a (Register n) ∷ []) _ s tt (scratch_set n m _ s) (
              (tt, tt),
              is_value n d _ _ s1 _
                  (ap (λ z. reg_result o z (s1.values n)) value ∙ right_by t x y (s1.values n) by) (one_set n d _ _ s1),
            )

    -- ---- operators on one value

    -- a constant less a value, by the scratch register
    pub less_from : (t : IntType) (k a v : ℕ) → a < n → k < 2 ^ 64 → reg_result op.Sub k (s.values a) ≡ v
        → Gives (Constant n k ∷ Operate op.Sub d n (Register a) ∷ converted t d) s (fit t v)
    less_from t k a v below low e =
        let s1 = effect c (Constant n k) s in
        let is_k : s1.values n ≡ k = put_same s.values n (low_bits 64 k) ∙ omega arith in
        let value : s1.values a ≡ s.values a = put_other s.values n (low_bits 64 k) a (λ h. omega arith) in
        let u = reg_result op.Sub (s1.values n) (s1.values a) in
        let i = Operate op.Sub d n (Register a) in
        let s2 = effect c i s1 in
        let same : u ≡ v = ap (λ z. reg_result op.Sub z (s1.values a)) is_k ∙ ap (reg_result op.Sub k) value ∙ e in
        let here : s2.values d ≡ v = put_same s1.values d u ∙ same in
        let fits : v < 2 ^ 64 = subst (λ z. z < 2 ^ 64) e (reg_fits op.Sub k (s.values a) low (w.values a)) in
        behind_gives (Constant n k) (i ∷ converted t d) _ s tt (scratch_set n _ _ s)
        (then_gives i (converted t d) u _ s1 tt (one_set n d u _ s1)
        (subst (λ z. Gives (converted t d) s2 (fit t z)) here
        (converted_gives t s2 (subst (λ z. z < 2 ^ 64) (sym here) fits))))

    pub unary_gives : (o : UnaryOperator) (t : IntType) (x : ℕ) → x < n
        → Gives (unary_code o t d x n) s (unary_value o t (s.values x))
    unfolding unary_code unary_value
    unary_gives Plus t x below = conversion_gives t x s (w.values x)
    unary_gives Negate t x below = less_from t 0 x _ below (omega arith) (negated_by (s.values x))
    unary_gives Complement t x below =
        less_from t (2 ^ 64 - 1) x _ below (omega arith) (complement_by (s.values x) (w.values x))
    unary_gives Not t x below = ((tt, tt), is_value n d _ _ s _ (zero_by (s.values x)) (one_set n d _ _ s))

-- ---- lengths

pub length_conversion : (t : IntType) (d x : ℕ) → length (conversion_code t d x) ≤ 2
unfolding conversion_code
length_conversion t d x = by t
  where
    by : (t : IntType) → length (conversion_code t d x) ≤ 2
    by Char = omega arith
    by SignedChar = omega arith
    by UnsignedChar = omega arith
    by Short = omega arith
    by UnsignedShort = omega arith
    by Int = omega arith
    by UnsignedInt = omega arith
    by Long = omega arith
    by UnsignedLong = omega arith
    by LongLong = omega arith
    by UnsignedLongLong = omega arith

pub length_if : (b : Bool) (xs ys : List FlatInstruction) (k : ℕ) → length xs ≤ k → length ys ≤ k
    → length (if b then xs else ys) ≤ k
length_if true xs ys k p q = p
length_if false xs ys k p q = q

pub length_converted : (t : IntType) (d : ℕ) → length (converted t d) ≤ 2
length_converted t d = length_if (size_of t == 8) [] (conversion_code t d d) 2 (omega arith) (length_conversion t d d)

pub length_wrapping : (o : RegOp) (o32 : RegOp32) (t : IntType) (d a b : ℕ) → length (wrapping_code o o32 t d a b) ≤ 3
unfolding wrapping_code
length_wrapping o o32 t d a b = by t
  where
    rest : (t : IntType) → length (Operate o d a (Register b) ∷ converted t d) ≤ 3
    rest t = omega (arith, length_converted t d)

    by : (t : IntType) → length (wrapping_code o o32 t d a b) ≤ 3
    by Char = rest Char
    by SignedChar = rest SignedChar
    by UnsignedChar = rest UnsignedChar
    by Short = rest Short
    by UnsignedShort = rest UnsignedShort
    by Int = omega arith
    by UnsignedInt = rest UnsignedInt
    by Long = rest Long
    by UnsignedLong = rest UnsignedLong
    by LongLong = rest LongLong
    by UnsignedLongLong = rest UnsignedLongLong

pub length_unary : (o : UnaryOperator) (t : IntType) (d x n : ℕ) → length (unary_code o t d x n) ≤ 4
unfolding unary_code
length_unary Plus t d x n = omega (arith, length_conversion t d x)
length_unary Negate t d x n = omega (arith, length_converted t d)
length_unary Complement t d x n = omega (arith, length_converted t d)
length_unary Not t d x n = omega arith

pub length_left : (t : IntType) (d a b : ℕ) → length (shift_left_code t d a b) ≤ 3
unfolding shift_left_code
length_left t d a b =
    length_if (size_of t == 8) (Operate op.Sll d a (Register b) ∷ [])
    (Operate32 Sllw d a (Register b) ∷ conversion_code t d d) 3 (omega arith) (omega (arith, length_conversion t d d))

pub length_right : (t : IntType) (d a b n : ℕ) → length (shift_right_code t d a b n) ≤ 2
unfolding shift_right_code
length_right t d a b n =
    length_if (size_of t == 8) (Operate (if is_signed t then op.Sra else op.Srl) d a (Register b) ∷ [])
    (Operate op.And n b (Number 31) ∷ Operate (if is_signed t then op.Sra else op.Srl) d a (Register n) ∷ []) 2
    (omega arith) (omega arith)

pub length_constant : (d w : ℕ) → length (constant_code d w) ≤ 5
unfolding constant_code
length_constant d w =
    length_if (is_short w) (Constant d w ∷ []) (long_code d w) 5 (omega arith)
    (length_if (nat_lt w (2 ^ 33)) (medium_code d w) (wide_code d w) 5 (omega arith) (omega arith))

-- of at most 33 bits
pub few_constant : (d w : ℕ) → w < 2 ^ 33 → length (constant_code d w) ≤ 3
unfolding constant_code
few_constant d w low =
    length_if (is_short w) (Constant d w ∷ []) (long_code d w) 3 (omega arith)
    (by (nat_lt w (2 ^ 33)) (lt-ltb w (2 ^ 33) low))
  where
    by : (b : Bool) → b ≡ true → length (if b then medium_code d w else wide_code d w) ≤ 3
    by true e = omega arith
    by false e = cc
