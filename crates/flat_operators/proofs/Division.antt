-- A division ends the run where the divisor is zero, and all other operators give a value.
use Rattle.std.proofs.Common.{◌≡◌, ℕ, ◌+◌, ◌^◌, ◌<◌, ◌≤◌, true, false, ◌==◌, if◌then◌else◌, List, ◌∷◌}
use Rattle.std.proofs.Common.{length, Option, Some, None, refl, sym, subst, arith}
use Rattle.std.proofs.lemmas.Bool.{not-true, not-false, cond-true, cond-false}
use Rattle.sb_base.specs.declared.ending.Ending.{Ending}
use Rattle.sb_base.specs.declared.ending.Ending.TheVariants as ending
use Rattle.sb_base.specs.Endings.{code_of, report_of}
use Rattle.rv_isa.specs.declared.instruction.BranchOp.TheVariants.{Bne}
use Rattle.rv_isa.specs.declared.instruction.RegOp.{RegOp}
use Rattle.rv_isa.specs.declared.instruction.RegOp.TheVariants as op
use Rattle.rv_isa.specs.declared.instruction.RegOp32.TheVariants.{Addw, Subw, Mulw}
use Rattle.rv_isa.specs.Results.{branch_taken, reg_result}
use Rattle.obj_memory.specs.declared.int_type.IntType.{IntType}
use Rattle.obj_memory.specs.declared.operator.UnaryOperator.{UnaryOperator}
use Rattle.obj_memory.specs.declared.operator.BinaryOperator.{BinaryOperator}
use Rattle.obj_memory.specs.declared.operator.BinaryOperator.TheVariants.{Add, Subtract, Multiply, Divide, Remainder}
use Rattle.obj_memory.specs.declared.operator.BinaryOperator.TheVariants.{ShiftLeft, ShiftRight, BitAnd, BitXor}
use Rattle.obj_memory.specs.declared.operator.BinaryOperator.TheVariants.{BitOr, Less, Greater, LessOrEqual}
use Rattle.obj_memory.specs.declared.operator.BinaryOperator.TheVariants.{GreaterOrEqual, Equal, NotEqual}
use Rattle.obj_memory.specs.Integers.{fit, is_signed}
use Rattle.obj_memory.specs.Operators.{quotient, remainder, unary_value, binary_value}
use Rattle.flat_code.specs.declared.instruction.RightOperand.TheVariants.{Register, Number}
use Rattle.flat_code.specs.declared.instruction.FlatInstruction.{FlatInstruction}
use Rattle.flat_code.specs.declared.instruction.FlatInstruction.TheVariants.{Operate, End}
use Rattle.flat_code.specs.State.{State}
use Rattle.flat_code.specs.Words.{IsOfWords}
use Rattle.flat_code.specs.Meaning.{Context, Goes}
use Rattle.flat_code.specs.Routines.Local.{counted}
use Rattle.flat_code.specs.Routines.Routine.{HasAt, Does, Outcome, Continues, Halts, Reaches}
use Rattle.flat_code.specs.Routines.Effects.{worked, effects}
use Rattle.flat_code.proofs.Routines.Rules.{branch, line_on, arrived, ended, weaken}
use Rattle.flat_operators.specs.Operators.{constant_code, conversion_code, converted, divided_code}
use Rattle.flat_operators.specs.Operators.{unary_code, binary_code}
use Rattle.flat_operators.specs.Results.{IsUnchanged, Anywhere, IsResult}
use Rattle.flat_operators.proofs.Sets.{does_straight, set_behind}
use Rattle.flat_operators.proofs.Values.{int_sum, int_difference, int_product, quotient_by, remainder_by, less_by}
use Rattle.flat_operators.proofs.Values.{sum_by, difference_by, product_by, and_by, or_by, xor_by}
use Rattle.flat_operators.proofs.Operators.{Gives, conversion_gives, operator_gives, alone_gives, wrapping_gives}
use Rattle.flat_operators.proofs.Operators.{turned_gives, equal_gives, unequal_gives, shift_left_gives}
use Rattle.flat_operators.proofs.Operators.{shift_right_gives, unary_gives, length_converted, length_conversion}
use Rattle.flat_operators.proofs.Operators.{length_wrapping, length_unary, constant_gives, length_constant}
use Rattle.flat_operators.proofs.Operators.{few_constant, length_left, length_right}

-- a list that gives a value everywhere
module _ (c : Context) (line d n : ℕ) where
  does_give : (is : List FlatInstruction) (b : ℕ) (f : State → ℕ) → length is ≤ b
      → ((s : State) → IsOfWords s → Gives c d n is s (f s))
      → Does c is Anywhere (λ s. b) (λ s. IsResult (Some (f s)) line d n s)
  does_give is b f le g =
      does_straight c is b (λ s. IsResult (Some (f s)) line d n s) le
      (λ s w. let r = g s w in (r.0, record { by = r.1 }))

  pub does_convert : (t : IntType) (x : ℕ)
      → Does c (conversion_code t d x) Anywhere (λ s. 2) (λ s. IsResult (Some (fit t (s.values x))) line d n s)
  does_convert t x =
      does_give (conversion_code t d x) 2 (λ s. fit t (s.values x)) (length_conversion t d x)
      (λ s w. conversion_gives c d n t x s (w.values x))

  pub does_unary : (o : UnaryOperator) (t : IntType) (x : ℕ) → x < n
      → Does c (unary_code o t d x n) Anywhere (λ s. 4)
      (λ s. IsResult (Some (unary_value o t (s.values x))) line d n s)
  does_unary o t x below =
      does_give (unary_code o t d x n) 4 (λ s. unary_value o t (s.values x)) (length_unary o t d x n)
      (λ s w. unary_gives c d n s w o t x below)

  pub does_constant : (word : ℕ) → word < 2 ^ 64
      → Does c (constant_code d word) Anywhere (λ s. 5) (λ s. IsResult (Some word) line d n s)
  does_constant word low =
      does_give (constant_code d word) 5 (λ s. word) (length_constant d word)
      (λ s w. constant_gives c d n s word low)

  -- of at most 33 bits
  pub does_few : (word : ℕ) → word < 2 ^ 33
      → Does c (constant_code d word) Anywhere (λ s. 3) (λ s. IsResult (Some word) line d n s)
  does_few word low =
      does_give (constant_code d word) 3 (λ s. word) (few_constant d word low)
      (λ s w. constant_gives c d n s word (omega (arith, low)))

  -- ---- division

  module _ (o : RegOp) (t : IntType) (f : ℕ → ℕ → ℕ) (a b : ℕ)
      (by_f : (x y : ℕ) → (y == 0) ≡ false → reg_result o x y ≡ f x y) where
    abbrev answer : State → Option ℕ
    answer s = if s.values b == 0 then None else Some (fit t (f (s.values a) (s.values b)))

    unchanged : (k : ℕ) (s : State) → IsUnchanged n s (record s { work = k })
    unchanged k s = record {
      registers = λ x low. refl;
      memory = refl;
      shows = record { input = refl; output = refl; taken = refl; accesses = refl; turns = refl };
    }

    divides : (code : List FlatInstruction) (pc : ℕ) (s : State) → HasAt code pc (divided_code o t line d a b)
        → IsOfWords s
        → Reaches c code 4 (Goes pc s) (pc + length (divided_code o t line d a b)) (IsResult (answer s) line d n s)
    unfolding branch_taken
    divides code pc s has w =
        branch c code 3 pc s Bne b (Number 0) 1 _ R has.0
        (λ e. on (not-true _ e))
        (λ e. off (not-false _ e))
      where
        is : List FlatInstruction
        is = Operate o d a (Register b) ∷ converted t d

        s1 : State
        s1 = worked c s

        w1 : IsOfWords s1
        w1 = record { values = w.values; memory = w.memory }

        end : ℕ
        end = pc + length (divided_code o t line d a b)

        v : ℕ
        v = f (s.values a) (s.values b)

        zero_divisor : Ending
        zero_divisor = ending.Divide line

        R : Outcome → Type 0
        R = IsResult (answer s) line d n s

        on : (s.values b == 0) ≡ false → Reaches c code 3 (Goes (pc + 1 + 1) s1) end R
        on e =
            let g = operator_gives c d n s1 w1 o t a b v (by_f (s.values a) (s.values b) e) in
            let s2 = effects c is s1 in
            let h = set_behind n d (fit t v) s s1 s2 (unchanged s1.work s) g.1 in
            let same : Some (fit t v) ≡ answer s = sym (cond-false (s.values b == 0) None (Some (fit t v)) e) in
            let l : length is ≤ 3 = omega (arith, length_converted t d) in
            let last : pc + 1 + 1 + length is ≡ end = omega arith in
            weaken c code (length is + 0) 3 (Goes (pc + 1 + 1) s1) end R R (omega arith) (λ x r. r)
            (line_on c code is 0 (pc + 1 + 1) s1 end R g.0 has.1.1
            (arrived c code 0 s2 (pc + 1 + 1 + length is) end R last
            (subst (λ v. IsResult v line d n s (Continues s2)) same (record { by = h }))))

        off : (s.values b == 0) ≡ true → Reaches c code 3 (Goes (pc + 1) s1) end R
        off e =
            let same : None ≡ answer s = sym (cond-true (s.values b == 0) None (Some (fit t v)) e) in
            let s2 : State = counted c (End zero_divisor) s1 in
            ended c code 2 zero_divisor s1 (pc + 1) end R has.1.0
            (subst (λ v. IsResult v line d n s (Halts (code_of zero_divisor) (report_of zero_divisor) s2)) same
            (record { by = (refl, refl, unchanged s2.work s) }))

    pub does_divide : Does c (divided_code o t line d a b) Anywhere (λ s. 4) (λ s. IsResult (answer s) line d n s)
    does_divide = record { from = λ code pc s has w p. divides code pc s has w }

  -- ---- all operators on two values

  module _ (a b : ℕ) (below : a < n) where
    one : (is : List FlatInstruction) (f : State → ℕ) → length is ≤ 4
        → ((s : State) → IsOfWords s → Gives c d n is s (f s))
        → Does c is Anywhere (λ s. 4) (λ s. IsResult (Some (f s)) line d n s)
    one is f le g = does_give is 4 f le g

    pub does_binary : (o : BinaryOperator) (t : IntType)
        → Does c (binary_code o t line d a b n) Anywhere (λ s. 4)
        (λ s. IsResult (binary_value o t (s.values a) (s.values b)) line d n s)
    unfolding binary_code binary_value
    does_binary Add t =
        one _ _ (omega (arith, length_wrapping op.Add Addw t d a b))
        (λ s w. wrapping_gives c d n s w op.Add Addw t a b _ (sum_by _ _) (int_sum _ _))
    does_binary Subtract t =
        one _ _ (omega (arith, length_wrapping op.Sub Subw t d a b))
        (λ s w. wrapping_gives c d n s w op.Sub Subw t a b _ (difference_by _ _) (int_difference _ _ (w.values b)))
    does_binary Multiply t =
        one _ _ (omega (arith, length_wrapping op.Mul Mulw t d a b))
        (λ s w. wrapping_gives c d n s w op.Mul Mulw t a b _ (product_by _ _) (int_product _ _))
    does_binary Divide t = does_divide _ t (quotient (is_signed t)) a b (quotient_by (is_signed t))
    does_binary Remainder t = does_divide _ t (remainder (is_signed t)) a b (remainder_by (is_signed t))
    does_binary ShiftLeft t =
        one _ _ (omega (arith, length_left t d a b)) (λ s w. shift_left_gives c d n s w t a b)
    does_binary ShiftRight t =
        one _ _ (omega (arith, length_right t d a b n)) (λ s w. shift_right_gives c d n s w t a b below)
    does_binary BitAnd t = one _ _ (omega arith) (λ s w. alone_gives c d n s w op.And a b _ (and_by _ _))
    does_binary BitXor t = one _ _ (omega arith) (λ s w. alone_gives c d n s w op.Xor a b _ (xor_by _ _))
    does_binary BitOr t = one _ _ (omega arith) (λ s w. alone_gives c d n s w op.Or a b _ (or_by _ _))
    does_binary Less t = one _ _ (omega arith) (λ s w. alone_gives c d n s w _ a b _ (less_by t _ _))
    does_binary Greater t = one _ _ (omega arith) (λ s w. alone_gives c d n s w _ b a _ (less_by t _ _))
    does_binary LessOrEqual t = one _ _ (omega arith) (λ s w. turned_gives c d n s w _ b a _ (less_by t _ _))
    does_binary GreaterOrEqual t = one _ _ (omega arith) (λ s w. turned_gives c d n s w _ a b _ (less_by t _ _))
    does_binary Equal t = one _ _ (omega arith) (λ s w. equal_gives c d n s w a b)
    does_binary NotEqual t = one _ _ (omega arith) (λ s w. unequal_gives c d n s w a b)
