-- How many words the code of an operator has at most.
use Rattle.std.proofs.Common.{◌≡◌, ℕ, ◌+◌, ◌-◌, ◌/◌, ◌%◌, ◌^◌, ◌<◌, ◌≤◌, ◌==◌, Bool, true, false, List, [], ◌∷◌}
use Rattle.std.proofs.Common.{◌++◌, refl, arith}
use Rattle.std.specs.Prelude.{◌||◌, nat_lt, nat_le, if◌then◌else◌}
use Rattle.std.proofs.lemmas.Bool.{ltb-true, leb-true}
use Rattle.rv_isa.specs.declared.instruction.RegOp.{RegOp}
use Rattle.rv_isa.specs.declared.instruction.RegOp.TheVariants as op
use Rattle.rv_isa.specs.declared.instruction.RegOp32.{RegOp32}
use Rattle.rv_isa.specs.declared.instruction.RegOp32.TheVariants.{Addw, Subw, Mulw}
use Rattle.obj_memory.specs.declared.int_type.IntType.{IntType}
use Rattle.obj_memory.specs.declared.int_type.IntType.TheVariants.{Char, SignedChar, UnsignedChar, Short}
use Rattle.obj_memory.specs.declared.int_type.IntType.TheVariants.{UnsignedShort, Int, UnsignedInt, Long}
use Rattle.obj_memory.specs.declared.int_type.IntType.TheVariants.{UnsignedLong, LongLong, UnsignedLongLong}
use Rattle.obj_memory.specs.declared.operator.UnaryOperator.{UnaryOperator}
use Rattle.obj_memory.specs.declared.operator.UnaryOperator.TheVariants.{Plus, Negate, Complement, Not}
use Rattle.obj_memory.specs.declared.operator.BinaryOperator.{BinaryOperator}
use Rattle.obj_memory.specs.declared.operator.BinaryOperator.TheVariants.{Add, Subtract, Multiply, Divide, Remainder}
use Rattle.obj_memory.specs.declared.operator.BinaryOperator.TheVariants.{ShiftLeft, ShiftRight, BitAnd, BitXor}
use Rattle.obj_memory.specs.declared.operator.BinaryOperator.TheVariants.{BitOr, Less, Greater, LessOrEqual}
use Rattle.obj_memory.specs.declared.operator.BinaryOperator.TheVariants.{GreaterOrEqual, Equal, NotEqual}
use Rattle.obj_memory.specs.Integers.{is_signed, size_of}
use Rattle.flat_code.specs.declared.instruction.RightOperand.TheVariants.{Register}
use Rattle.flat_code.specs.declared.instruction.FlatInstruction.{FlatInstruction}
use Rattle.flat_code.specs.declared.instruction.FlatInstruction.TheVariants.{Constant, Operate}
use Rattle.flat_code.specs.declared.function.FlatFunction.{FlatFunction}
use Rattle.flat_code.specs.declared.function.FlatProgram.{FlatProgram}
use Rattle.flat_operators.specs.Operators.{appended, wide_code, medium_code, long_code, constant_code, two_shifts}
use Rattle.flat_operators.specs.Operators.{conversion_code}
use Rattle.flat_operators.specs.Operators.{converted, wrapping_code, shift_left_code, shift_right_code, divided_code}
use Rattle.flat_operators.specs.Operators.{turned, equal_code, unary_code, binary_code}
use Rattle.image_laws.proofs.Sizes.Numbers.{few_constant, low_constant}
use Rattle.image_laws.proofs.Sizes.Propagated.{instruction_most, body_most, operate_most, operate32_most}

-- an operator and a conversion of its result at most: three words for the home of each of its operands, fifteen for
-- those of its result, and seven instructions
abbrev pub operator_most : ℕ
operator_most = 28

module _ (p : FlatProgram) (g : FlatFunction) where
  pub words_append : (xs ys : List FlatInstruction) → body_most p g (xs ++ ys) ≡ body_most p g xs + body_most p g ys
  words_append [] ys = omega arith
  words_append (x ∷ xs) ys = let r = words_append xs ys in omega (arith, r)

  choice_words : (b : Bool) (xs ys : List FlatInstruction) (n : ℕ) → body_most p g xs ≤ n → body_most p g ys ≤ n
      → body_most p g (if b then xs else ys) ≤ n
  choice_words true xs ys n x y = x
  choice_words false xs ys n x y = y

  -- ---- constants

  appended_words : (k d n : ℕ) → k < 64 → n < 2 ^ 20 → body_most p g (appended k d n) ≤ 18
  appended_words k d n shift lt =
      let a = operate_most p g op.Sll d d k (omega (arith, shift)) in
      let b = operate_most p g op.Add d d n (omega (arith, lt)) in
      omega (arith, a, b)

  wide_words : (d w : ℕ) → w < 2 ^ 64 → body_most p g (wide_code d w) ≤ 41
  wide_words d w lt =
      let first = few_constant (w / 2 ^ 40) (omega (arith, lt)) in
      let a = appended_words 20 d (w / 2 ^ 20 % 2 ^ 20) (omega arith) (omega arith) in
      let b = appended_words 20 d (w % 2 ^ 20) (omega arith) (omega arith) in
      let both = words_append (appended 20 d (w / 2 ^ 20 % 2 ^ 20)) (appended 20 d (w % 2 ^ 20)) in
      omega (arith, first, a, b, both)

  medium_words : (d w : ℕ) → w < 2 ^ 33 → body_most p g (medium_code d w) ≤ 23
  medium_words d w lt =
      let first = few_constant (w / 8) (omega (arith, lt)) in
      let rest = appended_words 3 d (w % 8) (omega arith) (omega arith) in
      omega (arith, first, rest)

  long_words : (d w : ℕ) → w < 2 ^ 64 → body_most p g (long_code d w) ≤ 41
  long_words d w lt = by (nat_lt w (2 ^ 33)) refl
    where
      by : (b : Bool) → nat_lt w (2 ^ 33) ≡ b → body_most p g (if b then medium_code d w else wide_code d w) ≤ 41
      by true e = let h = medium_words d w (ltb-true w (2 ^ 33) e) in omega (arith, h)
      by false e = wide_words d w lt

  pub constant_code_words : (d w : ℕ) → w < 2 ^ 64 → body_most p g (constant_code d w) ≤ 41
  unfolding constant_code
  constant_code_words d w lt = by (nat_lt w (2 ^ 31 - 2 ^ 11)) (nat_le (2 ^ 64 - 2 ^ 31) w) refl refl
    where
      by : (a b : Bool) → nat_lt w (2 ^ 31 - 2 ^ 11) ≡ a → nat_le (2 ^ 64 - 2 ^ 31) w ≡ b
          → body_most p g (if a || b then Constant d w ∷ [] else long_code d w) ≤ 41
      by true b e f = let h = few_constant w (ltb-true w (2 ^ 31 - 2 ^ 11) e) in omega (arith, h)
      by false true e f =
          let h = low_constant w (leb-true (2 ^ 64 - 2 ^ 31) w f) lt in omega (arith, h)
      by false false e f = long_words d w lt

  -- ---- conversions

  shifts_words : (back : RegOp) (n d x : ℕ) → n < 64
      → body_most p g (two_shifts back n d x) ≤ 18
  shifts_words back n d x lt =
      let a = operate_most p g op.Sll d x n (omega (arith, lt)) in
      let b = operate_most p g back d d n (omega (arith, lt)) in
      omega (arith, a, b)

  pub conversion_words : (t : IntType) (d x : ℕ)
      → body_most p g (conversion_code t d x) ≤ 18
  unfolding conversion_code
  conversion_words Char d x = shifts_words op.Srl 56 d x (omega arith)
  conversion_words SignedChar d x = shifts_words op.Sra 56 d x (omega arith)
  conversion_words UnsignedChar d x = shifts_words op.Srl 56 d x (omega arith)
  conversion_words Short d x = shifts_words op.Sra 48 d x (omega arith)
  conversion_words UnsignedShort d x = shifts_words op.Srl 48 d x (omega arith)
  conversion_words Int d x = let h = operate32_most p g Addw d x 0 (omega arith) in omega (arith, h)
  conversion_words UnsignedInt d x = shifts_words op.Srl 32 d x (omega arith)
  conversion_words Long d x = omega arith
  conversion_words UnsignedLong d x = omega arith
  conversion_words LongLong d x = omega arith
  conversion_words UnsignedLongLong d x = omega arith

  converted_words : (t : IntType) (d : ℕ) → body_most p g (converted t d) ≤ 18
  converted_words t d =
      let h = conversion_words t d d in
      choice_words (size_of t == 8) [] (conversion_code t d d) (18) (omega arith) (omega (arith, h))

  -- ---- operators

  wrapped_words : (q : RegOp) (t : IntType) (d a b : ℕ)
      → body_most p g (Operate q d a (Register b) ∷ converted t d) ≤ operator_most
  wrapped_words q t d a b = let h = converted_words t d in omega (arith, h)

  wrapping_words : (q : RegOp) (q32 : RegOp32) (t : IntType) (d a b : ℕ)
      → body_most p g (wrapping_code q q32 t d a b) ≤ operator_most
  unfolding wrapping_code
  wrapping_words q q32 Char d a b = wrapped_words q Char d a b
  wrapping_words q q32 SignedChar d a b = wrapped_words q SignedChar d a b
  wrapping_words q q32 UnsignedChar d a b = wrapped_words q UnsignedChar d a b
  wrapping_words q q32 Short d a b = wrapped_words q Short d a b
  wrapping_words q q32 UnsignedShort d a b = wrapped_words q UnsignedShort d a b
  wrapping_words q q32 Int d a b = omega arith
  wrapping_words q q32 UnsignedInt d a b = wrapped_words q UnsignedInt d a b
  wrapping_words q q32 Long d a b = wrapped_words q Long d a b
  wrapping_words q q32 UnsignedLong d a b = wrapped_words q UnsignedLong d a b
  wrapping_words q q32 LongLong d a b = wrapped_words q LongLong d a b
  wrapping_words q q32 UnsignedLongLong d a b = wrapped_words q UnsignedLongLong d a b

  left_words : (t : IntType) (d a b : ℕ) → body_most p g (shift_left_code t d a b) ≤ operator_most
  unfolding shift_left_code
  left_words t d a b =
      let h = conversion_words t d d in
      choice_words (size_of t == 8) _ _ operator_most (omega arith) (omega (arith, h))

  right_words : (t : IntType) (d a b n : ℕ) → body_most p g (shift_right_code t d a b n) ≤ 19
  unfolding shift_right_code
  right_words t d a b n =
      let h = operate_most p g op.And n b 31 (omega arith) in
      choice_words (size_of t == 8) _ _ 19 (omega arith) (omega (arith, h))

  divided_words : (q : RegOp) (t : IntType) (line d a b : ℕ) → body_most p g (divided_code q t line d a b) ≤ 41
  divided_words q t line d a b = let h = converted_words t d in omega (arith, h)

  equal_words : (d a b : ℕ)
      → body_most p g (equal_code d a b) ≤ 19
  equal_words d a b = let h = operate_most p g op.Sltu d d 1 (omega arith) in omega (arith, h)

  turned_words : (d : ℕ) → instruction_most p g (turned d) ≤ 9
  turned_words d = let h = operate_most p g op.Xor d d 1 (omega arith) in omega (arith, h)

  pub unary_words : (u : UnaryOperator) (t : IntType) (d x n : ℕ)
      → body_most p g (unary_code u t d x n) ≤ 33
  unfolding unary_code
  unary_words Plus t d x n = let h = conversion_words t d x in omega (arith, h)
  unary_words Negate t d x n =
      let z = few_constant 0 (omega arith) in let h = converted_words t d in omega (arith, z, h)
  unary_words Complement t d x n =
      let z = low_constant (2 ^ 64 - 1) (omega arith) (omega arith) in
      let h = converted_words t d in omega (arith, z, h)
  unary_words Not t d x n = let h = operate_most p g op.Sltu d x 1 (omega arith) in omega (arith, h)

  -- a division looks at its right operand twice, and may compare it with the value of which it is a copy
  pub binary_words : (q : BinaryOperator) (t : IntType) (line d a b n : ℕ)
      → body_most p g (binary_code q t line d a b n) ≤ 42
  unfolding binary_code
  binary_words Add t line d a b n = let h = wrapping_words op.Add Addw t d a b in omega (arith, h)
  binary_words Subtract t line d a b n = let h = wrapping_words op.Sub Subw t d a b in omega (arith, h)
  binary_words Multiply t line d a b n = let h = wrapping_words op.Mul Mulw t d a b in omega (arith, h)
  binary_words Divide t line d a b n =
      let h = divided_words (if is_signed t then op.Div else op.Divu) t line d a b in
      omega (arith, h)
  binary_words Remainder t line d a b n =
      let h = divided_words (if is_signed t then op.Rem else op.Remu) t line d a b in
      omega (arith, h)
  binary_words ShiftLeft t line d a b n = let h = left_words t d a b in omega (arith, h)
  binary_words ShiftRight t line d a b n = let h = right_words t d a b n in omega (arith, h)
  binary_words BitAnd t line d a b n = omega arith
  binary_words BitXor t line d a b n = omega arith
  binary_words BitOr t line d a b n = omega arith
  binary_words Less t line d a b n = omega arith
  binary_words Greater t line d a b n = omega arith
  binary_words LessOrEqual t line d a b n = let h = turned_words d in omega (arith, h)
  binary_words GreaterOrEqual t line d a b n = let h = turned_words d in omega (arith, h)
  binary_words Equal t line d a b n = let h = equal_words d a b in omega (arith, h)
  binary_words NotEqual t line d a b n =
      let e = equal_words d a b in
      let h = turned_words d in
      let a2 = words_append (equal_code d a b) (turned d ∷ []) in
      omega (arith, e, h, a2)
