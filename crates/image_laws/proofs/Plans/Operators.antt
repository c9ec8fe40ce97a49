-- The code of the operators on integers: what it reads and makes.
use Rattle.std.proofs.Common.{inl, inr, ℕ, ◌/◌, ◌%◌, ◌^◌, ◌≤◌, refl, Bool, true, false, List, [], ◌∷◌, ◌++◌}
use Rattle.std.specs.Prelude.{◌==◌, nat_lt, if◌then◌else◌}
use Rattle.rv_isa.specs.declared.instruction.RegOp.{RegOp}
use Rattle.rv_isa.specs.declared.instruction.RegOp.TheVariants as op
use Rattle.rv_isa.specs.declared.instruction.RegOp32.{RegOp32}
use Rattle.rv_isa.specs.declared.instruction.RegOp32.TheVariants.{Addw, Subw, Mulw}
use Rattle.obj_memory.specs.declared.int_type.IntType.{IntType}
use Rattle.obj_memory.specs.declared.int_type.IntType.TheVariants.{Char, SignedChar, UnsignedChar, Short}
use Rattle.obj_memory.specs.declared.int_type.IntType.TheVariants.{UnsignedShort, Int, UnsignedInt, Long}
use Rattle.obj_memory.specs.declared.int_type.IntType.TheVariants.{UnsignedLong, LongLong, UnsignedLongLong}
use Rattle.obj_memory.specs.declared.operator.UnaryOperator.{UnaryOperator}
use Rattle.obj_memory.specs.declared.operator.UnaryOperator.TheVariants.{Plus, Negate, Complement, Not}
use Rattle.obj_memory.specs.declared.operator.BinaryOperator.{BinaryOperator}
use Rattle.obj_memory.specs.declared.operator.BinaryOperator.TheVariants.{Add, Subtract, Multiply, Divide, Remainder}
use Rattle.obj_memory.specs.declared.operator.BinaryOperator.TheVariants.{ShiftLeft, ShiftRight, BitAnd, BitXor}
use Rattle.obj_memory.specs.declared.operator.BinaryOperator.TheVariants.{BitOr, Less, Greater, LessOrEqual}
use Rattle.obj_memory.specs.declared.operator.BinaryOperator.TheVariants.{GreaterOrEqual, Equal, NotEqual}
use Rattle.obj_memory.specs.Integers.{is_signed, size_of}
use Rattle.flat_code.specs.declared.instruction.RightOperand.TheVariants.{Register, Number}
use Rattle.flat_code.specs.declared.instruction.FlatInstruction.{FlatInstruction}
use Rattle.flat_code.specs.declared.instruction.FlatInstruction.TheVariants.{Operate}
use Rattle.flat_code.specs.declared.function.FlatProgram.{FlatProgram}
use Rattle.flat_code.specs.Calls.{function_in}
use Rattle.flat_code.specs.Meaning.{results_of}
use Rattle.flat_operators.specs.Operators.{is_short, appended, wide_code, medium_code, long_code, constant_code}
use Rattle.flat_operators.specs.Operators.{two_shifts}
use Rattle.flat_operators.specs.Operators.{conversion_code, converted, wrapping_code, shift_left_code}
use Rattle.flat_operators.specs.Operators.{shift_right_code, divided_code, unary_code, binary_code, less_op}
use Rattle.image_laws.proofs.Plans.Flow.{Registers, With, Flow, Makes, one_has}

module _ (p : FlatProgram) (f : ℕ) (gives : results_of (function_in p f) ≤ 1) (P : Registers) where
  -- code that reads none but some registers, and makes one
  pub record Gives (R : Registers) (is : List FlatInstruction) (d : ℕ) : Type 0 where
    pub flow : Flow p f gives ⊥ P R is
    pub made : Makes p f gives is d

  either : (R : Registers) (d : ℕ) (b : Bool) (is js : List FlatInstruction) → Gives R is d → Gives R js d
      → Gives R (if b then is else js) d
  either R d true is js g h = g
  either R d false is js g h = h

  appended_flow : (R : Registers) (k d n : ℕ) (rest : List FlatInstruction) → R d → P d
      → Flow p f gives ⊥ P (With (With R d) d) rest → Flow p f gives ⊥ P R (appended k d n ++ rest)
  appended_flow R k d n rest r t h = ((r, tt), t, tt, ((inr refl, tt), t, tt, h))

  wide_flow : (R : Registers) (d w : ℕ) → P d → Flow p f gives ⊥ P R (wide_code d w)
  wide_flow R d w t =
      let again = appended_flow (With (With (With R d) d) d) 20 d (w % 2 ^ 20) [] (inr refl) t tt in
      (tt, t, tt, appended_flow (With R d) 20 d (w / 2 ^ 20 % 2 ^ 20) (appended 20 d (w % 2 ^ 20)) (inr refl) t again)

  medium_flow : (R : Registers) (d w : ℕ) → P d → Flow p f gives ⊥ P R (medium_code d w)
  medium_flow R d w t = (tt, t, tt, appended_flow (With R d) 3 d (w % 8) [] (inr refl) t tt)

  pub constant_gives : (R : Registers) (d w : ℕ) → P d → Gives R (constant_code d w) d
  unfolding constant_code
  constant_gives R d w t =
      either R d (is_short w) _ (long_code d w)
      (record { flow = (tt, t, tt, tt); made = inl (one_has d) })
      (either R d (nat_lt w (2 ^ 33)) (medium_code d w) (wide_code d w)
      (record { flow = medium_flow R d w t; made = inl (one_has d) })
      (record { flow = wide_flow R d w t; made = inl (one_has d) }))

  shifted : (R : Registers) (back : RegOp) (n d x : ℕ) → R x → P d → Gives R (two_shifts back n d x) d
  shifted R back n d x r t = record {
    flow = ((r, tt), t, tt, ((inr refl, tt), t, tt, tt));
    made = inl (one_has d);
  }

  pub conversion_gives : (R : Registers) (t : IntType) (d x : ℕ) → R x → P d → Gives R (conversion_code t d x) d
  unfolding conversion_code
  conversion_gives R Char d x r t = shifted R op.Srl 56 d x r t
  conversion_gives R SignedChar d x r t = shifted R op.Sra 56 d x r t
  conversion_gives R UnsignedChar d x r t = shifted R op.Srl 56 d x r t
  conversion_gives R Short d x r t = shifted R op.Sra 48 d x r t
  conversion_gives R UnsignedShort d x r t = shifted R op.Srl 48 d x r t
  conversion_gives R Int d x r t = record { flow = ((r, tt), t, tt, tt); made = inl (one_has d) }
  conversion_gives R UnsignedInt d x r t = shifted R op.Srl 32 d x r t
  conversion_gives R Long d x r t = record { flow = (r, t, tt, tt); made = inl (one_has d) }
  conversion_gives R UnsignedLong d x r t = record { flow = (r, t, tt, tt); made = inl (one_has d) }
  conversion_gives R LongLong d x r t = record { flow = (r, t, tt, tt); made = inl (one_has d) }
  conversion_gives R UnsignedLongLong d x r t = record { flow = (r, t, tt, tt); made = inl (one_has d) }

  converted_flow : (R : Registers) (t : IntType) (d : ℕ) → R d → P d → Flow p f gives ⊥ P R (converted t d)
  converted_flow R t d r low = by (size_of t == 8)
    where
      by : (b : Bool) → Flow p f gives ⊥ P R (if b then [] else conversion_code t d d)
      by true = tt
      by false = (conversion_gives R t d d r low).flow

  -- an operator of 64 bits, and a conversion of its result
  operated : (R : Registers) (o : RegOp) (t : IntType) (d a b : ℕ) → R a → R b → P d
      → Gives R (Operate o d a (Register b) ∷ converted t d) d
  operated R o t d a b ra rb low = record {
    flow = ((ra, rb), low, tt, converted_flow (With R d) t d (inr refl) low);
    made = inl (one_has d);
  }

  operated_alone : (R : Registers) (o : RegOp) (d a b : ℕ) → R a → R b → P d
      → Gives R (Operate o d a (Register b) ∷ []) d
  operated_alone R o d a b ra rb low = record { flow = ((ra, rb), low, tt, tt); made = inl (one_has d) }

  wrapping : (R : Registers) (o : RegOp) (o32 : RegOp32) (t : IntType) (d a b : ℕ) → R a → R b → P d
      → Gives R (wrapping_code o o32 t d a b) d
  unfolding wrapping_code
  wrapping R o o32 Int d a b ra rb low = record { flow = ((ra, rb), low, tt, tt); made = inl (one_has d) }
  wrapping R o o32 Char d a b ra rb low = operated R o Char d a b ra rb low
  wrapping R o o32 SignedChar d a b ra rb low = operated R o SignedChar d a b ra rb low
  wrapping R o o32 UnsignedChar d a b ra rb low = operated R o UnsignedChar d a b ra rb low
  wrapping R o o32 Short d a b ra rb low = operated R o Short d a b ra rb low
  wrapping R o o32 UnsignedShort d a b ra rb low = operated R o UnsignedShort d a b ra rb low
  wrapping R o o32 UnsignedInt d a b ra rb low = operated R o UnsignedInt d a b ra rb low
  wrapping R o o32 Long d a b ra rb low = operated R o Long d a b ra rb low
  wrapping R o o32 UnsignedLong d a b ra rb low = operated R o UnsignedLong d a b ra rb low
  wrapping R o o32 LongLong d a b ra rb low = operated R o LongLong d a b ra rb low
  wrapping R o o32 UnsignedLongLong d a b ra rb low = operated R o UnsignedLongLong d a b ra rb low

  shifted_left : (R : Registers) (t : IntType) (d a b : ℕ) → R a → R b → P d → Gives R (shift_left_code t d a b) d
  unfolding shift_left_code
  shifted_left R t d a b ra rb low =
      either R d (size_of t == 8) _ _ (operated_alone R op.Sll d a b ra rb low) (record {
        flow = ((ra, rb), low, tt, (conversion_gives (With R d) t d d (inr refl) low).flow);
        made = inl (one_has d);
      })

  shifted_right : (R : Registers) (t : IntType) (d a b n : ℕ) → R a → R b → P d → P n
      → Gives R (shift_right_code t d a b n) d
  unfolding shift_right_code
  shifted_right R t d a b n ra rb low free =
      either R d (size_of t == 8) _ _ (operated_alone R (if is_signed t then op.Sra else op.Srl) d a b ra rb low)
      (record {
        flow = ((rb, tt), free, tt, ((inl ra, inr refl), low, tt, tt));
        made = inr (inl (one_has d));
      })

  divided : (R : Registers) (o : RegOp) (t : IntType) (line d a b : ℕ) → R a → R b → P d
      → Gives R (divided_code o t line d a b) d
  divided R o t line d a b ra rb low =
      let g = operated R o t d a b ra rb low in
      record { flow = ((rb, tt), tt, (refl, tt), (tt, tt, tt, g.flow)); made = inr (inr g.made) }

  pub unary_gives : (R : Registers) (o : UnaryOperator) (t : IntType) (d x n : ℕ) → R x → P d → P n
      → Gives R (unary_code o t d x n) d
  unfolding unary_code
  unary_gives R Plus t d x n r low free = conversion_gives R t d x r low
  unary_gives R Negate t d x n r low free =
      let g = operated (With R n) op.Sub t d n x (inr refl) (inl r) low in
      record { flow = (tt, free, tt, g.flow); made = inr g.made }
  unary_gives R Complement t d x n r low free =
      let g = operated (With R n) op.Sub t d n x (inr refl) (inl r) low in
      record { flow = (tt, free, tt, g.flow); made = inr g.made }
  unary_gives R Not t d x n r low free = record { flow = ((r, tt), low, tt, tt); made = inl (one_has d) }

  -- and an operator with a number on its result
  operated_again : (R : Registers) (o o' : RegOp) (n d a b : ℕ) → R a → R b → P d
      → Gives R (Operate o d a (Register b) ∷ Operate o' d d (Number n) ∷ []) d
  operated_again R o o' n d a b ra rb low = record {
    flow = ((ra, rb), low, tt, ((inr refl, tt), low, tt, tt));
    made = inl (one_has d);
  }

  pub binary_gives : (R : Registers) (o : BinaryOperator) (t : IntType) (line d a b n : ℕ) → R a → R b → P d → P n
      → Gives R (binary_code o t line d a b n) d
  unfolding binary_code
  binary_gives R Add t line d a b n ra rb low free = wrapping R op.Add Addw t d a b ra rb low
  binary_gives R Subtract t line d a b n ra rb low free = wrapping R op.Sub Subw t d a b ra rb low
  binary_gives R Multiply t line d a b n ra rb low free = wrapping R op.Mul Mulw t d a b ra rb low
  binary_gives R Divide t line d a b n ra rb low free =
      divided R (if is_signed t then op.Div else op.Divu) t line d a b ra rb low
  binary_gives R Remainder t line d a b n ra rb low free =
      divided R (if is_signed t then op.Rem else op.Remu) t line d a b ra rb low
  binary_gives R ShiftLeft t line d a b n ra rb low free = shifted_left R t d a b ra rb low
  binary_gives R ShiftRight t line d a b n ra rb low free = shifted_right R t d a b n ra rb low free
  binary_gives R BitAnd t line d a b n ra rb low free = operated_alone R op.And d a b ra rb low
  binary_gives R BitXor t line d a b n ra rb low free = operated_alone R op.Xor d a b ra rb low
  binary_gives R BitOr t line d a b n ra rb low free = operated_alone R op.Or d a b ra rb low
  binary_gives R Less t line d a b n ra rb low free = operated_alone R (less_op t) d a b ra rb low
  binary_gives R Greater t line d a b n ra rb low free = operated_alone R (less_op t) d b a rb ra low
  binary_gives R LessOrEqual t line d a b n ra rb low free = operated_again R (less_op t) op.Xor 1 d b a rb ra low
  binary_gives R GreaterOrEqual t line d a b n ra rb low free = operated_again R (less_op t) op.Xor 1 d a b ra rb low
  binary_gives R Equal t line d a b n ra rb low free = operated_again R op.Sub op.Sltu 1 d a b ra rb low
  binary_gives R NotEqual t line d a b n ra rb low free = record {
    flow = ((ra, rb), low, tt, ((inr refl, tt), low, tt, ((inr refl, tt), low, tt, tt)));
    made = inl (one_has d);
  }
