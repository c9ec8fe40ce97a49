-- In whatever function it stands, the code of an operator computes it, each instruction at its weight.
use Rattle.std.proofs.Common.{◌≡◌, ℕ, suc, ◌+◌, ◌-◌, ◌*◌, ◌^◌, ◌<◌, ◌≤◌, Bool, true, false, ◌==◌, not, ◌||◌, List, []}
use Rattle.std.specs.Prelude.{nat_le}
use Rattle.std.proofs.Common.{◌∷◌, length, Option, Some, None, refl, ap, ◌∙◌, subst, arith, if◌then◌else◌}
use Rattle.std.proofs.Common.{mul-le-mul_right, mul_comm, lt-ltb}
use Rattle.std.proofs.Math.Nat.{suc-mul}
use Rattle.addr_map.specs.Places.{MapSizes}
use Rattle.sb_base.specs.declared.ending.Ending.TheVariants as ending
use Rattle.sb_base.specs.Endings.{code_of, report_of}
use Rattle.rv_isa.specs.declared.instruction.BranchOp.TheVariants.{Bne}
use Rattle.rv_isa.specs.declared.instruction.RegOp.{RegOp}
use Rattle.rv_isa.specs.declared.instruction.RegOp.TheVariants as op
use Rattle.rv_isa.specs.declared.instruction.RegOp32.TheVariants.{Addw, Subw, Mulw}
use Rattle.rv_isa.specs.Results.{branch_taken, reg_result}
use Rattle.words.specs.TwosComplement.{low_bits}
use Rattle.obj_memory.specs.declared.int_type.IntType.{IntType}
use Rattle.obj_memory.specs.declared.operator.BinaryOperator.{BinaryOperator}
use Rattle.obj_memory.specs.declared.operator.BinaryOperator.TheVariants.{Add, Subtract, Multiply, Divide, Remainder}
use Rattle.obj_memory.specs.declared.operator.BinaryOperator.TheVariants.{ShiftLeft, ShiftRight, BitAnd, BitXor}
use Rattle.obj_memory.specs.declared.operator.BinaryOperator.TheVariants.{BitOr, Less, Greater, LessOrEqual}
use Rattle.obj_memory.specs.declared.operator.BinaryOperator.TheVariants.{GreaterOrEqual, Equal, NotEqual}
use Rattle.obj_memory.specs.Integers.{fit, is_signed}
use Rattle.obj_memory.specs.Operators.{quotient, remainder, binary_value}
use Rattle.flat_code.specs.declared.instruction.RightOperand.TheVariants.{Register}
use Rattle.flat_code.specs.declared.instruction.FlatInstruction.{FlatInstruction}
use Rattle.flat_code.specs.declared.instruction.FlatInstruction.TheVariants.{Constant, Operate, End}
use Rattle.flat_code.specs.declared.function.FlatProgram.{FlatProgram}
use Rattle.flat_code.specs.State.{State, Stands, Over}
use Rattle.flat_code.specs.Calls.{function_in}
use Rattle.flat_code.specs.Words.{IsOfWords}
use Rattle.flat_code.specs.Meaning.{Context, Goes, Ends, body_of, context, weight_of}
use Rattle.flat_code.specs.Routines.Local.{counted, act, local_run, local_step}
use Rattle.flat_code.specs.Routines.Routine.{HasAt, Continues, Halts}
use Rattle.flat_code.specs.Routines.Effects.{worked, effects}
use Rattle.flat_code.proofs.Routines.Steps.{run_zero, run_suc}
use Rattle.flat_code.proofs.Routines.Straight.{run_straight}
use Rattle.flat_code.proofs.Routines.Lifted.{lifted}
use Rattle.metadata_plan.specs.Operators.{Position, Computes, EndsBy, AreOperators, binary_most}
use Rattle.flat_operators.specs.Operators.{conversion_code, converted, divided_code, unary_code, binary_code}
use Rattle.flat_operators.specs.Operators.{is_short, long_code, constant_code}
use Rattle.flat_operators.proofs.Values.{int_sum, int_difference, int_product, quotient_by, remainder_by, less_by}
use Rattle.flat_operators.proofs.Values.{sum_by, difference_by, product_by, and_by, or_by, xor_by}
use Rattle.flat_operators.proofs.Operators.{Gives, conversion_gives, operator_gives, alone_gives, wrapping_gives}
use Rattle.flat_operators.proofs.Operators.{turned_gives, equal_gives, unequal_gives, shift_left_gives}
use Rattle.flat_operators.proofs.Operators.{shift_right_gives, unary_gives, constant_gives, length_converted}
use Rattle.flat_operators.proofs.Operators.{length_conversion, length_wrapping, length_unary, length_constant}
use Rattle.flat_operators.proofs.Operators.{few_constant}
use Rattle.flat_operators.proofs.Operators.{length_left, length_right}
use Rattle.metadata_plan.specs.OperatorLists.Operators.{operators}
use Rattle.metadata_plan.proofs.OperatorLists.Plain.{ArePlain, plain_effects, plain_conversion, plain_converted}
use Rattle.metadata_plan.proofs.OperatorLists.Plain.{plain_constant}
use Rattle.metadata_plan.proofs.OperatorLists.Plain.{plain_wrapping, plain_left, plain_right, plain_unary}

module _ (m : MapSizes) (p : FlatProgram) (x : Position) where
  abbrev c : Context
  c = context m p x.function x.frames

  abbrev w : ℕ
  w = weight_of (function_in p x.function)

  abbrev body : List FlatInstruction
  body = body_of (function_in p x.function)

  -- a list without jumps
  straight : (is : List FlatInstruction) (d v n most : ℕ) → HasAt body x.place is → Gives c d n is x.state v
      → ArePlain is → length is ≤ most → Computes m p x (x.place + length is) d v n most
  straight is d v n most has g plain le = record {
    steps = length is;
    after = (effects c is x.state).values;
    work = length is * w;
    few = mul-le-mul_right w le;
    comes = lifted m p x.function x.frames (length is) x.place x.state (x.place + length is)
        (Continues (effects c is x.state)) (run_straight c body is x.place x.state g.0 has)
        ∙ ap (λ z. Stands x.function (x.place + length is) z x.frames) (plain_effects c is x.state plain);
    gives = g.1.result;
    others = g.1.others;
  }

  -- ---- division

  module _ (o : RegOp) (t : IntType) (line d a b n : ℕ) (f : ℕ → ℕ → ℕ)
      (by_f : (y z : ℕ) → (z == 0) ≡ false → reg_result o y z ≡ f y z)
      (has : HasAt body x.place (divided_code o t line d a b)) (words : IsOfWords x.state) where
    abbrev is : List FlatInstruction
    is = Operate o d a (Register b) ∷ converted t d

    abbrev s : State
    s = x.state

    -- where the branch leads
    branched : (taken : Bool) → branch_taken Bne (s.values b) (low_bits 64 0) ≡ taken
        → local_step c body (Goes x.place s) ≡ Goes (if taken then x.place + 1 + 1 else x.place + 1) (worked c s)
    branched taken e =
        ap (λ i. act c i x.place s) has.0
        ∙ ap (λ (k : Bool). Goes (if k then x.place + 1 + 1 else x.place + 1) (worked c s)) e

    divides : (s.values b == 0) ≡ false
        → Computes m p x (x.place + length (divided_code o t line d a b)) d (fit t (f (s.values a) (s.values b))) n 4
    unfolding branch_taken
    divides e =
        let g = operator_gives c d n (worked c s) (record { values = words.values; memory = words.memory }) o t a b
        (f (s.values a) (s.values b)) (by_f (s.values a) (s.values b) e) in
        let l = length_converted t d in
        let place : x.place + 1 + 1 + length is ≡ x.place + length (divided_code o t line d a b) = omega arith in
        let s2 = effects c is (worked c s) in
        let sum : s.work + w + length is * w ≡ s.work + suc (length is) * w = omega (arith, suc-mul (length is) w) in
        let local : local_run c body (suc (length is)) (Goes x.place s)
        ≡ Goes (x.place + length (divided_code o t line d a b)) s2 =
        run_suc c body (length is) (Goes x.place s)
        ∙ ap (local_run c body (length is)) (branched true (ap not e))
        ∙ run_straight c body is (x.place + 1 + 1) (worked c s) g.0 has.1.1
        ∙ ap (λ z. Goes z s2) place in
        record {
          steps = suc (length is);
          after = s2.values;
          work = suc (length is) * w;
          few = mul-le-mul_right w (omega (arith, l));
          comes = lifted m p x.function x.frames (suc (length is)) x.place s
              (x.place + length (divided_code o t line d a b)) (Continues s2) local
              ∙ ap (λ z. Stands x.function (x.place + length (divided_code o t line d a b)) z x.frames)
              (plain_effects c is (worked c s) (tt, plain_converted t d)
              ∙ ap (λ k. record s { values = s2.values; work = k }) sum);
          gives = g.1.result;
          others = g.1.others;
        }

    ends : (s.values b == 0) ≡ true → EndsBy m p x (ending.Divide line) 4
    unfolding branch_taken
    ends e =
        let z = ending.Divide line in
        let r = length (report_of z) in
        let last : State = counted c (End z) (worked c s) in
        let local : local_run c body 2 (Goes x.place s) ≡ Ends (code_of z) (report_of z) last =
        run_suc c body 1 (Goes x.place s)
        ∙ ap (local_run c body 1) (branched false (ap not e))
        ∙ run_suc c body 0 (Goes (x.place + 1) (worked c s))
        ∙ run_zero c body (local_step c body (Goes (x.place + 1) (worked c s)))
        ∙ ap (λ i. act c i (x.place + 1) (worked c s)) has.1.0 in
        let sum : s.work + w + w * (1 + r) ≡ s.work + (w + w * (1 + r)) = omega arith in
        let small : w + w * (1 + r) ≤ (4 + r) * w = bounded in
        record {
          steps = 2;
          after = s.values;
          work = w + w * (1 + r);
          few = small;
          comes = lifted m p x.function x.frames 2 x.place s x.place (Halts (code_of z) (report_of z) last) local
              ∙ ap (λ k. Over (code_of z) (report_of z) (record s { work = k })) sum;
        }
      where
        bounded : w + w * (1 + length (report_of (ending.Divide line))) ≤
            (4 + length (report_of (ending.Divide line))) * w
        bounded =
            let r = length (report_of (ending.Divide line)) in
            let e1 : w * (1 + r) ≡ (1 + r) * w = mul_comm w (1 + r) in
            let e2 : (4 + r) * w ≡ w + (w + (w + (w + r * w))) = omega (
              arith,
              suc-mul (3 + r) w,
              suc-mul (2 + r) w,
              suc-mul (1 + r) w,
              suc-mul r w,
            ) in
            let e3 : (1 + r) * w ≡ w + r * w = omega (arith, suc-mul r w) in
            omega (arith, e1, e2, e3)

  -- ---- all operators on two values

  module _ (line d a b n : ℕ) (below : a < n) (words : IsOfWords x.state) where
    abbrev y : ℕ
    y = x.state.values a

    abbrev z : ℕ
    z = x.state.values b

    abbrev Answers : BinaryOperator → IntType → Option ℕ → Type 0
    Answers o t None = EndsBy m p x (ending.Divide line) (binary_most o)
    Answers o t (Some v) =
        Computes m p x (x.place + length (binary_code o t line d a b n)) d v n (binary_most o)

    by_zero : (q : BinaryOperator) (t : IntType) (v : ℕ) → ((z == 0) ≡ false → Answers q t (Some v))
        → ((z == 0) ≡ true → Answers q t None) → Answers q t (if z == 0 then None else Some v)
    by_zero q t v on off = by (z == 0) refl
      where
        by : (k : Bool) → (z == 0) ≡ k → Answers q t (if k then None else Some v)
        by true e = off e
        by false e = on e

    two_values : (o : BinaryOperator) (t : IntType) → HasAt body x.place (binary_code o t line d a b n)
        → Answers o t (binary_value o t y z)
    unfolding binary_code binary_value
    two_values Add t has =
        straight (binary_code Add t line d a b n) d _ n 3 has
        (wrapping_gives c d n x.state words op.Add Addw t a b _ (sum_by y z) (int_sum y z))
        (plain_wrapping op.Add Addw t d a b) (length_wrapping op.Add Addw t d a b)
    two_values Subtract t has =
        straight (binary_code Subtract t line d a b n) d _ n 3 has
        (wrapping_gives c d n x.state words op.Sub Subw t a b _ (difference_by y z)
        (int_difference y z (words.values b)))
        (plain_wrapping op.Sub Subw t d a b) (length_wrapping op.Sub Subw t d a b)
    two_values Multiply t has =
        straight (binary_code Multiply t line d a b n) d _ n 4 has
        (wrapping_gives c d n x.state words op.Mul Mulw t a b _ (product_by y z) (int_product y z))
        (plain_wrapping op.Mul Mulw t d a b) (omega (arith, length_wrapping op.Mul Mulw t d a b))
    two_values Divide t has =
        let o = if is_signed t then op.Div else op.Divu in
        let f = quotient (is_signed t) in
        by_zero Divide t (fit t (f y z)) (divides o t line d a b n f (quotient_by (is_signed t)) has words)
        (ends o t line d a b n f (quotient_by (is_signed t)) has words)
    two_values Remainder t has =
        let o = if is_signed t then op.Rem else op.Remu in
        let f = remainder (is_signed t) in
        by_zero Remainder t (fit t (f y z)) (divides o t line d a b n f (remainder_by (is_signed t)) has words)
        (ends o t line d a b n f (remainder_by (is_signed t)) has words)
    two_values ShiftLeft t has =
        straight (binary_code ShiftLeft t line d a b n) d _ n 4 has (shift_left_gives c d n x.state words t a b)
        (plain_left t d a b)
        (omega (arith, length_left t d a b))
    two_values ShiftRight t has =
        straight (binary_code ShiftRight t line d a b n) d _ n 4 has (shift_right_gives c d n x.state words t a b below)
        (plain_right t d a b n)
        (omega (arith, length_right t d a b n))
    two_values BitAnd t has =
        straight (binary_code BitAnd t line d a b n) d _ n 4 has
        (alone_gives c d n x.state words op.And a b _ (and_by y z)) (tt, tt) (omega arith)
    two_values BitXor t has =
        straight (binary_code BitXor t line d a b n) d _ n 4 has
        (alone_gives c d n x.state words op.Xor a b _ (xor_by y z)) (tt, tt) (omega arith)
    two_values BitOr t has =
        straight (binary_code BitOr t line d a b n) d _ n 4 has
        (alone_gives c d n x.state words op.Or a b _ (or_by y z)) (tt, tt) (omega arith)
    two_values Less t has =
        straight (binary_code Less t line d a b n) d _ n 4 has (alone_gives c d n x.state words _ a b _ (less_by t y z))
        (tt, tt) (omega arith)
    two_values Greater t has =
        straight (binary_code Greater t line d a b n) d _ n 4 has
        (alone_gives c d n x.state words _ b a _ (less_by t z y)) (tt, tt) (omega arith)
    two_values LessOrEqual t has =
        straight (binary_code LessOrEqual t line d a b n) d _ n 4 has
        (turned_gives c d n x.state words _ b a _ (less_by t z y)) (tt, (tt, tt)) (omega arith)
    two_values GreaterOrEqual t has =
        straight (binary_code GreaterOrEqual t line d a b n) d _ n 4 has
        (turned_gives c d n x.state words _ a b _ (less_by t y z)) (tt, (tt, tt)) (omega arith)
    two_values Equal t has =
        straight (binary_code Equal t line d a b n) d _ n 4 has (equal_gives c d n x.state words a b) (tt, (tt, tt))
        (omega arith)
    two_values NotEqual t has =
        straight (binary_code NotEqual t line d a b n) d _ n 4 has (unequal_gives c d n x.state words a b)
        (tt, (tt, (tt, tt))) (omega arith)

-- a short constant is one instruction
one_constant : (d w : ℕ) → w < 2 ^ 31 - 2 ^ 11 → length (constant_code d w) ≤ 1
unfolding constant_code
one_constant d w short =
    let list : (if is_short w then Constant d w ∷ [] else long_code d w) ≡ Constant d w ∷ [] =
    ap (λ b. if b || nat_le (2 ^ 64 - 2 ^ 31) w then Constant d w ∷ [] else long_code d w)
    (lt-ltb w (2 ^ 31 - 2 ^ 11) short) in
    let count = ap length list in
    omega arith

-- all of them
pub computing : AreOperators operators
computing = record {
  constant = λ m p x d v n into low here.
      straight m p x (constant_code d v) d v n 5 here.has
      (constant_gives (context m p x.function x.frames) d n x.state v low)
      (plain_constant d v) (length_constant d v);
  few_constant = λ m p x d v n into low here.
      straight m p x (constant_code d v) d v n 3 here.has
      (constant_gives (context m p x.function x.frames) d n x.state v (omega (arith, low)))
      (plain_constant d v) (few_constant d v low);
  short_constant = λ m p x d v n into short here.
      straight m p x (constant_code d v) d v n 1 here.has
      (constant_gives (context m p x.function x.frames) d n x.state v (omega (arith, short)))
      (plain_constant d v) (one_constant d v short);
  unary = λ m p x o t d y n into from here.
      straight m p x (unary_code o t d y n) d _ n 5 here.has
      (unary_gives (context m p x.function x.frames) d n x.state here.words o t y from) (plain_unary o t d y n)
      (omega (arith, length_unary o t d y n));
  binary = λ m p x o t d a b n line v into left right here e.
      subst (Answers m p x line d a b n left here.words o t) e
      (two_values m p x line d a b n left here.words o t here.has);
  divides = λ m p x o t d a b n line into left right here e.
      subst (Answers m p x line d a b n left here.words o t) e
      (two_values m p x line d a b n left here.words o t here.has);
  convert = λ m p x t d y n into from here.
      straight m p x (conversion_code t d y) d _ n 2 here.has
      (conversion_gives (context m p x.function x.frames) d n t y x.state (here.words.values y))
      (plain_conversion t d y)
      (length_conversion t d y);
}
