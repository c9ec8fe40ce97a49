-- How many instructions stand for one of flat code at most.
use Rattle.std.proofs.Common.{◌≡◌, ℕ, ◌+◌, ◌-◌, ◌*◌, ◌%◌, ◌^◌, ◌≤◌, List, [], ◌∷◌, ◌++◌, length, Some}
use Rattle.std.proofs.Common.{not, arith, length-append, Bool, true, false, Option, None, refl, subst}
use Rattle.std.proofs.Common.{zero, suc, sym, ap}
use Rattle.std.specs.Prelude.{◌==◌, ◌||◌, nat_lt, nat_le, if◌then◌else◌, slice_get}
use Rattle.std.proofs.lemmas.Bool.{and_parts}
use Rattle.words.specs.TwosComplement.{low_bits, negated}
use Rattle.sb_base.specs.declared.ending.Ending.{Ending}
use Rattle.sb_base.specs.declared.ending.Ending.TheVariants as ending
use Rattle.addr_map.specs.Places.{MapSizes}
use Rattle.rv_isa.specs.declared.instruction.ImmOp.TheVariants.{Addi}
use Rattle.rv_isa.specs.declared.instruction.StoreOp.TheVariants.{Sb}
use Rattle.rv_isa.specs.declared.instruction.RegOp.{RegOp}
use Rattle.rv_isa.specs.declared.instruction.RegOp.TheVariants.{Add, Sub, Sll, Slt, Sltu, Xor, Srl, Sra, Or, And}
use Rattle.rv_isa.specs.declared.instruction.RegOp32.{RegOp32}
use Rattle.rv_isa.specs.declared.instruction.RegOp32.TheVariants.{Addw, Subw, Sllw, Srlw, Sraw}
use Rattle.rv_isa.specs.declared.instruction.Instr.{Instr}
use Rattle.rv_isa.specs.declared.instruction.ShiftOp.TheVariants.{Srli}
use Rattle.rv_isa.specs.declared.instruction.Instr.TheVariants.{Load, Store, OpImm, ShiftImm, Op, Op32, Ecall, Jalr}
use Rattle.flat_code.specs.declared.instruction.RightOperand.{RightOperand}
use Rattle.flat_code.specs.declared.instruction.RightOperand.TheVariants as right
use Rattle.flat_code.specs.declared.instruction.FlatInstruction.{FlatInstruction}
use Rattle.flat_code.specs.declared.instruction.FlatInstruction.TheVariants as flat
use Rattle.flat_code.specs.declared.function.FlatFunction.{FlatFunction}
use Rattle.flat_code.specs.declared.function.FlatProgram.{FlatProgram}
use Rattle.flat_code.specs.Calls.{function_in, record_bytes}
use Rattle.flat_code.specs.Meaning.{parameters_of, results_of}
use Rattle.reg_plan.specs.declared.plan.Place.{Place}
use Rattle.reg_plan.specs.declared.plan.Place.TheVariants as place
use Rattle.reg_plan.specs.declared.plan.FunctionPlan.{FunctionPlan}
use Rattle.reg_plan.specs.Effects.{is_among, many}
use Rattle.machine_laws.specs.declared.location.Location.{Location}
use Rattle.machine_laws.specs.Blocks.Places.{home_of, location_at, home, location}
use Rattle.machine_laws.specs.Blocks.Blocks.{constant, used, used_right, fetch, keep, fetch_right, operands}
use Rattle.machine_laws.specs.Blocks.Blocks.{asks, received_block, operator_block, operate_block, operate32_block}
use Rattle.machine_laws.specs.Blocks.Blocks.{local_block, wide, digits, load_at, store_at, is_same}
use Rattle.machine_laws.specs.Blocks.Immediates.{is_immediate, immediate, immediate32, immediate_of, immediate32_of}
use Rattle.machine_laws.proofs.Blocks.Lengths.{constant_length, choice}
use Rattle.machine_laws.specs.Blocks.Tails.{end_block}
use Rattle.machine_laws.specs.Calls.Table.{tails_address, row_address}
use Rattle.machine_laws.specs.Calls.Calls.{Keeping, give, take, save, restore, advance, retreat, call_block}
use Rattle.machine_laws.specs.Calls.Calls.{return_block}
use Rattle.machine_laws.specs.Calls.Calls.{entry_block}
use Rattle.machine_laws.specs.Calls.Effects.{AreOwn}
use Rattle.machine_laws.proofs.Calls.Lengths.{save_length, restore_length, advance_most, retreat_most}
use Rattle.machine_laws.specs.Following.Code.{keeping, keeping_of, CallShape, wanted, call_part, back_part}
use Rattle.machine_laws.specs.Following.Code.{charged_from, block}
use Rattle.machine_laws.proofs.Following.Sound.{IsSound}
use Rattle.image_laws.specs.CodeSizes.Sizes.{constant_words, offset_words, home_words, right_words, operator_words}
use Rattle.image_laws.specs.CodeSizes.Sizes.{passed_words, call_words, instruction_words}

-- ---- instructions that stay in their function

pub constant_most : (rd n : ℕ) → length (constant rd n) ≤ constant_words n
unfolding constant
constant_most rd n = by (nat_lt n (2 ^ 11)) (nat_le (2 ^ 64 - 2 ^ 11) n) (nat_lt n (2 ^ 31 - 2 ^ 11))
    (nat_le (2 ^ 64 - 2 ^ 31) n) (constant_length rd n)
  where
    by : (a b c d : Bool)
        → length (if a then OpImm Addi rd 0 (n % 2 ^ 12) ∷ [] else (if b then OpImm Addi rd 0 (n % 2 ^ 12) ∷ [] else (
        if c then wide rd n else (if d then wide rd n else digits 5 rd n)))) ≤ 11
        → length (if a then OpImm Addi rd 0 (n % 2 ^ 12) ∷ [] else (if b then OpImm Addi rd 0 (n % 2 ^ 12) ∷ [] else (
        if c then wide rd n else (if d then wide rd n else digits 5 rd n))))
        ≤ (if a || b then 1 else (if c || d then 2 else 11))
    by true b c d h = omega arith
    by false true c d h = omega arith
    by false false true d h = omega arith
    by false false false true h = omega arith
    by false false false false h = h

-- ---- homes

pub offset_most : (o : ℕ) → offset_words o ≤ 3
offset_most o = by (nat_lt o (2 ^ 11))
  where
    by : (b : Bool) → (if b then 1 else 3) ≤ 3
    by true = omega arith
    by false = omega arith

offset_some : (o : ℕ) → 1 ≤ offset_words o
offset_some o = by (nat_lt o (2 ^ 11))
  where
    by : (b : Bool) → 1 ≤ (if b then 1 else 3)
    by true = omega arith
    by false = omega arith

pub home_most : (g : FlatFunction) (y : ℕ) → home_words g y ≤ 3
unfolding home_words
home_most g y = offset_most (home g y)

pub passed_most : (g : FlatFunction) (y n : ℕ) → passed_words g y n ≤ 6 * n
unfolding passed_words
passed_most g y zero = omega arith
passed_most g y (suc n) =
    let rest = passed_most g y n in
    let own = home_most g (y + n) in
    let word = offset_most (8 * n) in
    omega arith

one_or_three : (b : Bool) (is js : List Instr) → length is ≤ 1 → length js ≤ 3
    → length (if b then is else js) ≤ (if b then 1 else 3)
one_or_three true is js one three = one
one_or_three false is js one three = three

load_most : (rd base o : ℕ) → length (load_at rd base o) ≤ offset_words o
unfolding load_at
load_most rd base o = one_or_three (nat_lt o (2 ^ 11)) _ _ (omega arith) (omega arith)

store_most : (from base o : ℕ) → length (store_at from base o) ≤ offset_words o
unfolding store_at
store_most from base o = one_or_three (nat_lt o (2 ^ 11)) _ _ (omega arith) (omega arith)

-- a value comes from where it is kept within the words of its home, and goes there
pub record ReachesHomes (g : FlatFunction) (place : ℕ → Location) : Type 0 where
  pub from : (y base t : ℕ) → length (fetch (place y) base t) ≤ home_words g y
  pub into : (y base t : ℕ) → length (keep (place y) base t) ≤ home_words g y

from_at : (o : Option Place) (h base t : ℕ) → length (fetch (location_at o h) base t) ≤ offset_words h
from_at None h base t = load_most t base h
from_at (Some place.Home) h base t = load_most t base h
from_at (Some (place.Register r)) h base t = omega arith

into_at : (o : Option Place) (h base t : ℕ) → length (keep (location_at o h) base t) ≤ offset_words h
into_at None h base t = store_most t base h
into_at (Some place.Home) h base t = store_most t base h
into_at (Some (place.Register r)) h base t = omega arith

reaches_by : (g : FlatFunction) (o : Option FunctionPlan) → ReachesHomes g (keeping_of (Some g) o).place
unfolding home location home_words
reaches_by g None = record {
  from = λ y base t. let a = load_most t base 8 in let b = offset_some (home_of (slice_get g.homes y)) in omega arith;
  into = λ y base t. let a = store_most t base 8 in let b = offset_some (home_of (slice_get g.homes y)) in omega arith;
}
reaches_by g (Some plan) = record {
  from = λ y base t. from_at (slice_get plan.places.items y) (home_of (slice_get g.homes y)) base t;
  into = λ y base t. into_at (slice_get plan.places.items y) (home_of (slice_get g.homes y)) base t;
}

reaches : (p : FlatProgram) (plans : List FunctionPlan) (f : ℕ) (g : FlatFunction) → function_in p f ≡ Some g
    → ReachesHomes g (keeping p plans f).place
unfolding keeping
reaches p plans f g there =
    subst (λ o. ReachesHomes g (keeping_of o (slice_get plans f)).place) (sym there) (reaches_by g (slice_get plans f))

-- ---- operands and results

module _ (g : FlatFunction) (place : ℕ → Location) (at : ReachesHomes g place) (base : ℕ) where
  right_length : (z : RightOperand) → length (fetch_right place base z) ≤ right_words g z
  right_length (right.Register z) = at.from z base 6
  right_length (right.Number n) = by (n == 0)
    where
      by : (b : Bool) → length (if b then [] else constant 6 (low_bits 64 n))
          ≤ (if b then 0 else constant_words (low_bits 64 n))
      by true = omega arith
      by false = constant_most 6 (low_bits 64 n)

  pub operands_length : (y : ℕ) (z : RightOperand)
      → length (operands place base y z) ≤ home_words g y + right_words g z
  operands_length y z =
      let a = at.from y base 5 in
      let b = right_length z in
      let c = length-append (fetch (place y) base 5) (fetch_right place base z) in
      omega arith

  -- what comes first, one instruction, and a value is kept
  kept_length : (is : List Instr) (i : Instr) (x n : ℕ) → length is ≤ n
      → length (is ++ (i ∷ keep (place x) base 5)) ≤ n + home_words g x + 1
  kept_length is i x n h =
      let k = at.into x base 5 in
      let a = length-append is (i ∷ keep (place x) base 5) in
      omega arith

  operator_length : (x y : ℕ) (z : RightOperand) (short : Option Instr) (plain : Instr)
      → length (operator_block place base (place x) y z short plain) ≤ operator_words g x y z short
  operator_length x y z None plain =
      let a = kept_length (operands place base y z) plain x (home_words g y + right_words g z) (operands_length y z) in
      omega arith
  operator_length x y z (Some i) plain =
      kept_length (fetch (place y) base 5) i x (home_words g y) (at.from y base 5)

-- whether an operator has its right operand in itself hangs on no register
either : (g : FlatFunction) (x y : ℕ) (z : RightOperand) (b : Bool) (i j : Instr)
    → operator_words g x y z (if b then Some i else None) ≡ operator_words g x y z (if b then Some j else None)
either g x y z true i j = refl
either g x y z false i j = refl

alike : (g : FlatFunction) (x y : ℕ) (op : RegOp) (rd rs1 : ℕ) (z : RightOperand)
    → operator_words g x y z (immediate_of op rd rs1 z) ≡ operator_words g x y z (immediate_of op 0 0 z)
unfolding immediate
alike g x y op rd rs1 (right.Register z) = refl
alike g x y Add rd rs1 (right.Number n) = either g x y (right.Number n) (is_immediate (low_bits 64 n)) _ _
alike g x y Sub rd rs1 (right.Number n) = either g x y (right.Number n) (is_immediate (negated 64 (low_bits 64 n))) _ _
alike g x y Slt rd rs1 (right.Number n) = either g x y (right.Number n) (is_immediate (low_bits 64 n)) _ _
alike g x y Sltu rd rs1 (right.Number n) = either g x y (right.Number n) (is_immediate (low_bits 64 n)) _ _
alike g x y Xor rd rs1 (right.Number n) = either g x y (right.Number n) (is_immediate (low_bits 64 n)) _ _
alike g x y Or rd rs1 (right.Number n) = either g x y (right.Number n) (is_immediate (low_bits 64 n)) _ _
alike g x y And rd rs1 (right.Number n) = either g x y (right.Number n) (is_immediate (low_bits 64 n)) _ _
alike g x y Sll rd rs1 (right.Number n) = either g x y (right.Number n) (nat_lt (low_bits 64 n) 64) _ _
alike g x y Srl rd rs1 (right.Number n) = either g x y (right.Number n) (nat_lt (low_bits 64 n) 64) _ _
alike g x y Sra rd rs1 (right.Number n) = either g x y (right.Number n) (nat_lt (low_bits 64 n) 64) _ _
alike g x y op rd rs1 (right.Number n) = refl

alike32 : (g : FlatFunction) (x y : ℕ) (op : RegOp32) (rd rs1 : ℕ) (z : RightOperand)
    → operator_words g x y z (immediate32_of op rd rs1 z) ≡ operator_words g x y z (immediate32_of op 0 0 z)
unfolding immediate32
alike32 g x y op rd rs1 (right.Register z) = refl
alike32 g x y Addw rd rs1 (right.Number n) = either g x y (right.Number n) (is_immediate (low_bits 64 n)) _ _
alike32 g x y Subw rd rs1 (right.Number n) =
    either g x y (right.Number n) (is_immediate (negated 64 (low_bits 64 n))) _ _
alike32 g x y Sllw rd rs1 (right.Number n) = either g x y (right.Number n) (nat_lt (low_bits 64 n) 32) _ _
alike32 g x y Srlw rd rs1 (right.Number n) = either g x y (right.Number n) (nat_lt (low_bits 64 n) 32) _ _
alike32 g x y Sraw rd rs1 (right.Number n) = either g x y (right.Number n) (nat_lt (low_bits 64 n) 32) _ _
alike32 g x y op rd rs1 (right.Number n) = refl

pub ends : (tails : ℕ) (e : Ending) → length (end_block tails e) ≤ 4
ends tails (ending.Exit status) = omega arith
ends tails (ending.Spatial line) = omega arith
ends tails (ending.Temporal line) = omega arith
ends tails (ending.BadCall line) = omega arith
ends tails (ending.BadFree line) = omega arith
ends tails (ending.Divide line) = omega arith
ends tails (ending.Stack line) = omega arith
ends tails (ending.Keys line) = omega arith
ends tails (ending.Abort line) = omega arith

module _ (g : FlatFunction) (place : ℕ → Location) (at : ReachesHomes g place) (base begin : ℕ) (p : FlatProgram) where
  local_length : (i : FlatInstruction) → length (local_block place base begin i) ≤ instruction_words p g i
  local_length (flat.Constant x n) =
      let a = constant_most (used (place x) 5) (low_bits 64 n) in
      let k = at.into x base 5 in
      let c = length-append (constant (used (place x) 5) (low_bits 64 n)) (keep (place x) base 5) in
      omega arith
  local_length (flat.Move x y) =
      let copy = OpImm Addi (used (place x) 5) (used (place y) 5) 0 in
      choice (is_same (place x) (place y)) [] (fetch (place y) base 5 ++ (copy ∷ keep (place x) base 5))
      (home_words g y + home_words g x + 1) (omega arith)
      (kept_length g place at base (fetch (place y) base 5) copy x (home_words g y) (at.from y base 5))
  local_length (flat.Operate op x y z) = subst
      (λ n. length (operate_block place base op (place x) y z) ≤ n)
      (alike g x y op (used (place x) 5) (used (place y) 5) z)
      (operator_length g place at base x y z (immediate_of op (used (place x) 5) (used (place y) 5) z)
      (Op op (used (place x) 5) (used (place y) 5) (used_right place z)))
  local_length (flat.Operate32 op x y z) = subst
      (λ n. length (operate32_block place base op (place x) y z) ≤ n)
      (alike32 g x y op (used (place x) 5) (used (place y) 5) z)
      (operator_length g place at base x y z (immediate32_of op (used (place x) 5) (used (place y) 5) z)
      (Op32 op (used (place x) 5) (used (place y) 5) (used_right place z)))
  local_length (flat.Load op x y o) =
      kept_length g place at base (fetch (place y) base 5)
      (Load op (used (place x) 5) (used (place y) 5) (o % 2 ^ 12)) x (home_words g y) (at.from y base 5)
  local_length (flat.Store op y o x) =
      let a = operands_length g place at base y (right.Register x) in
      let i = Store op (used (place y) 5) (used (place x) 6) (o % 2 ^ 12) in
      let c = length-append (operands place base y (right.Register x)) (i ∷ []) in
      omega arith
  local_length (flat.Branch op y z past) = let a = operands_length g place at base y z in omega arith
  local_length (flat.JumpForward past) = omega arith
  local_length (flat.JumpBack back) = omega arith
  local_length flat.Turn = omega arith
  local_length (flat.Call f first x) = omega arith
  local_length (flat.CallAddress y first n x k) = omega arith
  local_length (flat.Return y) = omega arith
  local_length (flat.Get x) =
      let k = at.into x base 5 in
      let c = length-append (asks 63 0 1) (received_block (place x) base) in
      omega arith
  local_length (flat.Put x) =
      let a = at.from x base 5 in
      let c = length-append (fetch (place x) base 5) (Store Sb 3 (used (place x) 5) 0 ∷ asks 64 1 1) in
      omega arith
  local_length (flat.Exit x) =
      let a = at.from x base 5 in
      let is = OpImm Addi 10 (used (place x) 5) 0 ∷ OpImm Addi 17 0 93 ∷ Ecall ∷ [] in
      let c = length-append (fetch (place x) base 5) is in
      omega arith
  local_length (flat.End e) = omega arith
  local_length (flat.Charged x) =
      let a = constant_length 6 begin in
      let k = at.into x base 5 in
      let half = Op Sub 5 2 6 ∷ ShiftImm Srli (used (place x) 5) 5 1 ∷ keep (place x) base 5 in
      let c = length-append (constant 6 begin) half in
      omega arith

-- ---- calls and returns

module _ (g : FlatFunction) (k : Keeping) (at : ReachesHomes g k.place) where
  give_most : (first n : ℕ) → length (give k first n) ≤ passed_words g first n
  unfolding give passed_words
  give_most first zero = omega arith
  give_most first (suc n) =
      let rest = give_most first n in
      let place = k.place (first + n) in
      let own = at.from (first + n) k.base 5 in
      let word = store_most (used place 5) 3 (8 * n) in
      let a = length-append (give k first n) (fetch place k.base 5 ++ store_at (used place 5) 3 (8 * n)) in
      let b = length-append (fetch place k.base 5) (store_at (used place 5) 3 (8 * n)) in
      omega arith

  take_most : (pc first n : ℕ) → length (take k pc first n) ≤ passed_words g first n
  unfolding take passed_words
  take_most pc first zero = omega arith
  take_most pc first (suc n) =
      let rest = take_most pc first n in
      let place = k.place (first + n) in
      let here = load_at (used place 5) 3 (8 * n) ++ keep place k.base 5 in
      let word = load_most (used place 5) 3 (8 * n) in
      let own = at.into (first + n) k.base 5 in
      let b = length-append (load_at (used place 5) 3 (8 * n)) (keep place k.base 5) in
      let few : length here ≤ home_words g (first + n) + offset_words (8 * n) = omega arith in
      let c = choice (k.live pc (first + n)) here [] (home_words g (first + n) + offset_words (8 * n)) few
      (omega arith) in
      let a = length-append (take k pc first n) (if k.live pc (first + n) then here else []) in
      omega arith

  return_most : (y n : ℕ) → length (return_block k y n) ≤ passed_words g y n + 1
  unfolding load_at
  return_most y n =
      let given = give_most y n in
      let a = length-append (give k y n) (load_at 1 k.base 0) in omega arith

  pub entry_most : (n : ℕ) → length (entry_block k n) ≤ passed_words g 0 n + 1
  unfolding store_at
  entry_most n =
      let taken = take_most 0 0 n in
      let a = length-append (store_at 1 k.base 0) (take k 0 0 n) in omega arith

module _ (p : FlatProgram) (plans : List FunctionPlan) (ok : IsSound p plans) (f : ℕ) (g : FlatFunction)
    (there : function_in p f ≡ Some g) where
  own_wanted : (pc into n : ℕ)
      → AreOwn (keeping p plans f).room (keeping p plans f).place (wanted (keeping p plans f) pc into n)
  own_wanted pc into n =
      let k = keeping p plans f in
      let h = ok.kept f (pc + 1) g there in
      record {
        inside = λ y e. h.inside y (and_parts (k.live (pc + 1) y) (not (is_among (many into n) y)) e).0;
        apart = λ x y ex ey ne. h.apart x y (and_parts (k.live (pc + 1) x) (not (is_among (many into n) x)) ex).0
            (and_parts (k.live (pc + 1) y) (not (is_among (many into n) y)) ey).0 ne;
      }

  pub at_homes : ReachesHomes g (keeping p plans f).place
  at_homes = reaches p plans f g there

  call_length : (pc n : ℕ) (c : CallShape) → length c.aim ≤ n
      → length (call_part (keeping p plans f) pc c)
      ≤ 34 + n + (constant_words (keeping p plans f).room + 1) + passed_words g c.first c.count
  call_length pc n c aim =
      let k = keeping p plans f in
      let want = wanted k pc c.into c.results in
      let a = save_length k.room k want k.count (own_wanted pc c.into c.results) in
      let b = give_most g k at_homes c.first c.count in
      let d = advance_most k (constant_words k.room) (constant_most 6 k.room) in
      let l1 = length-append (save k want k.count) (give k c.first c.count ++ (c.aim ++ advance k)) in
      let l2 = length-append (give k c.first c.count) (c.aim ++ advance k) in
      let l3 = length-append c.aim (advance k) in
      let l4 = length-append (call_block k want c.first c.count c.aim) (Jalr 1 c.target 0 ∷ []) in
      omega arith

  back_length : (pc : ℕ) (c : CallShape) → length (back_part (keeping p plans f) pc c)
      ≤ 33 + (constant_words (keeping p plans f).room + 1) + passed_words g c.into c.results
  back_length pc c =
      let k = keeping p plans f in
      let want = wanted k pc c.into c.results in
      let a = restore_length k.room k want k.count (own_wanted pc c.into c.results) in
      let b = take_most g k at_homes (pc + 1) c.into c.results in
      let d = retreat_most k (constant_words k.room) (constant_most 6 k.room) in
      let l1 = length-append (retreat k) (restore k want k.count ++ take k (pc + 1) c.into c.results) in
      let l2 = length-append (restore k want k.count) (take k (pc + 1) c.into c.results) in
      omega arith

  shaped_length : (pc n : ℕ) (c : CallShape) → length c.aim ≤ n
      → length (call_part (keeping p plans f) pc c ++ back_part (keeping p plans f) pc c)
      ≤ call_words (record_bytes g) n (passed_words g c.first c.count + passed_words g c.into c.results)
  shaped_length pc n c aim =
      let k = keeping p plans f in
      let a = call_length pc n c aim in
      let b = back_length pc c in
      let l = length-append (call_part k pc c) (back_part k pc c) in
      let room = ap constant_words (ok.room f g there) in
      omega arith

  local_most : (m : MapSizes) (i : FlatInstruction)
      → length (local_block (keeping p plans f).place (keeping p plans f).base (charged_from m p f) i)
      ≤ instruction_words p g i
  local_most m i =
      local_length g (keeping p plans f).place at_homes (keeping p plans f).base (charged_from m p f) p i

  needed_most : (m : MapSizes) (b : Bool) (i : FlatInstruction)
      → length (if b then [] else local_block (keeping p plans f).place (keeping p plans f).base (charged_from m p f) i)
      ≤ instruction_words p g i
  needed_most m b i =
      let k = keeping p plans f in
      let a = local_most m i in
      choice b [] (local_block k.place k.base (charged_from m p f) i)
      (instruction_words p g i) (omega arith) a

  -- all instructions, but for the jump or the branch behind a block
  pub block_length : (m : MapSizes) (pc : ℕ) (i : FlatInstruction)
      → length (block m p plans f pc i) ≤ instruction_words p g i
  unfolding block
  block_length m pc (flat.Constant x n) =
      needed_most m (not ((keeping p plans f).live (pc + 1) x)) (flat.Constant x n)
  block_length m pc (flat.Move x y) =
      needed_most m (not ((keeping p plans f).live (pc + 1) x)) (flat.Move x y)
  block_length m pc (flat.Operate op x y z) =
      needed_most m (not ((keeping p plans f).live (pc + 1) x)) (flat.Operate op x y z)
  block_length m pc (flat.Operate32 op x y z) =
      needed_most m (not ((keeping p plans f).live (pc + 1) x)) (flat.Operate32 op x y z)
  block_length m pc (flat.Load op x y o) = local_most m (flat.Load op x y o)
  block_length m pc (flat.Store op y o x) = local_most m (flat.Store op y o x)
  block_length m pc (flat.Branch op y z past) = local_most m (flat.Branch op y z past)
  block_length m pc (flat.JumpForward past) = local_most m (flat.JumpForward past)
  block_length m pc (flat.JumpBack back) = local_most m (flat.JumpBack back)
  block_length m pc flat.Turn = local_most m flat.Turn
  block_length m pc (flat.Call to first x) =
      shaped_length pc (constant_words (row_address p to)) (record {
        first = first;
        count = parameters_of (function_in p to);
        into = x;
        results = results_of (function_in p to);
        aim = constant 28 (row_address p to);
        target = 28;
      }) (constant_most 28 (row_address p to))
  block_length m pc (flat.CallAddress y first n x r) =
      let k = keeping p plans f in
      shaped_length pc (home_words g y) (record {
        first = first;
        count = n;
        into = x;
        results = r;
        aim = fetch (k.place y) k.base 28;
        target = used (k.place y) 28;
      }) (at_homes.from y k.base 28)
  block_length m pc (flat.Return y) =
      let k = keeping p plans f in
      let n = results_of (function_in p f) in
      let a = return_most g k at_homes y n in
      let l = length-append (return_block k y n) (Jalr 0 1 0 ∷ []) in
      let own = ap (λ o. passed_words g y (results_of o)) there in
      omega arith
  block_length m pc (flat.Get x) = local_most m (flat.Get x)
  block_length m pc (flat.Put x) = local_most m (flat.Put x)
  block_length m pc (flat.Exit x) = local_most m (flat.Exit x)
  block_length m pc (flat.End e) = ends (tails_address p) e
  block_length m pc (flat.Charged x) =
      needed_most m (not ((keeping p plans f).live (pc + 1) x)) (flat.Charged x)
