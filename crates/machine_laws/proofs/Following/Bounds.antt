-- How many instructions a block has at most: by how many reach a home in the function's record.
use Rattle.std.proofs.Common.{◌≡◌, ℕ, ◌+◌, ◌-◌, ◌*◌, ◌%◌, ◌^◌, ◌<◌, ◌≤◌, inl, refl, sym, ap, ◌∙◌, subst, Bool, true}
use Rattle.std.proofs.Common.{false}
use Rattle.std.proofs.Common.{List, [], ◌∷◌, ◌++◌, length, Option, Some, None, arith, length-append}
use Rattle.std.specs.Prelude.{nat_le, not, if◌then◌else◌}
use Rattle.addr_map.specs.Places.{MapSizes}
use Rattle.words.specs.TwosComplement.{low_bits}
use Rattle.rv_isa.specs.declared.instruction.LoadOp.{LoadOp}
use Rattle.rv_isa.specs.declared.instruction.StoreOp.{StoreOp}
use Rattle.rv_isa.specs.declared.instruction.RegOp.{RegOp}
use Rattle.rv_isa.specs.declared.instruction.RegOp.TheVariants.{Sub}
use Rattle.rv_isa.specs.declared.instruction.RegOp32.{RegOp32}
use Rattle.rv_isa.specs.declared.instruction.BranchOp.{BranchOp}
use Rattle.rv_isa.specs.declared.instruction.ImmOp.TheVariants.{Addi}
use Rattle.rv_isa.specs.declared.instruction.StoreOp.TheVariants.{Sb}
use Rattle.rv_isa.specs.declared.instruction.Instr.{Instr}
use Rattle.rv_isa.specs.declared.instruction.ShiftOp.TheVariants.{Srli}
use Rattle.rv_isa.specs.declared.instruction.Instr.TheVariants.{Load, Store, Op, Op32, OpImm, ShiftImm, Ecall}
use Rattle.flat_code.specs.declared.instruction.RightOperand.{RightOperand}
use Rattle.flat_code.specs.declared.instruction.RightOperand.TheVariants as right
use Rattle.flat_code.specs.declared.instruction.FlatInstruction.TheVariants as flat
use Rattle.flat_code.specs.declared.function.FlatFunction.{FlatFunction}
use Rattle.flat_code.specs.declared.function.FlatProgram.{FlatProgram}
use Rattle.flat_code.specs.Calls.{function_in, record_bytes}
use Rattle.flat_code.specs.Meaning.{weight_of}
use Rattle.reg_plan.specs.declared.plan.FunctionPlan.{FunctionPlan}
use Rattle.machine_laws.specs.Blocks.Blocks.{IsShort, RightIsShort, constant, used, used_right, fetch, keep, operands}
use Rattle.machine_laws.specs.Blocks.Blocks.{asks, is_same, operator_block}
use Rattle.machine_laws.specs.Blocks.Immediates.{immediate_of, immediate32_of}
use Rattle.machine_laws.specs.Blocks.Effects.{IsIn, RightIsIn}
use Rattle.machine_laws.proofs.Blocks.Lengths.{short_constant_length, short_bits_length, home_reach, choice}
use Rattle.machine_laws.proofs.Blocks.Lengths.{fetch_reach, keep_reach, operands_reach, operator_reach}
use Rattle.machine_laws.specs.Following.Code.{keeping, block, charged_from}

-- ---- what an instruction weighs, and how many reach a home

-- what reaches a home and one more are twice the weight, which is at least one
pub record Weighs (room weight : ℕ) : Type 0 where
  pub twice : home_reach room + 1 ≡ 2 * weight
  pub some : 1 ≤ weight

weighs_by : (b : Bool) → ((if b then 1 else 3) + 1 ≡ 2 * (if b then 1 else 2)) × (1 ≤ (if b then 1 else 2))
weighs_by true = (omega arith, omega arith)
weighs_by false = (omega arith, omega arith)

pub weighs : (p : FlatProgram) (f room : ℕ) (g : FlatFunction) → function_in p f ≡ Some g → room ≡ record_bytes g
    → Weighs room (weight_of (function_in p f))
weighs p f room g there e =
    let w = weighs_by (nat_le (record_bytes g) (2 ^ 11)) in
    record {
      twice = ap (λ r. home_reach r + 1) e ∙ w.0 ∙ sym (ap (λ o. 2 * weight_of o) there);
      some = subst (λ o. 1 ≤ weight_of o) (sym there) w.1;
    }

-- the end of a run
pub end_most : (o : Option FlatFunction) (n : ℕ) → 6 + 6 * n ≤ 6 * (weight_of o * (1 + n))
end_most None n = omega arith
end_most (Some g) n = by (nat_le (record_bytes g) (2 ^ 11))
  where
    by : (b : Bool) → 6 + 6 * n ≤ 6 * ((if b then 1 else 2) * (1 + n))
    by true = omega arith
    by false = omega arith

module _ (m : MapSizes) (p : FlatProgram) (plans : List FunctionPlan) (f pc : ℕ) where
  -- a value lies in the record of the function, or in a register
  abbrev pub IsPlaced : ℕ → Type 0
  IsPlaced x = IsIn (keeping p plans f).room ((keeping p plans f).place x)

  abbrev pub RightIsPlaced : RightOperand → Type 0
  RightIsPlaced z = RightIsIn (keeping p plans f).room (keeping p plans f).place z

  -- one that is not needed has none
  abbrev pub IsNeeded : ℕ → Type 0
  IsNeeded x = (keeping p plans f).live (pc + 1) x ≡ true

  needed_bound : (x most : ℕ) (is : List Instr) → (IsNeeded x → length is ≤ most)
      → length (if not ((keeping p plans f).live (pc + 1) x) then [] else is) ≤ most
  needed_bound x most is h = by ((keeping p plans f).live (pc + 1) x) h
    where
      by : (b : Bool) → (b ≡ true → length is ≤ most) → length (if not b then [] else is) ≤ most
      by true h' = h' refl
      by false h' = omega arith

  pub constant_bound : (x n : ℕ) → (IsNeeded x → IsPlaced x) → IsShort n
      → length (block m p plans f pc (flat.Constant x n)) ≤ home_reach (keeping p plans f).room + 2
  unfolding block
  constant_bound x n hx short =
      let k = keeping p plans f in
      let a = short_bits_length (used (k.place x) 5) n short in
      needed_bound x (home_reach k.room + 2) (constant (used (k.place x) 5) (low_bits 64 n) ++ keep (k.place x) k.base 5)
      (λ e. let b = keep_reach k.room (k.place x) k.base 5 (hx e) in
      let c = length-append (constant (used (k.place x) 5) (low_bits 64 n)) (keep (k.place x) k.base 5) in
      omega arith)

  pub move_bound : (x y : ℕ) → (IsNeeded x → IsPlaced x) → (IsNeeded x → IsPlaced y)
      → length (block m p plans f pc (flat.Move x y)) ≤ 2 * home_reach (keeping p plans f).room + 1
  unfolding block
  move_bound x y hx hy =
      let k = keeping p plans f in
      let copy = OpImm Addi (used (k.place x) 5) (used (k.place y) 5) 0 ∷ keep (k.place x) k.base 5 in
      needed_bound x (2 * home_reach k.room + 1)
      (if is_same (k.place x) (k.place y) then [] else fetch (k.place y) k.base 5 ++ copy)
      (λ e. let a = fetch_reach k.room (k.place y) k.base 5 (hy e) in
      let b = keep_reach k.room (k.place x) k.base 5 (hx e) in
      let c = length-append (fetch (k.place y) k.base 5) copy in
      choice (is_same (k.place x) (k.place y)) [] (fetch (k.place y) k.base 5 ++ copy) (2 * home_reach k.room + 1)
      (omega arith) (omega arith))

  pub operate_bound : (op : RegOp) (x y : ℕ) (z : RightOperand) → (IsNeeded x → IsPlaced x)
      → (IsNeeded x → IsPlaced y) → (IsNeeded x → RightIsPlaced z) → RightIsShort z
      → length (block m p plans f pc (flat.Operate op x y z)) ≤ 3 * home_reach (keeping p plans f).room + 2
  unfolding block
  operate_bound op x y z hx hy hz short =
      let k = keeping p plans f in
      let own = immediate_of op (used (k.place x) 5) (used (k.place y) 5) z in
      let two = Op op (used (k.place x) 5) (used (k.place y) 5) (used_right k.place z) in
      needed_bound x (3 * home_reach k.room + 2) (operator_block k.place k.base (k.place x) y z own two)
      (λ e. operator_reach k.room k.place k.base (k.place x) y z own two (hx e) (hy e) (hz e) short)

  pub operate32_bound : (op : RegOp32) (x y : ℕ) (z : RightOperand) → (IsNeeded x → IsPlaced x)
      → (IsNeeded x → IsPlaced y) → (IsNeeded x → RightIsPlaced z) → RightIsShort z
      → length (block m p plans f pc (flat.Operate32 op x y z)) ≤ 3 * home_reach (keeping p plans f).room + 2
  unfolding block
  operate32_bound op x y z hx hy hz short =
      let k = keeping p plans f in
      let own = immediate32_of op (used (k.place x) 5) (used (k.place y) 5) z in
      let two = Op32 op (used (k.place x) 5) (used (k.place y) 5) (used_right k.place z) in
      needed_bound x (3 * home_reach k.room + 2) (operator_block k.place k.base (k.place x) y z own two)
      (λ e. operator_reach k.room k.place k.base (k.place x) y z own two (hx e) (hy e) (hz e) short)

  pub load_bound : (op : LoadOp) (x y o : ℕ) → IsPlaced x → IsPlaced y
      → length (block m p plans f pc (flat.Load op x y o)) ≤ 2 * home_reach (keeping p plans f).room + 1
  unfolding block
  load_bound op x y o hx hy =
      let k = keeping p plans f in
      let a = fetch_reach k.room (k.place y) k.base 5 hy in
      let b = keep_reach k.room (k.place x) k.base 5 hx in
      let c = length-append (fetch (k.place y) k.base 5)
      (Load op (used (k.place x) 5) (used (k.place y) 5) (o % 2 ^ 12) ∷ keep (k.place x) k.base 5) in
      omega arith

  pub store_bound : (op : StoreOp) (y o x : ℕ) → IsPlaced y → IsPlaced x
      → length (block m p plans f pc (flat.Store op y o x)) ≤ 2 * home_reach (keeping p plans f).room + 2
  unfolding block
  store_bound op y o x hy hx =
      let k = keeping p plans f in
      let a = operands_reach k.room k.place k.base y (right.Register x) hy hx tt in
      let c = length-append (operands k.place k.base y (right.Register x))
      (Store op (used (k.place y) 5) (used (k.place x) 6) (o % 2 ^ 12) ∷ []) in
      omega arith

  pub branch_bound : (op : BranchOp) (y : ℕ) (z : RightOperand) (past : ℕ) → IsPlaced y → RightIsPlaced z
      → RightIsShort z
      → length (block m p plans f pc (flat.Branch op y z past)) ≤ 2 * home_reach (keeping p plans f).room + 1
  unfolding block
  branch_bound op y z past hy hz short =
      let k = keeping p plans f in operands_reach k.room k.place k.base y z hy hz short

  pub charged_bound : (x : ℕ) → (IsNeeded x → IsPlaced x) → charged_from m p f < 2 ^ 31 - 2 ^ 11
      → length (block m p plans f pc (flat.Charged x)) ≤ home_reach (keeping p plans f).room + 4
  unfolding block
  charged_bound x hx small =
      let k = keeping p plans f in
      let a = short_constant_length 6 (charged_from m p f) (inl small) in
      let half = Op Sub 5 2 6 ∷ ShiftImm Srli (used (k.place x) 5) 5 1 ∷ keep (k.place x) k.base 5 in
      needed_bound x (home_reach k.room + 4) (constant 6 (charged_from m p f) ++ half)
      (λ e. let b = keep_reach k.room (k.place x) k.base 5 (hx e) in
      let c = length-append (constant 6 (charged_from m p f)) half in
      omega arith)

  pub get_bound : (x : ℕ) → IsPlaced x
      → length (block m p plans f pc (flat.Get x)) ≤ home_reach (keeping p plans f).room + 9
  unfolding block
  get_bound x hx = let k = keeping p plans f in let b = keep_reach k.room (k.place x) k.base 5 hx in omega arith

  pub put_bound : (x : ℕ) → IsPlaced x
      → length (block m p plans f pc (flat.Put x)) ≤ home_reach (keeping p plans f).room + 6
  unfolding block
  put_bound x hx =
      let k = keeping p plans f in
      let a = fetch_reach k.room (k.place x) k.base 5 hx in
      let c = length-append (fetch (k.place x) k.base 5) (Store Sb 3 (used (k.place x) 5) 0 ∷ asks 64 1 1) in
      omega arith

  pub exit_bound : (x : ℕ) → IsPlaced x
      → length (block m p plans f pc (flat.Exit x)) ≤ home_reach (keeping p plans f).room + 3
  unfolding block
  exit_bound x hx =
      let k = keeping p plans f in
      let a = fetch_reach k.room (k.place x) k.base 5 hx in
      let c = length-append (fetch (k.place x) k.base 5)
      (OpImm Addi 10 (used (k.place x) 5) 0 ∷ OpImm Addi 17 0 93 ∷ Ecall ∷ []) in
      omega arith

  pub turn_bound : length (block m p plans f pc flat.Turn) ≤ 1
  unfolding block
  turn_bound = omega arith
