-- Every instruction that stands for flat code fits its fields.
use Rattle.std.proofs.Common.{ℕ, zero, suc, ◌+◌, ◌-◌, ◌*◌, ◌/◌, ◌%◌, ◌^◌, ◌<◌, List, [], ◌∷◌, ◌++◌, length}
use Rattle.std.proofs.Common.{Bool, true, false, Option, Some, None, arith}
use Rattle.std.specs.Prelude.{◌==◌, nat_lt, nat_le, not, if◌then◌else◌}
use Rattle.addr_map.specs.Places.{MapSizes}
use Rattle.words.specs.TwosComplement.{low_bits, negated}
use Rattle.sb_base.specs.declared.ending.Ending.{Ending}
use Rattle.sb_base.specs.declared.ending.Ending.TheVariants as ending
use Rattle.sb_base.specs.Endings.{code_of}
use Rattle.rv_isa.specs.declared.instruction.ImmOp.{ImmOp}
use Rattle.rv_isa.specs.declared.instruction.ImmOp.TheVariants.{Addi, Slti, Sltiu, Xori, Ori, Andi}
use Rattle.rv_isa.specs.declared.instruction.ShiftOp.{ShiftOp}
use Rattle.rv_isa.specs.declared.instruction.ShiftOp.TheVariants.{Slli, Srli, Srai}
use Rattle.rv_isa.specs.declared.instruction.ShiftOp32.{ShiftOp32}
use Rattle.rv_isa.specs.declared.instruction.ShiftOp32.TheVariants.{Slliw, Srliw, Sraiw}
use Rattle.rv_isa.specs.declared.instruction.RegOp.{RegOp}
use Rattle.rv_isa.specs.declared.instruction.RegOp.TheVariants.{Add, Sub, Sll, Slt, Sltu, Xor, Srl, Sra, Or, And}
use Rattle.rv_isa.specs.declared.instruction.RegOp32.{RegOp32}
use Rattle.rv_isa.specs.declared.instruction.RegOp32.TheVariants.{Addw, Subw, Sllw, Srlw, Sraw}
use Rattle.rv_isa.specs.declared.instruction.Instr.{Instr}
use Rattle.rv_isa.specs.declared.instruction.Instr.TheVariants.{OpImm, ShiftImm, Addiw, ShiftImm32, Op, Op32}
use Rattle.rv_isa.specs.Table.{IsOfTable}
use Rattle.flat_code.specs.declared.instruction.RightOperand.{RightOperand}
use Rattle.flat_code.specs.declared.instruction.RightOperand.TheVariants as right
use Rattle.flat_code.specs.declared.instruction.FlatInstruction.{FlatInstruction}
use Rattle.flat_code.specs.declared.instruction.FlatInstruction.TheVariants as flat
use Rattle.flat_code.specs.declared.function.FlatFunction.{FlatFunction}
use Rattle.flat_code.specs.declared.function.FlatProgram.{FlatProgram}
use Rattle.flat_code.specs.Calls.{function_in}
use Rattle.flat_code.specs.Meaning.{results_of}
use Rattle.reg_plan.specs.declared.plan.Place.{Place}
use Rattle.reg_plan.specs.declared.plan.Place.TheVariants as place
use Rattle.reg_plan.specs.declared.plan.FunctionPlan.{FunctionPlan}
use Rattle.machine_laws.specs.declared.location.Location.{Location}
use Rattle.machine_laws.specs.declared.location.Location.TheVariants.{Register, Frame}
use Rattle.machine_laws.specs.Blocks.Places.{location, location_at}
use Rattle.machine_laws.specs.Blocks.Blocks.{wide, digits, constant, load_at, store_at, used, fetch, keep, used_right}
use Rattle.machine_laws.specs.Blocks.Immediates.{is_immediate, with_immediate, with_shift, with_immediate32}
use Rattle.machine_laws.specs.Blocks.Immediates.{with_shift32}
use Rattle.machine_laws.specs.Blocks.Immediates.{immediate, immediate32, immediate_of, immediate32_of}
use Rattle.machine_laws.specs.Blocks.Blocks.{fetch_right, operator_block, is_same}
use Rattle.machine_laws.specs.Blocks.Blocks.{operands, asks, received_block, local_block}
use Rattle.machine_laws.specs.Blocks.Tails.{what_of, text_before, text_bytes, line_text, written, ended, tail_block}
use Rattle.machine_laws.specs.Blocks.Tails.{reported, tails_of, tails, tails_before, jump_block, end_block}
use Rattle.machine_laws.specs.Calls.Table.{tails_address}
use Rattle.machine_laws.specs.Calls.Calls.{Keeping, give, take, save_one, restore_one, save, restore, advance, retreat}
use Rattle.machine_laws.specs.Calls.Calls.{call_block, entry_block, return_block}
use Rattle.machine_laws.specs.Following.Code.{keeping_of, keeping, CallShape, wanted, call_part, back_part}
use Rattle.machine_laws.specs.Following.Code.{charged_from, block}

abbrev pub AllOfTable : List Instr → Type 0
AllOfTable [] = Unit {0}
AllOfTable (i ∷ is) = IsOfTable i × AllOfTable is

both : (is js : List Instr) → AllOfTable is → AllOfTable js → AllOfTable (is ++ js)
both [] js h k = k
both (i ∷ is) js h k = (h.0, both is js h.1 k)

choice : (b : Bool) (is js : List Instr) → AllOfTable is → AllOfTable js → AllOfTable (if b then is else js)
choice true is js h k = h
choice false is js h k = k

-- a place whose register fits a field
abbrev pub IsField : Location → Type 0
IsField (Register r) = r < 32
IsField (Frame o) = Unit {0}

used_fits : (x : Location) (t : ℕ) → IsField x → t < 32 → used x t < 32
used_fits (Register r) t h lt = h
used_fits (Frame o) t h lt = lt

wide_fits : (rd n : ℕ) → rd < 32 → AllOfTable (wide rd n)
wide_fits rd n h = ((omega arith, omega arith), ((omega arith, omega arith, omega arith), tt))

digits_fit : (k rd n : ℕ) → rd < 32 → AllOfTable (digits k rd n)
unfolding digits
digits_fit zero rd n h = ((omega arith, omega arith, omega arith), tt)
digits_fit (suc k) rd n h = choice (nat_lt n (2 ^ 11)) _ _ ((omega arith, omega arith, omega arith), tt)
    (both (digits k rd (n / 2 ^ 11)) _ (digits_fit k rd (n / 2 ^ 11) h)
    ((omega arith, omega arith, omega arith), ((omega arith, omega arith, omega arith), tt)))

pub constant_fits : (rd n : ℕ) → rd < 32 → AllOfTable (constant rd n)
unfolding constant
constant_fits rd n h = choice (nat_lt n (2 ^ 11)) _ _ ((omega arith, omega arith, omega arith), tt)
    (choice (nat_le (2 ^ 64 - 2 ^ 11) n) _ _ ((omega arith, omega arith, omega arith), tt)
    (choice (nat_lt n (2 ^ 31 - 2 ^ 11)) _ _ (wide_fits rd n h)
    (choice (nat_le (2 ^ 64 - 2 ^ 31) n) _ _ (wide_fits rd n h) (digits_fit 5 rd n h))))

load_fits : (rd base o : ℕ) → rd < 32 → base < 32 → AllOfTable (load_at rd base o)
unfolding load_at
load_fits rd base o h b = choice (nat_lt o (2 ^ 11)) _ _ ((omega arith, omega arith, omega arith), tt) (
  (omega arith, omega arith),
  (
    (omega arith, omega arith, omega arith),
    ((omega arith, omega arith, omega arith), tt),
  ),
)

store_fits : (from base o : ℕ) → from < 32 → base < 32 → AllOfTable (store_at from base o)
unfolding store_at
store_fits from base o h b = choice (nat_lt o (2 ^ 11)) _ _ ((omega arith, omega arith, omega arith), tt) (
  (omega arith, omega arith),
  (
    (omega arith, omega arith, omega arith),
    ((omega arith, omega arith, omega arith), tt),
  ),
)

fetch_fits : (x : Location) (base t : ℕ) → base < 32 → t < 32 → AllOfTable (fetch x base t)
fetch_fits (Register r) base t b h = tt
fetch_fits (Frame o) base t b h = load_fits t base o h b

keep_fits : (x : Location) (base t : ℕ) → base < 32 → t < 32 → AllOfTable (keep x base t)
keep_fits (Register r) base t b h = tt
keep_fits (Frame o) base t b h = store_fits t base o h b

fetch_right_fits : (places : ℕ → Location) (base : ℕ) (z : RightOperand) → base < 32
    → AllOfTable (fetch_right places base z)
fetch_right_fits places base (right.Register z) b = fetch_fits (places z) base 6 b (omega arith)
fetch_right_fits places base (right.Number n) b =
    choice (n == 0) [] (constant 6 (low_bits 64 n)) tt (constant_fits 6 (low_bits 64 n) (omega arith))

used_right_fits : (places : ℕ → Location) (z : RightOperand) → ((y : ℕ) → IsField (places y))
    → used_right places z < 32
used_right_fits places (right.Register z) h = used_fits (places z) 6 (h z) (omega arith)
used_right_fits places (right.Number n) h = by (n == 0)
  where
    by : (b : Bool) → (if b then 0 else 6) < 32
    by true = omega arith
    by false = omega arith

operands_fit : (places : ℕ → Location) (base y : ℕ) (z : RightOperand) → base < 32
    → AllOfTable (operands places base y z)
operands_fit places base y z b = both (fetch (places y) base 5) (fetch_right places base z)
    (fetch_fits (places y) base 5 b (omega arith)) (fetch_right_fits places base z b)

-- an instruction that has a number in itself, where there is one
abbrev FitsIfSome : Option Instr → Type 0
FitsIfSome None = Unit {0}
FitsIfSome (Some i) = IsOfTable i

some_fits : (b : Bool) (i : Instr) → IsOfTable i → FitsIfSome (if b then Some i else None)
some_fits true i h = h
some_fits false i h = tt

with_immediate_fits : (op : ImmOp) (rd rs1 n : ℕ) → rd < 32 → rs1 < 32 → FitsIfSome (with_immediate op rd rs1 n)
with_immediate_fits op rd rs1 n h k =
    some_fits (is_immediate n) (OpImm op rd rs1 (n % 2 ^ 12)) (omega arith, omega arith, omega arith)

with_shift_fits : (op : ShiftOp) (rd rs1 n : ℕ) → rd < 32 → rs1 < 32 → FitsIfSome (with_shift op rd rs1 n)
with_shift_fits op rd rs1 n h k =
    some_fits (nat_lt n 64) (ShiftImm op rd rs1 (n % 2 ^ 6)) (omega arith, omega arith, omega arith)

with_immediate32_fits : (rd rs1 n : ℕ) → rd < 32 → rs1 < 32 → FitsIfSome (with_immediate32 rd rs1 n)
with_immediate32_fits rd rs1 n h k =
    some_fits (is_immediate n) (Addiw rd rs1 (n % 2 ^ 12)) (omega arith, omega arith, omega arith)

with_shift32_fits : (op : ShiftOp32) (rd rs1 n : ℕ) → rd < 32 → rs1 < 32 → FitsIfSome (with_shift32 op rd rs1 n)
with_shift32_fits op rd rs1 n h k =
    some_fits (nat_lt n 32) (ShiftImm32 op rd rs1 (n % 2 ^ 5)) (omega arith, omega arith, omega arith)

immediate_fits : (op : RegOp) (rd rs1 : ℕ) (z : RightOperand) → rd < 32 → rs1 < 32
    → FitsIfSome (immediate_of op rd rs1 z)
unfolding immediate
immediate_fits op rd rs1 (right.Register z) h k = tt
immediate_fits Add rd rs1 (right.Number n) h k = with_immediate_fits Addi rd rs1 (low_bits 64 n) h k
immediate_fits Sub rd rs1 (right.Number n) h k = with_immediate_fits Addi rd rs1 (negated 64 (low_bits 64 n)) h k
immediate_fits Slt rd rs1 (right.Number n) h k = with_immediate_fits Slti rd rs1 (low_bits 64 n) h k
immediate_fits Sltu rd rs1 (right.Number n) h k = with_immediate_fits Sltiu rd rs1 (low_bits 64 n) h k
immediate_fits Xor rd rs1 (right.Number n) h k = with_immediate_fits Xori rd rs1 (low_bits 64 n) h k
immediate_fits Or rd rs1 (right.Number n) h k = with_immediate_fits Ori rd rs1 (low_bits 64 n) h k
immediate_fits And rd rs1 (right.Number n) h k = with_immediate_fits Andi rd rs1 (low_bits 64 n) h k
immediate_fits Sll rd rs1 (right.Number n) h k = with_shift_fits Slli rd rs1 (low_bits 64 n) h k
immediate_fits Srl rd rs1 (right.Number n) h k = with_shift_fits Srli rd rs1 (low_bits 64 n) h k
immediate_fits Sra rd rs1 (right.Number n) h k = with_shift_fits Srai rd rs1 (low_bits 64 n) h k
immediate_fits op rd rs1 (right.Number n) h k = tt

immediate32_fits : (op : RegOp32) (rd rs1 : ℕ) (z : RightOperand) → rd < 32 → rs1 < 32
    → FitsIfSome (immediate32_of op rd rs1 z)
unfolding immediate32
immediate32_fits op rd rs1 (right.Register z) h k = tt
immediate32_fits Addw rd rs1 (right.Number n) h k = with_immediate32_fits rd rs1 (low_bits 64 n) h k
immediate32_fits Subw rd rs1 (right.Number n) h k = with_immediate32_fits rd rs1 (negated 64 (low_bits 64 n)) h k
immediate32_fits Sllw rd rs1 (right.Number n) h k = with_shift32_fits Slliw rd rs1 (low_bits 64 n) h k
immediate32_fits Srlw rd rs1 (right.Number n) h k = with_shift32_fits Srliw rd rs1 (low_bits 64 n) h k
immediate32_fits Sraw rd rs1 (right.Number n) h k = with_shift32_fits Sraiw rd rs1 (low_bits 64 n) h k
immediate32_fits op rd rs1 (right.Number n) h k = tt

operator_fits : (places : ℕ → Location) (base : ℕ) (x : Location) (y : ℕ) (z : RightOperand) (short : Option Instr)
    (plain : Instr) → base < 32 → FitsIfSome short → IsOfTable plain
    → AllOfTable (operator_block places base x y z short plain)
operator_fits places base x y z None plain b s h = both (operands places base y z) (plain ∷ keep x base 5)
    (operands_fit places base y z b) (h, keep_fits x base 5 b (omega arith))
operator_fits places base x y z (Some i) plain b s h = both (fetch (places y) base 5) (i ∷ keep x base 5)
    (fetch_fits (places y) base 5 b (omega arith)) (s, keep_fits x base 5 b (omega arith))

-- ---- endings and their tails

text_fits : (base k : ℕ) (bytes : List ℕ) → base < 32 → AllOfTable (text_bytes base k bytes)
text_fits base k [] b = tt
text_fits base k (x ∷ xs) b =
    ((omega arith, omega arith, omega arith), ((b, omega arith, omega arith), text_fits base (suc k) xs b))

tail_fits : (what : List ℕ) (status : ℕ) → AllOfTable (tail_block what status)
tail_fits what status =
    let text = text_before what in
    let end : AllOfTable (written ++ ended status) = (
      (omega arith, omega arith, omega arith),
      (
        (omega arith, omega arith, omega arith),
        (
          (omega arith, omega arith, omega arith),
          (
            (omega arith, omega arith, omega arith),
            (
              (omega arith, omega arith, omega arith),
              (
                tt,
                ((omega arith, omega arith, omega arith), ((omega arith, omega arith, omega arith), (tt, tt))),
              ),
            ),
          ),
        ),
      ),
    ) in
    let rest = both (line_text text) (written ++ ended status)
    ((omega arith, omega arith, omega arith), text_fits 28 0 text (omega arith)) end in (
      (omega arith, omega arith, omega arith),
      (
        (omega arith, omega arith, omega arith),
        (
          (omega arith, omega arith, omega arith),
          (
            (omega arith, omega arith, omega arith),
            (
              (omega arith, omega arith, omega arith),
              (
                (omega arith, omega arith, omega arith),
                (
                  (omega arith, omega arith, omega arith),
                  (
                    (omega arith, omega arith, omega arith),
                    ((omega arith, omega arith, omega arith, omega arith), rest),
                  ),
                ),
              ),
            ),
          ),
        ),
      ),
    )

tails_of_fit : (es : List Ending) → AllOfTable (tails_of es)
tails_of_fit [] = tt
tails_of_fit (e ∷ es) = both (tail_block (what_of e) (code_of e)) (tails_of es) (tail_fits (what_of e) (code_of e))
    (tails_of_fit es)

pub tails_fit : AllOfTable tails
unfolding tails
tails_fit = tails_of_fit reported

jump_fits : (line tail : ℕ) → AllOfTable (jump_block line tail)
jump_fits line tail = (
  (omega arith, omega arith),
  (
    (omega arith, omega arith, omega arith),
    ((omega arith, omega arith), ((omega arith, omega arith, omega arith), tt)),
  ),
)

end_fits : (a : ℕ) (e : Ending) → AllOfTable (end_block a e)
end_fits a (ending.Exit status) =
    ((omega arith, omega arith, omega arith), ((omega arith, omega arith, omega arith), (tt, tt)))
end_fits a (ending.Spatial line) = jump_fits line (a + 4 * length (tails_before reported 120))
end_fits a (ending.Temporal line) = jump_fits line (a + 4 * length (tails_before reported 121))
end_fits a (ending.BadCall line) = jump_fits line (a + 4 * length (tails_before reported 122))
end_fits a (ending.BadFree line) = jump_fits line (a + 4 * length (tails_before reported 123))
end_fits a (ending.Divide line) = jump_fits line (a + 4 * length (tails_before reported 124))
end_fits a (ending.Stack line) = jump_fits line (a + 4 * length (tails_before reported 125))
end_fits a (ending.Keys line) = jump_fits line (a + 4 * length (tails_before reported 126))
end_fits a (ending.Abort line) = jump_fits line (a + 4 * length (tails_before reported 134))

asks_fit : (number descriptor count : ℕ) → number < 2 ^ 12 → descriptor < 2 ^ 12 → count < 2 ^ 12
    → AllOfTable (asks number descriptor count)
asks_fit number descriptor count n d c = (
  (omega arith, omega arith, n),
  (
    (omega arith, omega arith, d),
    ((omega arith, omega arith, omega arith), ((omega arith, omega arith, c), (tt, tt))),
  ),
)

-- a list that stands or does not
one_fits : (b : Bool) (is : List Instr) → AllOfTable is → AllOfTable (if b then [] else is)
one_fits true is h = tt
one_fits false is h = h

local_fits : (places : ℕ → Location) (base begin : ℕ) (i : FlatInstruction) → base < 32
    → ((y : ℕ) → IsField (places y)) → AllOfTable (local_block places base begin i)
local_fits places base begin (flat.Constant x n) b h =
    both (constant (used (places x) 5) (low_bits 64 n)) (keep (places x) base 5)
    (constant_fits (used (places x) 5) (low_bits 64 n) (used_fits (places x) 5 (h x) (omega arith)))
    (keep_fits (places x) base 5 b (omega arith))
local_fits places base begin (flat.Move x y) b h =
    one_fits (is_same (places x) (places y)) _ (both (fetch (places y) base 5) _
    (fetch_fits (places y) base 5 b (omega arith)) (
      (used_fits (places x) 5 (h x) (omega arith), used_fits (places y) 5 (h y) (omega arith), omega arith),
      keep_fits (places x) base 5 b (omega arith),
    ))
local_fits places base begin (flat.Operate op x y z) b h =
    let rd = used_fits (places x) 5 (h x) (omega arith) in
    let rs1 = used_fits (places y) 5 (h y) (omega arith) in
    operator_fits places base (places x) y z (immediate_of op (used (places x) 5) (used (places y) 5) z)
    (Op op (used (places x) 5) (used (places y) 5) (used_right places z)) b
    (immediate_fits op (used (places x) 5) (used (places y) 5) z rd rs1) (rd, rs1, used_right_fits places z h)
local_fits places base begin (flat.Operate32 op x y z) b h =
    let rd = used_fits (places x) 5 (h x) (omega arith) in
    let rs1 = used_fits (places y) 5 (h y) (omega arith) in
    operator_fits places base (places x) y z (immediate32_of op (used (places x) 5) (used (places y) 5) z)
    (Op32 op (used (places x) 5) (used (places y) 5) (used_right places z)) b
    (immediate32_fits op (used (places x) 5) (used (places y) 5) z rd rs1) (rd, rs1, used_right_fits places z h)
local_fits places base begin (flat.Load op x y o) b h =
    both (fetch (places y) base 5) _ (fetch_fits (places y) base 5 b (omega arith)) (
      (used_fits (places x) 5 (h x) (omega arith), used_fits (places y) 5 (h y) (omega arith), omega arith),
      keep_fits (places x) base 5 b (omega arith),
    )
local_fits places base begin (flat.Store op y o x) b h =
    both (operands places base y (right.Register x)) _ (operands_fit places base y (right.Register x) b)
    ((used_fits (places y) 5 (h y) (omega arith), used_fits (places x) 6 (h x) (omega arith), omega arith), tt)
local_fits places base begin (flat.Branch op y z past) b h = operands_fit places base y z b
local_fits places base begin (flat.JumpForward past) b h = tt
local_fits places base begin (flat.JumpBack back) b h = tt
local_fits places base begin flat.Turn b h = ((omega arith, omega arith, omega arith), tt)
local_fits places base begin (flat.Call g first x) b h = tt
local_fits places base begin (flat.CallAddress y first n x r) b h = tt
local_fits places base begin (flat.Return y) b h = tt
local_fits places base begin (flat.Get x) b h =
    both (asks 63 0 1) (received_block (places x) base) (asks_fit 63 0 1 (omega arith) (omega arith) (omega arith)) (
      (omega arith, omega arith, omega arith),
      (
        (omega arith, omega arith, omega arith),
        (
          (omega arith, omega arith, omega arith),
          (
            (used_fits (places x) 5 (h x) (omega arith), omega arith, omega arith),
            keep_fits (places x) base 5 b (omega arith),
          ),
        ),
      ),
    )
local_fits places base begin (flat.Put x) b h =
    both (fetch (places x) base 5) _ (fetch_fits (places x) base 5 b (omega arith)) (
      (omega arith, used_fits (places x) 5 (h x) (omega arith), omega arith),
      asks_fit 64 1 1 (omega arith) (omega arith) (omega arith),
    )
local_fits places base begin (flat.Exit x) b h =
    both (fetch (places x) base 5) _ (fetch_fits (places x) base 5 b (omega arith)) (
      (omega arith, used_fits (places x) 5 (h x) (omega arith), omega arith),
      ((omega arith, omega arith, omega arith), (tt, tt)),
    )
local_fits places base begin (flat.End e) b h = tt
local_fits places base begin (flat.Charged x) b h =
    both (constant 6 begin) _ (constant_fits 6 begin (omega arith)) (
      (omega arith, omega arith, omega arith),
      (
        (used_fits (places x) 5 (h x) (omega arith), omega arith, omega arith),
        keep_fits (places x) base 5 b (omega arith),
      ),
    )

-- ---- calls and returns

pub record HasFields (k : Keeping) : Type 0 where
  pub base : k.base < 32
  pub places : (y : ℕ) → IsField (k.place y)

give_fits : (k : Keeping) (first n : ℕ) → HasFields k → AllOfTable (give k first n)
unfolding give
give_fits k first zero h = tt
give_fits k first (suc n) h =
    let x = k.place (first + n) in
    both (give k first n) (fetch x k.base 5 ++ store_at (used x 5) 3 (8 * n)) (give_fits k first n h)
    (both (fetch x k.base 5) (store_at (used x 5) 3 (8 * n)) (fetch_fits x k.base 5 h.base (omega arith))
    (store_fits (used x 5) 3 (8 * n) (used_fits x 5 (h.places (first + n)) (omega arith)) (omega arith)))

take_fits : (k : Keeping) (pc first n : ℕ) → HasFields k → AllOfTable (take k pc first n)
unfolding take
take_fits k pc first zero h = tt
take_fits k pc first (suc n) h =
    let x = k.place (first + n) in
    let here = load_at (used x 5) 3 (8 * n) ++ keep x k.base 5 in
    both (take k pc first n) (if k.live pc (first + n) then here else []) (take_fits k pc first n h)
    (choice (k.live pc (first + n)) here []
    (both (load_at (used x 5) 3 (8 * n)) (keep x k.base 5)
    (load_fits (used x 5) 3 (8 * n) (used_fits x 5 (h.places (first + n)) (omega arith)) (omega arith))
    (keep_fits x k.base 5 h.base (omega arith))) tt)

save_one_fits : (x : Location) (base home : ℕ) → base < 32 → IsField x → AllOfTable (save_one x base home)
save_one_fits (Register r) base home b h = store_fits r base home h b
save_one_fits (Frame o) base home b h = tt

restore_one_fits : (x : Location) (base home : ℕ) → base < 32 → IsField x → AllOfTable (restore_one x base home)
restore_one_fits (Register r) base home b h = load_fits r base home h b
restore_one_fits (Frame o) base home b h = tt

save_fits : (k : Keeping) (want : ℕ → Bool) (n : ℕ) → HasFields k → AllOfTable (save k want n)
unfolding save
save_fits k want zero h = tt
save_fits k want (suc n) h =
    let here = save_one (k.place n) k.base (k.home n) in
    both (save k want n) (if want n then here else []) (save_fits k want n h)
    (choice (want n) here [] (save_one_fits (k.place n) k.base (k.home n) h.base (h.places n)) tt)

restore_fits : (k : Keeping) (want : ℕ → Bool) (n : ℕ) → HasFields k → AllOfTable (restore k want n)
unfolding restore
restore_fits k want zero h = tt
restore_fits k want (suc n) h =
    let here = restore_one (k.place n) k.base (k.home n) in
    both (restore k want n) (if want n then here else []) (restore_fits k want n h)
    (choice (want n) here [] (restore_one_fits (k.place n) k.base (k.home n) h.base (h.places n)) tt)

advance_fits : (k : Keeping) → HasFields k → AllOfTable (advance k)
unfolding advance
advance_fits k h = let b = h.base in
    choice (nat_lt k.room (2 ^ 11)) _ _ ((omega arith, omega arith, omega arith), tt)
    (both (constant 6 k.room) _ (constant_fits 6 k.room (omega arith)) ((omega arith, omega arith, omega arith), tt))

retreat_fits : (k : Keeping) → HasFields k → AllOfTable (retreat k)
unfolding retreat
retreat_fits k h = let b = h.base in
    choice (nat_lt k.room (2 ^ 11)) _ _ ((omega arith, omega arith, omega arith), tt)
    (both (constant 6 k.room) _ (constant_fits 6 k.room (omega arith)) ((omega arith, omega arith, omega arith), tt))

shaped_fits : (k : Keeping) (pc : ℕ) (c : CallShape) → HasFields k → AllOfTable c.aim → c.target < 32
    → AllOfTable (call_part k pc c ++ back_part k pc c)
shaped_fits k pc c h aim target =
    let want = wanted k pc c.into c.results in
    both (call_part k pc c) (back_part k pc c)
    (both (call_block k want c.first c.count c.aim) _
    (both (save k want k.count) (give k c.first c.count ++ (c.aim ++ advance k)) (save_fits k want k.count h)
    (both (give k c.first c.count) (c.aim ++ advance k) (give_fits k c.first c.count h)
    (both c.aim (advance k) aim (advance_fits k h))))
    ((omega arith, target, omega arith), tt))
    (both (retreat k) (restore k want k.count ++ take k (pc + 1) c.into c.results) (retreat_fits k h)
    (both (restore k want k.count) (take k (pc + 1) c.into c.results) (restore_fits k want k.count h)
    (take_fits k (pc + 1) c.into c.results h)))

return_fits : (k : Keeping) (from n : ℕ) → HasFields k → AllOfTable (return_block k from n)
return_fits k from n h = both (give k from n) (load_at 1 k.base 0) (give_fits k from n h)
    (load_fits 1 k.base 0 (omega arith) h.base)

pub entry_fits : (k : Keeping) (n : ℕ) → HasFields k → AllOfTable (entry_block k n)
entry_fits k n h = both (store_at 1 k.base 0) (take k 0 0 n) (store_fits 1 k.base 0 (omega arith) h.base)
    (take_fits k 0 0 n h)

location_fits : (o : Option Place) (home : ℕ) → IsField (location_at o home)
location_fits None home = tt
location_fits (Some place.Home) home = tt
location_fits (Some (place.Register r)) home = omega arith

base_fits : (b : Bool) → (if b then 4 else 2) < 32
base_fits true = omega arith
base_fits false = omega arith

keeping_by : (o : Option FlatFunction) (q : Option FunctionPlan) → HasFields (keeping_of o q)
unfolding location
keeping_by None q = record { base = omega arith; places = λ y. tt }
keeping_by (Some f) None = record { base = base_fits f.is_runtime; places = λ y. tt }
keeping_by (Some f) (Some plan) = record { base = base_fits f.is_runtime; places = λ y. location_fits _ _ }

pub keeping_fits : (p : FlatProgram) (plans : List FunctionPlan) (f : ℕ) → HasFields (keeping p plans f)
unfolding keeping
keeping_fits p plans f = keeping_by _ _

pub block_fits : (m : MapSizes) (p : FlatProgram) (plans : List FunctionPlan) (f pc : ℕ) (i : FlatInstruction)
    → AllOfTable (block m p plans f pc i)
unfolding block
block_fits m p plans f pc (flat.Call g first x) =
    shaped_fits (keeping p plans f) pc _ (keeping_fits p plans f) (constant_fits 28 _ (omega arith)) (omega arith)
block_fits m p plans f pc (flat.CallAddress y first n x r) =
    let k = keeping p plans f in let h = keeping_fits p plans f in
    shaped_fits k pc _ h (fetch_fits (k.place y) k.base 28 h.base (omega arith))
    (used_fits (k.place y) 28 (h.places y) (omega arith))
block_fits m p plans f pc (flat.Return y) =
    let k = keeping p plans f in let h = keeping_fits p plans f in
    both (return_block k y (results_of (function_in p f))) _ (return_fits k y (results_of (function_in p f)) h)
    ((omega arith, omega arith, omega arith), tt)
block_fits m p plans f pc (flat.Constant x n) =
    let h = keeping_fits p plans f in
    one_fits (not ((keeping p plans f).live (pc + 1) x)) _
    (local_fits (keeping p plans f).place (keeping p plans f).base (charged_from m p f) (flat.Constant x n) h.base h.places)
block_fits m p plans f pc (flat.Move x y) =
    let h = keeping_fits p plans f in
    one_fits (not ((keeping p plans f).live (pc + 1) x)) _
    (local_fits (keeping p plans f).place (keeping p plans f).base (charged_from m p f) (flat.Move x y) h.base h.places)
block_fits m p plans f pc (flat.Operate op x y z) =
    let h = keeping_fits p plans f in
    one_fits (not ((keeping p plans f).live (pc + 1) x)) _
    (local_fits (keeping p plans f).place (keeping p plans f).base (charged_from m p f) (flat.Operate op x y z) h.base h.places)
block_fits m p plans f pc (flat.Operate32 op x y z) =
    let h = keeping_fits p plans f in
    one_fits (not ((keeping p plans f).live (pc + 1) x)) _
    (local_fits (keeping p plans f).place (keeping p plans f).base (charged_from m p f) (flat.Operate32 op x y z) h.base h.places)
block_fits m p plans f pc (flat.Load op x y o) =
    let h = keeping_fits p plans f in local_fits (keeping p plans f).place (keeping p plans f).base (charged_from m p f)
    (flat.Load op x y o) h.base h.places
block_fits m p plans f pc (flat.Store op y o x) =
    let h = keeping_fits p plans f in local_fits (keeping p plans f).place (keeping p plans f).base (charged_from m p f)
    (flat.Store op y o x) h.base h.places
block_fits m p plans f pc (flat.Branch op y z past) =
    let h = keeping_fits p plans f in local_fits (keeping p plans f).place (keeping p plans f).base (charged_from m p f)
    (flat.Branch op y z past) h.base h.places
block_fits m p plans f pc (flat.JumpForward past) =
    let h = keeping_fits p plans f in local_fits (keeping p plans f).place (keeping p plans f).base (charged_from m p f)
    (flat.JumpForward past) h.base h.places
block_fits m p plans f pc (flat.JumpBack back) =
    let h = keeping_fits p plans f in local_fits (keeping p plans f).place (keeping p plans f).base (charged_from m p f)
    (flat.JumpBack back) h.base h.places
block_fits m p plans f pc flat.Turn =
    let h = keeping_fits p plans f in local_fits (keeping p plans f).place (keeping p plans f).base (charged_from m p f)
    flat.Turn h.base h.places
block_fits m p plans f pc (flat.Get x) =
    let h = keeping_fits p plans f in local_fits (keeping p plans f).place (keeping p plans f).base (charged_from m p f)
    (flat.Get x) h.base h.places
block_fits m p plans f pc (flat.Put x) =
    let h = keeping_fits p plans f in local_fits (keeping p plans f).place (keeping p plans f).base (charged_from m p f)
    (flat.Put x) h.base h.places
block_fits m p plans f pc (flat.Exit x) =
    let h = keeping_fits p plans f in local_fits (keeping p plans f).place (keeping p plans f).base (charged_from m p f)
    (flat.Exit x) h.base h.places
block_fits m p plans f pc (flat.End e) = end_fits (tails_address p) e
block_fits m p plans f pc (flat.Charged x) =
    let h = keeping_fits p plans f in
    one_fits (not ((keeping p plans f).live (pc + 1) x)) _
    (local_fits (keeping p plans f).place (keeping p plans f).base (charged_from m p f) (flat.Charged x) h.base h.places)

pub used_field : (k : Keeping) (y : ℕ) → HasFields k → used (k.place y) 5 < 32
used_field k y h = used_fits (k.place y) 5 (h.places y) (omega arith)

pub used_right_field : (k : Keeping) (z : RightOperand) → HasFields k → used_right k.place z < 32
used_right_field k z h = used_right_fits k.place z h.places
