-- What the blocks of instructions that stay in their function do to the machine.
use Rattle.std.proofs.Common.{◌≡◌, ◌≢◌, ℕ, ◌+◌, ◌-◌, ◌*◌, ◌/◌, ◌^◌, ◌%◌, ◌<◌, ◌≤◌, inl, inr}
use Rattle.std.proofs.Common.{List, [], ◌∷◌, ◌++◌, length, Option, Some, None, Bool, true, false, refl, sym, ap, ◌∙◌}
use Rattle.std.proofs.Common.{subst, arith, length-append, append_assoc}
use Rattle.std.specs.Prelude.{◌==◌, if◌then◌else◌}
use Rattle.std.proofs.lemmas.Bool.{eqb-true, false≢true}
use Rattle.words.specs.TwosComplement.{low_bits}
use Rattle.behaviours.specs.Shown.{Access, Read, Write}
use Rattle.rv_isa.specs.declared.instruction.LoadOp.{LoadOp}
use Rattle.rv_isa.specs.declared.instruction.StoreOp.{StoreOp}
use Rattle.rv_isa.specs.declared.instruction.ImmOp.TheVariants.{Addi}
use Rattle.rv_isa.specs.declared.instruction.RegOp.{RegOp}
use Rattle.rv_isa.specs.declared.instruction.RegOp.TheVariants.{Sub}
use Rattle.rv_isa.specs.declared.instruction.RegOp32.{RegOp32}
use Rattle.rv_isa.specs.declared.instruction.Instr.{Instr}
use Rattle.rv_isa.specs.declared.instruction.ShiftOp.TheVariants.{Srli}
use Rattle.rv_isa.specs.declared.instruction.Instr.TheVariants.{Load, Store, OpImm, ShiftImm, Op, Op32}
use Rattle.rv_isa.specs.Word.{sext}
use Rattle.rv_isa.specs.Results.{wrap, low_word, imm_result, shift_result, reg_result, reg32_result}
use Rattle.rv_isa.specs.Results.{load_bytes, extended}
use Rattle.rv_isa.specs.Results.{store_bytes}
use Rattle.flat_code.specs.declared.instruction.RightOperand.{RightOperand}
use Rattle.flat_code.specs.declared.instruction.RightOperand.TheVariants as right
use Rattle.flat_code.specs.Memory.{Bytes, load, store}
use Rattle.flat_code.specs.State.{Values}
use Rattle.flat_code.specs.Meaning.{right_value}
use Rattle.machine_laws.specs.View.Segments.{IsOfData}
use Rattle.machine_laws.specs.View.Views.{View, gets, address_in, accesses_by, perform, performs, AllGoOn}
use Rattle.machine_laws.proofs.View.Leaving.{no_access}
use Rattle.machine_laws.specs.declared.location.Location.{Location}
use Rattle.machine_laws.specs.declared.location.Location.TheVariants.{Register, Frame}
use Rattle.machine_laws.specs.Blocks.Blocks.{constant, used, fetch, keep, used_right, fetch_right, move_block, operands}
use Rattle.machine_laws.specs.Blocks.Blocks.{is_same}
use Rattle.machine_laws.specs.Blocks.Blocks.{charged_block, operator_block, operate_block, operate32_block}
use Rattle.machine_laws.specs.Blocks.Immediates.{immediate, immediate_of, immediate32_of}
use Rattle.machine_laws.specs.Blocks.Effects.{RightIsIn, RightIsKept, IsIn, kept, IsNoScratch, Readies, Puts, HasFrame}
use Rattle.machine_laws.proofs.Blocks.Pieces.{performs_append, go_append, constant_gives, gives_ready, ready_then}
use Rattle.machine_laws.proofs.Blocks.Pieces.{ready_kept, ready_frame, fetches, fetches_ready, used_no_six, one_more}
use Rattle.machine_laws.proofs.Blocks.Pieces.{gives_computes, keeps, small_sext, low_apart, ready_none}
use Rattle.machine_laws.proofs.Blocks.Immediates.{Makes, MakesIfSome, gets_value, immediate_of_makes}
use Rattle.machine_laws.proofs.Blocks.Immediates.{immediate32_of_makes}

pub used_nonzero : (room : ℕ) (x : Location) → IsIn room x → used x 5 ≢ 0
used_nonzero room (Register r) h e = omega (arith, h.low)
used_nonzero room (Frame k) h e = omega arith

used_six : (room : ℕ) (x : Location) → IsIn room x → used x 6 ≢ 7
used_six room (Register r) h e = omega (arith, h.low)
used_six room (Frame k) h e = omega arith

-- on registers a number in the instruction itself takes no other
pub single_operator : (op : RegOp) (place : ℕ → Location) (base y n l r : ℕ) (i : Instr) → place y ≡ Register l
    → immediate op r l (low_bits 64 n) ≡ Some i
    → operate_block place base op (Register r) y (right.Number n) ≡ i ∷ []
single_operator op place base y n l r i e d = rw (e, d) (ap (λ q. fetch q base 5 ++ i ∷ []) e)

module _ (o s base fp room : ℕ) (place : ℕ → Location) where
  -- a right operand in its register
  pub record FetchesRight (is : List Instr) (v : View) (rd n : ℕ) : Type 0 where
    pub ready : Readies o s is v
    pub five : (r : ℕ) → r ≢ 6 → (performs is v).registers r ≡ v.registers r
    pub value : (performs is v).registers rd ≡ n

  right_fetches : (z : RightOperand) (v : View) (values : Values) → v.registers 0 ≡ 0 → HasFrame s base fp room v
      → RightIsIn room place z → RightIsKept fp place v z values
      → FetchesRight (fetch_right place base z) v (used_right place z) (right_value z values)
  right_fetches (right.Register z) v values nought f i k =
      let g = fetches o s (place z) base 6 fp room v (omega arith) f i in
      record {
        ready = fetches_ready o s (fetch (place z) base 6) v (place z) 6 (kept fp v (place z)) (inr (inl refl)) g;
        five = g.others;
        value = g.value ∙ k;
      }
  right_fetches (right.Number n) v values nought f i k = by (n == 0) refl
    where
      by : (b : Bool) → (n == 0) ≡ b
          → FetchesRight (if b then [] else constant 6 (low_bits 64 n)) v (if b then 0 else 6) (low_bits 64 n)
      by true e = record {
        ready = ready_none o s v;
        five = λ r a. refl;
        value = nought ∙ sym (ap (low_bits 64) (eqb-true n 0 e));
      }
      by false e =
          let g = constant_gives o s 6 (low_bits 64 n) v (λ q. omega arith) nought (omega arith) in
          record {
            ready = gives_ready o s (constant 6 (low_bits 64 n)) v 6 (low_bits 64 n) (inr (inl refl)) g;
            five = g.others;
            value = g.value;
          }

  -- both operands in their registers
  pub record HasOperands (y : ℕ) (z : RightOperand) (v : View) (values : Values) : Type 0 where
    pub ready : Readies o s (operands place base y z) v
    pub left : (performs (operands place base y z) v).registers (used (place y) 5) ≡ values y
    pub right_is : (performs (operands place base y z) v).registers (used_right place z) ≡ right_value z values

  right_still : (is : List Instr) (v : View) (z : RightOperand) (values : Values) → Readies o s is v
      → RightIsIn room place z → RightIsKept fp place v z values → RightIsKept fp place (performs is v) z values
  right_still is v (right.Register z) values g i k = ready_kept o s is v fp room (place z) g i ∙ k
  right_still is v (right.Number n) values g i k = tt

  pub has_operands : (y : ℕ) (z : RightOperand) (v : View) (values : Values) → v.registers 0 ≡ 0
      → HasFrame s base fp room v → IsIn room (place y) → RightIsIn room place z → kept fp v (place y) ≡ values y
      → RightIsKept fp place v z values → HasOperands y z v values
  has_operands y z v values nought f iy iz ky kz =
      let is = fetch (place y) base 5 in
      let js = fetch_right place base z in
      let g = fetches o s (place y) base 5 fp room v (omega arith) f iy in
      let r = fetches_ready o s is v (place y) 5 (kept fp v (place y)) (inl refl) g in
      let w = performs is v in
      let h = right_fetches z w values (r.others 0 (low_apart 0 (omega arith)) ∙ nought)
      (ready_frame o s is v base fp room r f) iz (right_still is v z values r iz kz) in
      let a = performs_append is js v in
      record {
        ready = ready_then o s is js v r h.ready;
        left = ap (λ u. u.registers (used (place y) 5)) a ∙ h.five (used (place y) 5) (used_no_six room (place y) iy)
            ∙ g.value ∙ ky;
        right_is = ap (λ u. u.registers (used_right place z)) a ∙ h.value;
      }

  -- an instruction that makes a number of what stands ready, and its result's place
  pub result_puts : (is : List Instr) (i : Instr) (v : View) (x : Location) (n : ℕ) (accesses : List Access)
      → Readies o s is v → HasFrame s base fp room v → IsIn room x
      → perform i (performs is v) ≡ record (gets (performs is v) (used x 5) n) { accesses = accesses }
      → AllGoOn o s (i ∷ []) (performs is v) → n < 2 ^ 64
      → Puts o s fp room (is ++ (i ∷ keep x base 5)) v x n accesses
  result_puts is i v x n accesses r f h e go small = subst (λ l. Puts o s fp room l v x n accesses)
      (append_assoc is (i ∷ []) (keep x base 5))
      (keeps o s (is ++ i ∷ []) v base fp room x n accesses
      (one_more o s is i v (used x 5) n accesses r go.0 e (used_nonzero room x h)) small f h)

  -- no access, and these are the values
  gets_is : (w : View) (rd n n' : ℕ) (accesses : List Access) → n ≡ n' → w.accesses ≡ accesses
      → record (gets w rd n) { accesses = w.accesses ++ accesses_by w.pc None }
      ≡ record (gets w rd n') { accesses = accesses }
  gets_is w rd n n' accesses e t = ap (λ q. record (gets w rd q) { accesses = w.accesses ++ accesses_by w.pc None }) e
      ∙ ap (λ l. record (gets w rd n') { accesses = l }) (no_access w.accesses w.pc ∙ t)

  pub constant_puts : (x : Location) (n : ℕ) (v : View) → v.registers 0 ≡ 0 → n < 2 ^ 64 → HasFrame s base fp room v
      → IsIn room x → Puts o s fp room (constant (used x 5) n ++ keep x base 5) v x n v.accesses
  constant_puts x n v nought small f h = keeps o s (constant (used x 5) n) v base fp room x n v.accesses
      (gives_computes o s (constant (used x 5) n) v (used x 5) n
      (constant_gives o s (used x 5) n v (used_nonzero room x h) nought small)) small f h

  -- where both places are one, the value is there
  same_place : (x y : Location) → is_same x y ≡ true → x ≡ y
  same_place (Register a) (Register b) e = ap Register (eqb-true a b e)
  same_place (Register a) (Frame b) e = absurd (false≢true e)
  same_place (Frame a) (Register b) e = absurd (false≢true e)
  same_place (Frame a) (Frame b) e = ap Frame (eqb-true a b e)

  nothing_puts : (x y : Location) (n : ℕ) (v : View) → is_same x y ≡ true → kept fp v y ≡ n
      → Puts o s fp room [] v x n v.accesses
  nothing_puts x y n v e k = record {
    go = tt;
    pc = omega arith;
    value = ap (kept fp v) (same_place x y e) ∙ k;
    others = λ z i apart. refl;
    low = λ r lt. refl;
    memory = λ b beside. refl;
    accesses_are = refl;
  }

  copy_puts : (x y : Location) (n : ℕ) (v : View) → n < 2 ^ 64 → HasFrame s base fp room v → IsIn room x
      → IsIn room y → kept fp v y ≡ n
      → Puts o s fp room (fetch y base 5 ++ (OpImm Addi (used x 5) (used y 5) 0 ∷ keep x base 5)) v x n v.accesses
  unfolding imm_result
  copy_puts x y n v small f hx hy k =
      let is = fetch y base 5 in
      let g = fetches o s y base 5 fp room v (omega arith) f hy in
      let w = performs is v in
      result_puts is (OpImm Addi (used x 5) (used y 5) 0) v x n v.accesses
      (fetches_ready o s is v y 5 (kept fp v y) (inl refl) g) f hx
      (gets_is w (used x 5) (wrap (w.registers (used y 5) + sext 12 0)) n v.accesses
      (ap (λ q. wrap (q + 0)) (g.value ∙ k) ∙ omega arith) g.accesses) (tt, tt) small

  pub move_puts : (x y : Location) (n : ℕ) (v : View) → n < 2 ^ 64 → HasFrame s base fp room v → IsIn room x
      → IsIn room y → kept fp v y ≡ n → Puts o s fp room (move_block x y base) v x n v.accesses
  move_puts x y n v small f hx hy k = by (is_same x y) refl
    where
      by : (b : Bool) → is_same x y ≡ b
          → Puts o s fp room
          (if b then [] else fetch y base 5 ++ (OpImm Addi (used x 5) (used y 5) 0 ∷ keep x base 5)) v x n v.accesses
      by true e = nothing_puts x y n v e k
      by false e = copy_puts x y n v small f hx hy k

  -- an operator: by its instruction with a number, where it has one, and else by that on two registers
  operator_puts : (short : Option Instr) (plain : Instr) (x : Location) (y : ℕ) (z : RightOperand) (n : ℕ) (v : View)
      (values : Values) → v.registers 0 ≡ 0 → HasFrame s base fp room v → IsIn room x → IsIn room (place y)
      → RightIsIn room place z → kept fp v (place y) ≡ values y → RightIsKept fp place v z values
      → ((w : View) → w.registers (used (place y) 5) ≡ values y → MakesIfSome o s short w (used x 5) n)
      → ((w : View) → w.registers (used (place y) 5) ≡ values y
      → w.registers (used_right place z) ≡ right_value z values → Makes o s plain w (used x 5) n)
      → n < 2 ^ 64 → Puts o s fp room (operator_block place base x y z short plain) v x n v.accesses
  operator_puts None plain x y z n v values nought f hx hy hz ky kz short long small =
      let is = operands place base y z in
      let g = has_operands y z v values nought f hy hz ky kz in
      let w = performs is v in
      let k = long w g.left g.right_is in
      result_puts is plain v x n v.accesses g.ready f hx
      (k.is ∙ gets_is w (used x 5) n n v.accesses refl g.ready.accesses) (k.go, tt) small
  operator_puts (Some i) plain x y z n v values nought f hx hy hz ky kz short long small =
      let is = fetch (place y) base 5 in
      let g = fetches o s (place y) base 5 fp room v (omega arith) f hy in
      let w = performs is v in
      let k = short w (g.value ∙ ky) in
      result_puts is i v x n v.accesses (fetches_ready o s is v (place y) 5 (kept fp v (place y)) (inl refl) g) f hx
      (k.is ∙ gets_is w (used x 5) n n v.accesses refl g.accesses) (k.go, tt) small

  pub operate_puts : (op : RegOp) (x : Location) (y : ℕ) (z : RightOperand) (v : View) (values : Values)
      → v.registers 0 ≡ 0 → HasFrame s base fp room v → IsIn room x → IsIn room (place y) → RightIsIn room place z
      → kept fp v (place y) ≡ values y → RightIsKept fp place v z values
      → reg_result op (values y) (right_value z values) < 2 ^ 64
      → Puts o s fp room (operate_block place base op x y z) v x (reg_result op (values y) (right_value z values))
      v.accesses
  operate_puts op x y z v values nought f hx hy hz ky kz small =
      let n = reg_result op (values y) (right_value z values) in
      operator_puts (immediate_of op (used x 5) (used (place y) 5) z)
      (Op op (used x 5) (used (place y) 5) (used_right place z)) x y z n v values nought f hx hy hz ky kz
      (λ w e. immediate_of_makes o s op (used x 5) (used (place y) 5) z values w (values y) e)
      (λ w e d. record {
        go = tt;
        is = gets_value w (used x 5) (reg_result op (w.registers (used (place y) 5)) (w.registers (used_right place z)))
            n (ap (λ q. reg_result op q (w.registers (used_right place z))) e ∙ ap (reg_result op (values y)) d);
      }) small

  pub operate32_puts : (op : RegOp32) (x : Location) (y : ℕ) (z : RightOperand) (v : View) (values : Values)
      → v.registers 0 ≡ 0 → HasFrame s base fp room v → IsIn room x → IsIn room (place y) → RightIsIn room place z
      → kept fp v (place y) ≡ values y → RightIsKept fp place v z values
      → reg32_result op (low_word (values y)) (low_word (right_value z values)) < 2 ^ 64
      → Puts o s fp room (operate32_block place base op x y z) v x
      (reg32_result op (low_word (values y)) (low_word (right_value z values))) v.accesses
  operate32_puts op x y z v values nought f hx hy hz ky kz small =
      let n = reg32_result op (low_word (values y)) (low_word (right_value z values)) in
      operator_puts (immediate32_of op (used x 5) (used (place y) 5) z)
      (Op32 op (used x 5) (used (place y) 5) (used_right place z)) x y z n v values nought f hx hy hz ky kz
      (λ w e. immediate32_of_makes o s op (used x 5) (used (place y) 5) z values w (values y) e)
      (λ w e d. record {
        go = tt;
        is = gets_value w (used x 5)
            (reg32_result op (low_word (w.registers (used (place y) 5))) (low_word (w.registers (used_right place z))))
            n (ap (λ q. reg32_result op (low_word q) (low_word (w.registers (used_right place z)))) e
            ∙ ap (λ q. reg32_result op (low_word (values y)) (low_word q)) d);
      }) small

  -- the address of an access
  accesses_at : (w : View) (r a k : ℕ) → w.registers r ≡ a → k < 2 ^ 11
      → address_in w r (k % 2 ^ 12) ≡ wrap (a + k)
  accesses_at w r a k e l =
      let same : k % 2 ^ 12 ≡ k = omega (arith, l) in
      ap (λ q. wrap (q + sext 12 (k % 2 ^ 12))) e ∙ ap (λ q. wrap (a + sext 12 q)) same
      ∙ ap (λ q. wrap (a + q)) (small_sext k l)

  pub load_puts : (op : LoadOp) (x : Location) (y k : ℕ) (v : View) (values : Values) (pc' : ℕ) → k < 2 ^ 11
      → HasFrame s base fp room v → IsIn room x → IsIn room (place y) → kept fp v (place y) ≡ values y
      → IsOfData o s (wrap (values y + k)) (load_bytes op)
      → extended op (load (load_bytes op) v.memory (wrap (values y + k))) < 2 ^ 64
      → pc' ≡ v.pc + 4 * length (fetch (place y) base 5)
      → Puts o s fp room (fetch (place y) base 5
      ++ (Load op (used x 5) (used (place y) 5) (k % 2 ^ 12) ∷ keep x base 5)) v x
      (extended op (load (load_bytes op) v.memory (wrap (values y + k))))
      (v.accesses ++ accesses_by pc'
      (Some (record { address = wrap (values y + k); size = load_bytes op; kind = Read })))
  load_puts op x y k v values pc' near f hx hy ky d small at_pc =
      let is = fetch (place y) base 5 in
      let a = wrap (values y + k) in
      let g = fetches o s (place y) base 5 fp room v (omega arith) f hy in
      let w = performs is v in
      let at : address_in w (used (place y) 5) (k % 2 ^ 12) ≡ a =
      accesses_at w (used (place y) 5) (values y) k (g.value ∙ ky) near in
      let seen : ℕ → ℕ → List Access = λ p q. accesses_by p
      (Some (record { address = q; size = load_bytes op; kind = Read })) in
      let got : extended op (load (load_bytes op) w.memory (address_in w (used (place y) 5) (k % 2 ^ 12)))
      ≡ extended op (load (load_bytes op) v.memory a) =
      ap (λ m. extended op (load (load_bytes op) m (address_in w (used (place y) 5) (k % 2 ^ 12)))) g.memory
      ∙ ap (λ q. extended op (load (load_bytes op) v.memory q)) at in
      let ts : w.accesses ++ seen w.pc (address_in w (used (place y) 5) (k % 2 ^ 12)) ≡ v.accesses ++ seen pc' a =
      ap (λ l. l ++ seen w.pc (address_in w (used (place y) 5) (k % 2 ^ 12))) g.accesses
      ∙ ap (λ p. v.accesses ++ seen p (address_in w (used (place y) 5) (k % 2 ^ 12))) (g.pc ∙ sym at_pc)
      ∙ ap (λ q. v.accesses ++ seen pc' q) at in
      result_puts is (Load op (used x 5) (used (place y) 5) (k % 2 ^ 12)) v x
      (extended op (load (load_bytes op) v.memory a)) (v.accesses ++ seen pc' a)
      (fetches_ready o s is v (place y) 5 (kept fp v (place y)) (inl refl) g) f hx
      (ap (λ q. record (gets w (used x 5) q)
      { accesses = w.accesses ++ seen w.pc (address_in w (used (place y) 5) (k % 2 ^ 12)) }) got
      ∙ ap (λ l. record (gets w (used x 5) (extended op (load (load_bytes op) v.memory a))) { accesses = l }) ts)
      (subst (λ q. IsOfData o s q (load_bytes op)) (sym at) d, tt) small

  -- a store by flat code: scratch registers alone change, and the memory as flat code's does
  pub record Saves (is : List Instr) (v : View) (m : Bytes) (accesses : List Access) : Type 0 where
    pub go : AllGoOn o s is v
    pub pc : (performs is v).pc ≡ v.pc + 4 * length is
    pub others : (r : ℕ) → IsNoScratch r → (performs is v).registers r ≡ v.registers r
    pub memory_is : (performs is v).memory ≡ m
    pub accesses_are : (performs is v).accesses ≡ accesses

  pub store_saves : (op : StoreOp) (x y k : ℕ) (v : View) (values : Values) (pc' : ℕ) → k < 2 ^ 11
      → v.registers 0 ≡ 0 → HasFrame s base fp room v → IsIn room (place y) → IsIn room (place x)
      → kept fp v (place y) ≡ values y → kept fp v (place x) ≡ values x
      → IsOfData o s (wrap (values y + k)) (store_bytes op)
      → pc' ≡ v.pc + 4 * length (operands place base y (right.Register x))
      → Saves (operands place base y (right.Register x)
      ++ (Store op (used (place y) 5) (used (place x) 6) (k % 2 ^ 12) ∷ [])) v
      (store (store_bytes op) v.memory (wrap (values y + k)) (values x))
      (v.accesses ++ accesses_by pc'
      (Some (record { address = wrap (values y + k); size = store_bytes op; kind = Write })))
  store_saves op x y k v values pc' near nought f hy hx ky kx d at_pc =
      let is = operands place base y (right.Register x) in
      let i = Store op (used (place y) 5) (used (place x) 6) (k % 2 ^ 12) in
      let a = wrap (values y + k) in
      let g = has_operands y (right.Register x) v values nought f hy hx ky kx in
      let w = performs is v in
      let t = performs_append is (i ∷ []) v in
      let at : address_in w (used (place y) 5) (k % 2 ^ 12) ≡ a =
      accesses_at w (used (place y) 5) (values y) k g.left near in
      let seen : ℕ → ℕ → List Access = λ p q. accesses_by p
      (Some (record { address = q; size = store_bytes op; kind = Write })) in
      record {
        go = go_append o s is (i ∷ []) v g.ready.go (subst (λ q. IsOfData o s q (store_bytes op)) (sym at) d, tt);
        pc = ap (λ u. u.pc) t ∙ rw (g.ready.pc, length-append is (i ∷ [])) (omega arith);
        others = λ r no. ap (λ u. u.registers r) t ∙ g.ready.others r no;
        memory_is = ap (λ u. u.memory) t
            ∙ ap (λ m. store (store_bytes op) m (address_in w (used (place y) 5) (k % 2 ^ 12))
            (w.registers (used (place x) 6))) g.ready.memory
            ∙ ap (λ q. store (store_bytes op) v.memory q (w.registers (used (place x) 6))) at
            ∙ ap (store (store_bytes op) v.memory a) g.right_is;
        accesses_are = ap (λ u. u.accesses) t
            ∙ ap (λ l. l ++ seen w.pc (address_in w (used (place y) 5) (k % 2 ^ 12))) g.ready.accesses
            ∙ ap (λ p. v.accesses ++ seen p (address_in w (used (place y) 5) (k % 2 ^ 12))) (g.ready.pc ∙ sym at_pc)
            ∙ ap (λ q. v.accesses ++ seen pc' q) at;
      }

  -- what is charged: half of how far the frames of the program's functions have gone up
  pub charged_puts : (x : Location) (begin top : ℕ) (v : View) → v.registers 0 ≡ 0 → begin < 2 ^ 31 - 2 ^ 11
      → v.registers 2 ≡ top → begin ≤ top → top < 2 ^ 63 → HasFrame s base fp room v → IsIn room x
      → Puts o s fp room (charged_block x base begin) v x ((top - begin) / 2) v.accesses
  unfolding reg_result shift_result
  charged_puts x begin top v nought small two le top_small f hx =
      let is = constant 6 begin in
      let g = constant_gives o s 6 begin v (λ e. omega arith) nought (omega arith) in
      let w = performs is v in
      let gone_up = is ++ (Op Sub 5 2 6 ∷ []) in
      let c = one_more o s is (Op Sub 5 2 6) v 5 (top - begin) v.accesses
      (gives_ready o s is v 6 begin (inr (inl refl)) g) tt
      (gets_is w 5 _ (top - begin) v.accesses
      (ap (λ q. (q + (2 ^ 64 - w.registers 6)) % 2 ^ 64) (g.others 2 (omega arith) ∙ two)
      ∙ ap (λ q. (top + (2 ^ 64 - q)) % 2 ^ 64) g.value ∙ omega arith) g.accesses) (omega arith) in
      let ready : Readies o s gone_up v = record {
        go = c.go;
        pc = c.pc;
        others = λ r apart. c.others r apart.0 apart;
        memory = c.memory;
        accesses = c.accesses_are;
      } in
      subst (λ l. Puts o s fp room l v x ((top - begin) / 2) v.accesses)
      (append_assoc is (Op Sub 5 2 6 ∷ []) (ShiftImm Srli (used x 5) 5 1 ∷ keep x base 5))
      (result_puts gone_up (ShiftImm Srli (used x 5) 5 1) v x ((top - begin) / 2) v.accesses ready f hx
      (gets_is (performs gone_up v) (used x 5) _ ((top - begin) / 2) v.accesses (ap (λ q. q / 2 ^ 1) c.value)
      c.accesses_are) (tt, tt) (omega arith))
