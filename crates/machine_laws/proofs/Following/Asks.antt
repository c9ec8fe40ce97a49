-- What the environment is asked for: bytes of the input and the output, the bytes of a report, and the end.
use Rattle.std.proofs.Common.{◌≡◌, ◌≢◌, ℕ, ◌+◌, ◌-◌, ◌*◌, ◌%◌, ◌^◌, ◌<◌, ◌≤◌, refl}
use Rattle.std.proofs.Common.{ap, ◌∙◌, arith, List, [], ◌∷◌}
use Rattle.addr_map.specs.Places.{spaces_begin}
use Rattle.behaviours.specs.Shown.{Read}
use Rattle.rv_isa.specs.declared.instruction.LoadOp.TheVariants.{Lbu}
use Rattle.rv_isa.specs.declared.instruction.ImmOp.TheVariants.{Addi}
use Rattle.rv_isa.specs.declared.instruction.RegOp.TheVariants.{Add, Mul}
use Rattle.rv_isa.specs.declared.instruction.Instr.{Instr}
use Rattle.rv_isa.specs.declared.instruction.Instr.TheVariants.{Load, OpImm, Op}
use Rattle.rv_isa.specs.Word.{sext}
use Rattle.rv_isa.specs.Results.{wrap, imm_result, reg_result, extended}
use Rattle.flat_code.specs.Memory.{Bytes, load, store}
use Rattle.flat_code.proofs.Stored.{put_same}
use Rattle.machine_laws.specs.View.Views.{View}
use Rattle.machine_laws.specs.View.Views.{perform, performs, address_in}
use Rattle.machine_laws.proofs.View.Leaving.{no_access}
use Rattle.machine_laws.proofs.Blocks.Pieces.{with_same, with_other, small_sext, silent}

-- ---- what is asked stands ready

pub small_immediate : (n : ℕ) → n < 2 ^ 11 → wrap (0 + sext 12 n) ≡ n
small_immediate n l = ap (λ q. wrap (0 + q)) (small_sext n l) ∙ omega arith

pub stored_byte : (m : Bytes) (a n : ℕ) → store 1 m a n a ≡ n % 256
unfolding store
stored_byte m a n = put_same m a (n % 256)

-- one more immediate addition
pub immediate : (v : View) (rd rs n value : ℕ) → rd ≢ 0 → wrap (v.registers rs + sext 12 n) ≡ value
    → (perform (OpImm Addi rd rs n) v).registers rd ≡ value
unfolding imm_result
immediate v rd rs n value ne e = with_same v.registers rd (wrap (v.registers rs + sext 12 n)) ne ∙ e

pub immediate_other : (v : View) (rd rs n r : ℕ) → r ≢ rd
    → (perform (OpImm Addi rd rs n) v).registers r ≡ v.registers r
unfolding imm_result
immediate_other v rd rs n r ne = with_other v.registers rd (wrap (v.registers rs + sext 12 n)) r ne

-- the call's number, its descriptor, the buffer and its length
pub record IsAsking (v w : View) (number descriptor length area : ℕ) : Type 0 where
  pub number_is : w.registers 17 ≡ number
  pub descriptor_is : w.registers 10 ≡ descriptor
  pub buffer : w.registers 11 ≡ area
  pub count : w.registers 12 ≡ length
  pub others : (r : ℕ) → r ≢ 17 → r ≢ 10 → r ≢ 11 → r ≢ 12 → w.registers r ≡ v.registers r
  pub pc : w.pc ≡ v.pc + 16
  pub memory : w.memory ≡ v.memory
  pub accesses : w.accesses ≡ v.accesses

abbrev pub asking : (number descriptor length : ℕ) → List Instr
asking number descriptor n =
    OpImm Addi 17 0 number ∷ OpImm Addi 10 0 descriptor ∷ OpImm Addi 11 3 0 ∷ OpImm Addi 12 0 n ∷ []

pub asking_asks : (v : View) (number descriptor n area : ℕ) → number < 2 ^ 11 → descriptor < 2 ^ 11 → n < 2 ^ 11
    → v.registers 0 ≡ 0 → v.registers 3 ≡ area → area < 2 ^ 63
    → IsAsking v (performs (asking number descriptor n) v) number descriptor n area
asking_asks v number descriptor n area hn hd few nought three low =
    let v1 = perform (OpImm Addi 17 0 number) v in
    let v2 = perform (OpImm Addi 10 0 descriptor) v1 in
    let v3 = perform (OpImm Addi 11 3 0) v2 in
    let v4 = perform (OpImm Addi 12 0 n) v3 in
    let z1 : v1.registers 0 ≡ 0 = immediate_other v 17 0 number 0 (omega arith) ∙ nought in
    let z2 : v2.registers 0 ≡ 0 = immediate_other v1 10 0 descriptor 0 (omega arith) ∙ z1 in
    let z3 : v3.registers 0 ≡ 0 = immediate_other v2 11 3 0 0 (omega arith) ∙ z2 in
    let t2 : v2.registers 3 ≡ area = immediate_other v1 10 0 descriptor 3 (omega arith)
    ∙ immediate_other v 17 0 number 3 (omega arith) ∙ three in
    let area_is : wrap (area + sext 12 0) ≡ area = omega arith in
    record {
      number_is = immediate_other v3 12 0 n 17 (omega arith) ∙ immediate_other v2 11 3 0 17 (omega arith)
          ∙ immediate_other v1 10 0 descriptor 17 (omega arith)
          ∙ immediate v 17 0 number number (omega arith)
          (ap (λ q. wrap (q + sext 12 number)) nought ∙ small_immediate number hn);
      descriptor_is = immediate_other v3 12 0 n 10 (omega arith) ∙ immediate_other v2 11 3 0 10 (omega arith)
          ∙ immediate v1 10 0 descriptor descriptor (omega arith)
          (ap (λ q. wrap (q + sext 12 descriptor)) z1 ∙ small_immediate descriptor hd);
      buffer = immediate_other v3 12 0 n 11 (omega arith)
          ∙ immediate v2 11 3 0 area (omega arith) (ap (λ q. wrap (q + sext 12 0)) t2 ∙ area_is);
      count = immediate v3 12 0 n n (omega arith) (ap (λ q. wrap (q + sext 12 n)) z3 ∙ small_immediate n few);
      others = λ r a b c d. immediate_other v3 12 0 n r d ∙ immediate_other v2 11 3 0 r c
          ∙ immediate_other v1 10 0 descriptor r b ∙ immediate_other v 17 0 number r a;
      pc = (let e : v.pc + 4 + 4 + 4 + 4 ≡ v.pc + 16 = omega arith in e);
      memory = refl;
      accesses = no_access v3.accesses v3.pc ∙ no_access v2.accesses v2.pc ∙ no_access v1.accesses v1.pc
          ∙ no_access v.accesses v.pc;
    }

-- ---- what comes of a byte of the input

-- the byte times the answer, plus the answer, less one
pub record Receives (v w : View) (rd n : ℕ) : Type 0 where
  pub value : w.registers rd ≡ n
  pub others : (r : ℕ) → r ≢ rd → r ≢ 5 → r ≢ 6 → w.registers r ≡ v.registers r
  pub memory : w.memory ≡ v.memory
  pub accesses : w.accesses ≡ v.accesses

abbrev pub receiving : (rd : ℕ) → List Instr
receiving rd = Load Lbu 5 3 0 ∷ Op Mul 5 5 10 ∷ OpImm Addi 6 10 (2 ^ 12 - 1) ∷ Op Add rd 5 6 ∷ []

pub receives : (v : View) (rd area answer n : ℕ) → rd ≢ 0 → v.registers 3 ≡ area → spaces_begin ≤ area → area < 2 ^ 63
    → v.registers 10 ≡ answer
    → wrap (v.memory area * answer % 2 ^ 64 + wrap (answer + (2 ^ 64 - 1))) ≡ n
    → Receives v (performs (receiving rd) v) rd n
unfolding reg_result imm_result extended load
receives v rd area answer n ne three low high ten e =
    let area_is : wrap (area + sext 12 0) ≡ area = omega arith in
    let at : address_in v 3 0 ≡ area = ap (λ q. wrap (q + sext 12 0)) three ∙ area_is in
    let v1 = perform (Load Lbu 5 3 0) v in
    let v2 = perform (Op Mul 5 5 10) v1 in
    let v3 = perform (OpImm Addi 6 10 (2 ^ 12 - 1)) v2 in
    let v4 = perform (Op Add rd 5 6) v3 in
    let byte : v.memory (address_in v 3 0) + 256 * 0 ≡ v.memory area =
    ap (λ q. v.memory q + 256 * 0) at ∙ omega arith in
    let five1 : v1.registers 5 ≡ v.memory area =
    with_same v.registers 5 (v.memory (address_in v 3 0) + 256 * 0) (omega arith) ∙ byte in
    let stay1 : (r : ℕ) → r ≢ 5 → v1.registers r ≡ v.registers r =
    λ r a. with_other v.registers 5 (v.memory (address_in v 3 0) + 256 * 0) r a in
    let product = v1.registers 5 * v1.registers 10 % 2 ^ 64 in
    let ten1 : v1.registers 10 ≡ answer = stay1 10 (omega arith) ∙ ten in
    let product_is : product ≡ v.memory area * answer % 2 ^ 64 =
    ap (λ q. q * v1.registers 10 % 2 ^ 64) five1 ∙ ap (λ q. v.memory area * q % 2 ^ 64) ten1 in
    let five2 : v2.registers 5 ≡ v.memory area * answer % 2 ^ 64 =
    with_same v1.registers 5 product (omega arith) ∙ product_is in
    let stay2 : (r : ℕ) → r ≢ 5 → v2.registers r ≡ v.registers r =
    λ r a. with_other v1.registers 5 product r a ∙ stay1 r a in
    let less = wrap (v2.registers 10 + sext 12 (2 ^ 12 - 1)) in
    let less_is : less ≡ wrap (answer + (2 ^ 64 - 1)) =
    ap (λ q. wrap (q + (2 ^ 64 - 1))) (stay2 10 (omega arith) ∙ ten) in
    let six3 : v3.registers 6 ≡ wrap (answer + (2 ^ 64 - 1)) = with_same v2.registers 6 less (omega arith) ∙ less_is in
    let five3 : v3.registers 5 ≡ v.memory area * answer % 2 ^ 64 =
    with_other v2.registers 6 less 5 (omega arith) ∙ five2 in
    let all = wrap (v3.registers 5 + v3.registers 6) in
    record {
      value = with_same v3.registers rd all ne
          ∙ ap (λ q. wrap (q + v3.registers 6)) five3
          ∙ ap (λ q. wrap (v.memory area * answer % 2 ^ 64 + q)) six3 ∙ e;
      others = λ r a b d. with_other v3.registers rd all r a ∙ with_other v2.registers 6 less r d ∙ stay2 r b;
      memory = refl;
      accesses = no_access v3.accesses v3.pc ∙ no_access v2.accesses v2.pc ∙ no_access v1.accesses v1.pc
          ∙ silent v.accesses v.pc (address_in v 3 0) 1 Read (rw at low);
    }
