-- What constants, words of memory, operands and results do to the machine.
use Rattle.std.proofs.Common.{◌≡◌, ◌≢◌, ℕ, zero, suc, ◌+◌, ◌-◌, ◌*◌, ◌^◌, ◌/◌, ◌%◌, ◌<◌, ◌≤◌, ◌⊎◌, inl, inr}
use Rattle.std.proofs.Common.{List, [], ◌∷◌, ◌++◌, length, Some, None, Bool, true, false, refl, sym, ap, ◌∙◌, subst}
use Rattle.std.proofs.Common.{arith, ⊎_elim, length-append}
use Rattle.std.specs.Prelude.{◌==◌, nat_lt, nat_le, if◌then◌else◌}
use Rattle.std.proofs.lemmas.Bool.{ltb-true, leb-true, leb-false, ne_eqb, lt-leb, le-leb, le-ltb}
use Rattle.std.proofs.lemmas.List.{append-nil}
use Rattle.std.proofs.lemmas.Nat.{div_below}
use Rattle.std.proofs.Math.Nat.{pow-suc}
use Rattle.addr_map.specs.Places.{is_code_address, objects_begin, spaces_begin}
use Rattle.behaviours.specs.Shown.{Access, AccessKind, Read, Write}
use Rattle.rv_isa.specs.declared.instruction.LoadOp.TheVariants.{Ld}
use Rattle.rv_isa.specs.declared.instruction.StoreOp.TheVariants.{Sd}
use Rattle.rv_isa.specs.declared.instruction.ImmOp.TheVariants.{Addi}
use Rattle.rv_isa.specs.declared.instruction.ShiftOp.TheVariants.{Slli}
use Rattle.rv_isa.specs.declared.instruction.RegOp.TheVariants.{Add}
use Rattle.rv_isa.specs.declared.instruction.Instr.{Instr}
use Rattle.rv_isa.specs.declared.instruction.Instr.TheVariants.{Lui, Load, Store, OpImm, ShiftImm, Op}
use Rattle.rv_isa.specs.Word.{sext}
use Rattle.rv_isa.specs.Results.{wrap, low_word, imm_result, shift_result, reg_result, extended}
use Rattle.rv_sim.specs.Accesses.{objects_only}
use Rattle.flat_code.specs.Memory.{Bytes, load, store, KeepsBut}
use Rattle.flat_code.proofs.Stored.{put_same, put_other, load_stored, load_beside, store_beside}
use Rattle.machine_laws.specs.View.Segments.{IsOfData}
use Rattle.machine_laws.specs.View.Views.{View, with_value, gets, address_in, accesses_by, perform, performs, GoesOn}
use Rattle.machine_laws.specs.View.Views.{AllGoOn}
use Rattle.machine_laws.proofs.View.Leaving.{no_access}
use Rattle.machine_laws.specs.declared.location.Location.{Location}
use Rattle.machine_laws.specs.declared.location.Location.TheVariants.{Register, Frame}
use Rattle.machine_laws.specs.Blocks.Blocks.{upper, lower, wide, digits, constant, load_at, store_at, used, fetch, keep}
use Rattle.machine_laws.specs.Blocks.Effects.{IsSaved, IsIn, AreApart, kept, IsNoScratch, IsOfSpaces, Gives, Readies}
use Rattle.machine_laws.specs.Blocks.Effects.{Computes}
use Rattle.machine_laws.specs.Blocks.Effects.{Stores, Puts, HasFrame}

-- ---- lists of instructions

pub performs_append : (is js : List Instr) (v : View) → performs (is ++ js) v ≡ performs js (performs is v)
performs_append [] js v = refl
performs_append (i ∷ is) js v = performs_append is js (perform i v)

pub go_append : (o s : ℕ) (is js : List Instr) (v : View) → AllGoOn o s is v → AllGoOn o s js (performs is v)
    → AllGoOn o s (is ++ js) v
go_append o s [] js v g h = h
go_append o s (i ∷ is) js v g h = (g.0, go_append o s is js (perform i v) g.1 h)

-- ---- registers

pub with_same : (x : ℕ → ℕ) (r n : ℕ) → r ≢ 0 → with_value x r n r ≡ n
with_same x r n ne = rw (ne_eqb r 0 ne) (put_same x r n)

pub with_other : (x : ℕ → ℕ) (r n k : ℕ) → k ≢ r → with_value x r n k ≡ x k
with_other x r n k ne = by (r == 0) refl
  where
    by : (b : Bool) → (r == 0) ≡ b → with_value x r n k ≡ x k
    by true e = rw e refl
    by false e = rw e (put_other x r n k ne)

-- ---- accesses

-- one of the runtime's spaces is none of objects
pub silent : (accesses : List Access) (pc a n : ℕ) (kind : AccessKind) → spaces_begin ≤ a
    → accesses ++ accesses_by pc (Some (record { address = a; size = n; kind = kind })) ≡ accesses
silent accesses pc a n kind l = by (is_code_address pc)
  where
    by : (b : Bool) → accesses
        ++ (if b then objects_only (Some (record { address = a; size = n; kind = kind })) else []) ≡ accesses
    by true = rw (le-ltb a spaces_begin l, le-leb objects_begin a (omega arith)) (append-nil accesses)
    by false = append-nil accesses

-- ---- numbers

pub small_sext : (n : ℕ) → n < 2 ^ 11 → sext 12 n ≡ n
small_sext n l = rw (lt-leb (2 ^ 11) n l) refl

-- what LUI has and the immediate's sign-extended 12 bits make the number, with a base added between
pub parts : (n b : ℕ) → n < 2 ^ 31 - 2 ^ 11 → n + b < 2 ^ 63
    → wrap (wrap (sext 32 (upper n * 2 ^ 12) + b) + sext 12 (lower n)) ≡ n + b
parts n b l h = by (nat_le (2 ^ 11) (n % 2 ^ 12)) refl
  where
    low : nat_le (2 ^ 31) ((n + 2 ^ 11) / 2 ^ 12 % 2 ^ 20 * 2 ^ 12) ≡ false
    low = lt-leb (2 ^ 31) ((n + 2 ^ 11) / 2 ^ 12 % 2 ^ 20 * 2 ^ 12) (omega arith)

    by : (c : Bool) → nat_le (2 ^ 11) (n % 2 ^ 12) ≡ c
        → wrap (wrap (sext 32 (upper n * 2 ^ 12) + b) + sext 12 (lower n)) ≡ n + b
    by true e = let k = leb-true (2 ^ 11) (n % 2 ^ 12) e in rw (low, e) (omega arith)
    by false e = let k = leb-false (2 ^ 11) (n % 2 ^ 12) e in rw (low, e) (omega arith)

-- the same of a negative number of 32 bits
high_parts : (n : ℕ) → 2 ^ 64 - 2 ^ 31 ≤ n → n < 2 ^ 64
    → wrap (sext 32 (upper n * 2 ^ 12) + sext 12 (lower n)) ≡ n
high_parts n least small =
    by (nat_le (2 ^ 31) ((n + 2 ^ 11) / 2 ^ 12 % 2 ^ 20 * 2 ^ 12)) (nat_le (2 ^ 11) (n % 2 ^ 12)) refl refl
  where
    by : (b c : Bool) → nat_le (2 ^ 31) ((n + 2 ^ 11) / 2 ^ 12 % 2 ^ 20 * 2 ^ 12) ≡ b
        → nat_le (2 ^ 11) (n % 2 ^ 12) ≡ c → wrap (sext 32 (upper n * 2 ^ 12) + sext 12 (lower n)) ≡ n
    by true true p q =
        let l = leb-true (2 ^ 31) ((n + 2 ^ 11) / 2 ^ 12 % 2 ^ 20 * 2 ^ 12) p in
        let k = leb-true (2 ^ 11) (n % 2 ^ 12) q in rw (p, q) (omega arith)
    by true false p q =
        let l = leb-true (2 ^ 31) ((n + 2 ^ 11) / 2 ^ 12 % 2 ^ 20 * 2 ^ 12) p in
        let k = leb-false (2 ^ 11) (n % 2 ^ 12) q in rw (p, q) (omega arith)
    by false true p q =
        let l = leb-false (2 ^ 31) ((n + 2 ^ 11) / 2 ^ 12 % 2 ^ 20 * 2 ^ 12) p in
        let k = leb-true (2 ^ 11) (n % 2 ^ 12) q in rw (p, q) (omega arith)
    by false false p q =
        let l = leb-false (2 ^ 31) ((n + 2 ^ 11) / 2 ^ 12 % 2 ^ 20 * 2 ^ 12) p in
        let k = leb-false (2 ^ 11) (n % 2 ^ 12) q in rw (p, q) (omega arith)

-- without an offset
pub wide_parts : (n : ℕ) → n < 2 ^ 31 - 2 ^ 11 → wrap (sext 32 (upper n * 2 ^ 12) + sext 12 (lower n)) ≡ n
wide_parts n l =
    let n0 : n + 0 ≡ n = omega arith in
    ap (λ q. wrap (q + sext 12 (lower n))) (sym (by_size n l)) ∙ parts n 0 l (omega (arith, l)) ∙ n0
  where
    by_size : (k : ℕ) → k < 2 ^ 31 - 2 ^ 11 → wrap (sext 32 (upper k * 2 ^ 12) + 0) ≡ sext 32 (upper k * 2 ^ 12)
    by_size k h =
        let low : nat_le (2 ^ 31) ((k + 2 ^ 11) / 2 ^ 12 % 2 ^ 20 * 2 ^ 12) ≡ false =
        lt-leb (2 ^ 31) ((k + 2 ^ 11) / 2 ^ 12 % 2 ^ 20 * 2 ^ 12) (omega arith) in
        rw low (omega arith)

-- they give the low 32 bits of any number
pub low_parts : (n : ℕ) → n < 2 ^ 32
    → low_word (wrap (sext 32 (upper n * 2 ^ 12) + sext 12 (lower n))) ≡ n
low_parts n small =
    by (nat_le (2 ^ 31) ((n + 2 ^ 11) / 2 ^ 12 % 2 ^ 20 * 2 ^ 12)) (nat_le (2 ^ 11) (n % 2 ^ 12)) refl refl
  where
    by : (b c : Bool) → nat_le (2 ^ 31) ((n + 2 ^ 11) / 2 ^ 12 % 2 ^ 20 * 2 ^ 12) ≡ b
        → nat_le (2 ^ 11) (n % 2 ^ 12) ≡ c
        → low_word (wrap (sext 32 (upper n * 2 ^ 12) + sext 12 (lower n))) ≡ n
    by true true p q =
        let l = leb-true (2 ^ 31) ((n + 2 ^ 11) / 2 ^ 12 % 2 ^ 20 * 2 ^ 12) p in
        let k = leb-true (2 ^ 11) (n % 2 ^ 12) q in rw (p, q) (omega arith)
    by true false p q =
        let l = leb-true (2 ^ 31) ((n + 2 ^ 11) / 2 ^ 12 % 2 ^ 20 * 2 ^ 12) p in
        let k = leb-false (2 ^ 11) (n % 2 ^ 12) q in rw (p, q) (omega arith)
    by false true p q =
        let l = leb-false (2 ^ 31) ((n + 2 ^ 11) / 2 ^ 12 % 2 ^ 20 * 2 ^ 12) p in
        let k = leb-true (2 ^ 11) (n % 2 ^ 12) q in rw (p, q) (omega arith)
    by false false p q =
        let l = leb-false (2 ^ 31) ((n + 2 ^ 11) / 2 ^ 12 % 2 ^ 20 * 2 ^ 12) p in
        let k = leb-false (2 ^ 11) (n % 2 ^ 12) q in rw (p, q) (omega arith)

-- ---- scratch registers

pub saved_apart : (r : ℕ) → IsSaved r → IsNoScratch r
saved_apart r h = (omega (arith, h.low), omega (arith, h.low), omega (arith, h.low))

pub low_apart : (r : ℕ) → r < 5 → IsNoScratch r
low_apart r h = (omega arith, omega arith, omega arith)

pub used_no_six : (room : ℕ) (x : Location) → IsIn room x → used x 5 ≢ 6
used_no_six room (Register r) h e = omega (arith, h.low)
used_no_six room (Frame k) h e = omega arith

-- ---- constants

module _ (o s : ℕ) where
  pub one_constant : (rd n k : ℕ) (v : View) → rd ≢ 0 → v.registers 0 ≡ 0 → wrap (sext 12 k) ≡ n
      → Gives o s (OpImm Addi rd 0 k ∷ []) v rd n
  unfolding imm_result
  one_constant rd n k v ne z e = record {
    go = (tt, tt);
    pc = refl;
    value = with_same v.registers rd (wrap (v.registers 0 + sext 12 k)) ne
        ∙ ap (λ q. wrap (q + sext 12 k)) z ∙ (let same : 0 + sext 12 k ≡ sext 12 k = omega arith in ap wrap same) ∙ e;
    others = λ r a. with_other v.registers rd (wrap (v.registers 0 + sext 12 k)) r a;
    memory = refl;
    accesses = no_access v.accesses v.pc;
  }

  pub wide_makes : (rd n w : ℕ) (v : View) → rd ≢ 0 → wrap (sext 32 (upper n * 2 ^ 12) + sext 12 (lower n)) ≡ w
      → Gives o s (wide rd n) v rd w
  unfolding imm_result
  wide_makes rd n w v ne p =
      let up = sext 32 (upper n * 2 ^ 12) in
      let x1 = with_value v.registers rd up in
      record {
        go = (tt, (tt, tt));
        pc = (let e : v.pc + 4 + 4 ≡ v.pc + 4 * 2 = omega arith in e);
        value = with_same x1 rd (wrap (x1 rd + sext 12 (lower n))) ne
            ∙ ap (λ q. wrap (q + sext 12 (lower n))) (with_same v.registers rd up ne) ∙ p;
        others = λ r a. with_other x1 rd (wrap (x1 rd + sext 12 (lower n))) r a ∙ with_other v.registers rd up r a;
        memory = refl;
        accesses = no_access (v.accesses ++ accesses_by v.pc None) (v.pc + 4) ∙ no_access v.accesses v.pc;
      }

  pub wide_gives : (rd n : ℕ) (v : View) → rd ≢ 0 → n < 2 ^ 31 - 2 ^ 11 → Gives o s (wide rd n) v rd n
  wide_gives rd n v ne l = wide_makes rd n n v ne (wide_parts n l)

  -- eleven bits more
  more_digits : (is : List Instr) (rd n : ℕ) (v : View) → rd ≢ 0 → n < 2 ^ 64 → Gives o s is v rd (n / 2048)
      → Gives o s (is ++ (ShiftImm Slli rd rd 11 ∷ OpImm Addi rd rd (n % 2048) ∷ [])) v rd n
  unfolding imm_result shift_result
  more_digits is rd n v ne small g =
      let w = performs is v in
      let js = ShiftImm Slli rd rd 11 ∷ OpImm Addi rd rd (n % 2048) ∷ [] in
      let a = performs_append is js v in
      let x1 = with_value w.registers rd (wrap (w.registers rd * 2 ^ 11)) in
      let first : x1 rd ≡ n / 2048 * 2048 = with_same w.registers rd (wrap (w.registers rd * 2 ^ 11)) ne
      ∙ rw g.value (omega arith) in
      record {
        go = go_append o s is js v g.go (tt, (tt, tt));
        pc = ap (λ u. u.pc) a ∙ rw (g.pc, length-append is js) (omega arith);
        value = ap (λ u. u.registers rd) a ∙ with_same x1 rd (wrap (x1 rd + sext 12 (n % 2048))) ne
            ∙ rw (small_sext (n % 2048) (omega arith), first) (omega arith);
        others = λ r e. ap (λ u. u.registers r) a ∙ with_other x1 rd (wrap (x1 rd + sext 12 (n % 2048))) r e
            ∙ with_other w.registers rd (wrap (w.registers rd * 2 ^ 11)) r e ∙ g.others r e;
        memory = ap (λ u. u.memory) a ∙ g.memory;
        accesses = ap (λ u. u.accesses) a ∙ no_access (w.accesses ++ accesses_by w.pc None) (w.pc + 4)
            ∙ no_access w.accesses w.pc ∙ g.accesses;
      }

  low_digit : (rd n : ℕ) (v : View) → rd ≢ 0 → v.registers 0 ≡ 0 → n < 2048
      → Gives o s (OpImm Addi rd 0 (n % 2048) ∷ []) v rd n
  low_digit rd n v ne z l = one_constant rd n (n % 2048) v ne z
      (ap wrap (small_sext (n % 2048) (omega arith)) ∙ omega arith)

  digits_give : (k rd n : ℕ) (v : View) → rd ≢ 0 → v.registers 0 ≡ 0 → n < 2048 ^ suc k → n < 2 ^ 64
      → Gives o s (digits k rd n) v rd n
  unfolding digits
  digits_give zero rd n v ne z l small = low_digit rd n v ne z (omega (arith, l))
  digits_give (suc k) rd n v ne z l small = by (λ h. digits_give k rd (n / 2048) v ne z h (omega arith))
      (nat_lt n 2048) refl
    where
      by : (n / 2048 < 2048 ^ suc k → Gives o s (digits k rd (n / 2048)) v rd (n / 2048)) → (b : Bool)
          → nat_lt n 2048 ≡ b
          → Gives o s (if b then OpImm Addi rd 0 (n % 2048) ∷ []
          else digits k rd (n / 2048) ++ (ShiftImm Slli rd rd 11 ∷ OpImm Addi rd rd (n % 2048) ∷ [])) v rd n
      by rec true e = low_digit rd n v ne z (ltb-true n 2048 e)
      by rec false e = more_digits (digits k rd (n / 2048)) rd n v ne small
          (rec (div_below n 2048 (2048 ^ suc k) (omega arith) (subst (λ x. n < x) (pow-suc 2048 (suc k)) l)))

  pub constant_gives : (rd n : ℕ) (v : View) → rd ≢ 0 → v.registers 0 ≡ 0 → n < 2 ^ 64
      → Gives o s (constant rd n) v rd n
  unfolding constant
  constant_gives rd n v ne z small = by (nat_lt n (2 ^ 11)) (nat_le (2 ^ 64 - 2 ^ 11) n) (nat_lt n (2 ^ 31 - 2 ^ 11))
      (nat_le (2 ^ 64 - 2 ^ 31) n) refl refl refl refl
    where
      by : (a b c d : Bool) → nat_lt n (2 ^ 11) ≡ a → nat_le (2 ^ 64 - 2 ^ 11) n ≡ b → nat_lt n (2 ^ 31 - 2 ^ 11) ≡ c
          → nat_le (2 ^ 64 - 2 ^ 31) n ≡ d
          → Gives o s (if a then OpImm Addi rd 0 (n % 2 ^ 12) ∷ [] else (
          if b then OpImm Addi rd 0 (n % 2 ^ 12) ∷ [] else (
          if c then wide rd n else (if d then wide rd n else digits 5 rd n)))) v rd n
      by true b c d p q t u =
          let l = ltb-true n (2 ^ 11) p in
          one_constant rd n (n % 2 ^ 12) v ne z (ap wrap (small_sext (n % 2 ^ 12) (omega arith)) ∙ omega arith)
      by false true c d p q t u =
          let l = leb-true (2 ^ 64 - 2 ^ 11) n q in
          let high : nat_le (2 ^ 11) (n % 2 ^ 12) ≡ true = le-leb (2 ^ 11) (n % 2 ^ 12) (omega arith) in
          one_constant rd n (n % 2 ^ 12) v ne z (rw high (omega arith))
      by false false true d p q t u = wide_gives rd n v ne (ltb-true n (2 ^ 31 - 2 ^ 11) t)
      by false false false true p q t u =
          wide_makes rd n n v ne (high_parts n (leb-true (2 ^ 64 - 2 ^ 31) n u) small)
      by false false false false p q t u = digits_give 5 rd n v ne z (omega arith) small

  -- ---- words of memory

  pub of_data : (a n : ℕ) → IsOfSpaces s a n → IsOfData o s a n
  of_data a n h = inr (h.low, h.high)

  -- the address of a near word, and of a far one
  near_address : (v : View) (base b k : ℕ) → v.registers base ≡ b → k < 2 ^ 11 → IsOfSpaces s (b + k) 8
      → address_in v base (k % 2 ^ 12) ≡ b + k
  near_address v base b k e l h =
      let same : k % 2 ^ 12 ≡ k = omega (arith, l) in
      ap (λ q. wrap (q + sext 12 (k % 2 ^ 12))) e ∙ ap (λ q. wrap (b + sext 12 q)) same
      ∙ ap (λ q. wrap (b + q)) (small_sext k l) ∙ omega (arith, h.high, h.small)

  far_address : (b k : ℕ) → IsOfSpaces s (b + k) 8
      → wrap (wrap (sext 32 (upper k * 2 ^ 12) + b) + sext 12 (lower k)) ≡ b + k
  far_address b k h =
      let swap : k + b ≡ b + k = omega arith in
      parts k b (omega (arith, h.high, h.small)) (omega (arith, h.high, h.small)) ∙ swap

  near_load : (rd base b k : ℕ) (v : View) → rd ≢ 0 → v.registers base ≡ b → k < 2 ^ 11 → IsOfSpaces s (b + k) 8
      → Gives o s (Load Ld rd base (k % 2 ^ 12) ∷ []) v rd (load 8 v.memory (b + k))
  unfolding extended
  near_load rd base b k v ne e l h =
      let at = near_address v base b k e l h in
      record {
        go = (subst (λ q. IsOfData o s q 8) (sym at) (of_data (b + k) 8 h), tt);
        pc = refl;
        value = with_same v.registers rd (load 8 v.memory (address_in v base (k % 2 ^ 12))) ne
            ∙ ap (load 8 v.memory) at;
        others = λ r a. with_other v.registers rd (load 8 v.memory (address_in v base (k % 2 ^ 12))) r a;
        memory = refl;
        accesses = silent v.accesses v.pc (address_in v base (k % 2 ^ 12)) 8 Read (rw at h.low);
      }

  far_load : (rd base b k : ℕ) (v : View) → rd ≢ 0 → base ≢ rd → v.registers base ≡ b → IsOfSpaces s (b + k) 8
      → Gives o s (Lui rd (upper k) ∷ Op Add rd rd base ∷ Load Ld rd rd (lower k) ∷ []) v rd
      (load 8 v.memory (b + k))
  unfolding extended reg_result
  far_load rd base b k v ne apart e h =
      let up = sext 32 (upper k * 2 ^ 12) in
      let x1 = with_value v.registers rd up in
      let sum = wrap (x1 rd + x1 base) in
      let x2 = with_value x1 rd sum in
      let sum_is : sum ≡ wrap (up + b) =
      ap (λ q. wrap (q + x1 base)) (with_same v.registers rd up ne)
      ∙ ap (λ q. wrap (up + q)) (with_other v.registers rd up base apart ∙ e) in
      let at : wrap (x2 rd + sext 12 (lower k)) ≡ b + k =
      ap (λ q. wrap (q + sext 12 (lower k))) (with_same x1 rd sum ne ∙ sum_is) ∙ far_address b k h in
      let got = load 8 v.memory (wrap (x2 rd + sext 12 (lower k))) in
      record {
        go = (tt, (tt, (subst (λ q. IsOfData o s q 8) (sym at) (of_data (b + k) 8 h), tt)));
        pc = (let q : v.pc + 4 + 4 + 4 ≡ v.pc + 4 * 3 = omega arith in q);
        value = with_same x2 rd got ne ∙ ap (load 8 v.memory) at;
        others = λ r a. with_other x2 rd got r a ∙ with_other x1 rd sum r a ∙ with_other v.registers rd up r a;
        memory = refl;
        accesses = silent (v.accesses ++ accesses_by v.pc None ++ accesses_by (v.pc + 4) None) (v.pc + 4 + 4)
            (wrap (x2 rd + sext 12 (lower k))) 8 Read (rw at h.low)
            ∙ no_access (v.accesses ++ accesses_by v.pc None) (v.pc + 4) ∙ no_access v.accesses v.pc;
      }

  pub load_gives : (rd base b k : ℕ) (v : View) → rd ≢ 0 → base ≢ rd → v.registers base ≡ b → IsOfSpaces s (b + k) 8
      → Gives o s (load_at rd base k) v rd (load 8 v.memory (b + k))
  unfolding load_at
  load_gives rd base b k v ne apart e h = by (nat_lt k (2 ^ 11)) refl
    where
      by : (c : Bool) → nat_lt k (2 ^ 11) ≡ c → Gives o s (
          if c then Load Ld rd base (k % 2 ^ 12) ∷ []
          else Lui rd (upper k) ∷ Op Add rd rd base ∷ Load Ld rd rd (lower k) ∷ []) v rd (load 8 v.memory (b + k))
      by true q = near_load rd base b k v ne e (ltb-true k (2 ^ 11) q) h
      by false q = far_load rd base b k v ne apart e h

  near_store : (from base b k n : ℕ) (v : View) → v.registers base ≡ b → v.registers from ≡ n → k < 2 ^ 11
      → IsOfSpaces s (b + k) 8 → Stores o s (Store Sd base from (k % 2 ^ 12) ∷ []) v (store 8 v.memory (b + k) n)
  near_store from base b k n v e value l h =
      let at = near_address v base b k e l h in
      record {
        go = (subst (λ q. IsOfData o s q 8) (sym at) (of_data (b + k) 8 h), tt);
        pc = refl;
        others = λ r a. refl;
        memory_is = ap (λ q. store 8 v.memory q (v.registers from)) at ∙ ap (store 8 v.memory (b + k)) value;
        accesses = silent v.accesses v.pc (address_in v base (k % 2 ^ 12)) 8 Write (rw at h.low);
      }

  far_store : (from base b k n : ℕ) (v : View) → base ≢ 7 → from ≢ 7 → v.registers base ≡ b → v.registers from ≡ n
      → IsOfSpaces s (b + k) 8
      → Stores o s (Lui 7 (upper k) ∷ Op Add 7 7 base ∷ Store Sd 7 from (lower k) ∷ []) v (store 8 v.memory (b + k) n)
  unfolding reg_result
  far_store from base b k n v apart away e value h =
      let seven : 7 ≢ 0 = omega arith in
      let up = sext 32 (upper k * 2 ^ 12) in
      let x1 = with_value v.registers 7 up in
      let sum = wrap (x1 7 + x1 base) in
      let x2 = with_value x1 7 sum in
      let sum_is : sum ≡ wrap (up + b) =
      ap (λ q. wrap (q + x1 base)) (with_same v.registers 7 up seven)
      ∙ ap (λ q. wrap (up + q)) (with_other v.registers 7 up base apart ∙ e) in
      let at : wrap (x2 7 + sext 12 (lower k)) ≡ b + k =
      ap (λ q. wrap (q + sext 12 (lower k))) (with_same x1 7 sum seven ∙ sum_is) ∙ far_address b k h in
      let from_is : x2 from ≡ n = with_other x1 7 sum from away ∙ with_other v.registers 7 up from away ∙ value in
      record {
        go = (tt, (tt, (subst (λ q. IsOfData o s q 8) (sym at) (of_data (b + k) 8 h), tt)));
        pc = (let q : v.pc + 4 + 4 + 4 ≡ v.pc + 4 * 3 = omega arith in q);
        others = λ r a. with_other x1 7 sum r a ∙ with_other v.registers 7 up r a;
        memory_is = ap (λ q. store 8 v.memory q (x2 from)) at ∙ ap (store 8 v.memory (b + k)) from_is;
        accesses = silent (v.accesses ++ accesses_by v.pc None ++ accesses_by (v.pc + 4) None) (v.pc + 4 + 4)
            (wrap (x2 7 + sext 12 (lower k))) 8 Write (rw at h.low)
            ∙ no_access (v.accesses ++ accesses_by v.pc None) (v.pc + 4) ∙ no_access v.accesses v.pc;
      }

  pub store_stores : (from base b k n : ℕ) (v : View) → base ≢ 7 → from ≢ 7 → v.registers base ≡ b
      → v.registers from ≡ n → IsOfSpaces s (b + k) 8 → Stores o s (store_at from base k) v (store 8 v.memory (b + k) n)
  unfolding store_at
  store_stores from base b k n v apart away e value h = by (nat_lt k (2 ^ 11)) refl
    where
      by : (c : Bool) → nat_lt k (2 ^ 11) ≡ c → Stores o s (
          if c then Store Sd base from (k % 2 ^ 12) ∷ []
          else Lui 7 (upper k) ∷ Op Add 7 7 base ∷ Store Sd 7 from (lower k) ∷ []) v (store 8 v.memory (b + k) n)
      by true q = near_store from base b k n v e value (ltb-true k (2 ^ 11) q) h
      by false q = far_store from base b k n v apart away e value h

  -- ---- what leaves all but scratch registers

  pub gives_ready : (is : List Instr) (v : View) (rd n : ℕ) → (rd ≡ 5) ⊎ ((rd ≡ 6) ⊎ (rd ≡ 7)) → Gives o s is v rd n
      → Readies o s is v
  gives_ready is v rd n one g = record {
    go = g.go;
    pc = g.pc;
    others = λ r a. g.others r (λ e. ⊎_elim (λ q. a.0 (e ∙ q)) (λ t. ⊎_elim (λ q. a.1 (e ∙ q)) (λ q. a.2 (e ∙ q)) t)
        one);
    memory = g.memory;
    accesses = g.accesses;
  }

  pub ready_none : (v : View) → Readies o s [] v
  ready_none v = record {
    go = tt;
    pc = (let e : v.pc ≡ v.pc + 4 * 0 = omega arith in e);
    others = λ r a. refl;
    memory = refl;
    accesses = refl;
  }

  pub ready_then : (is js : List Instr) (v : View) → Readies o s is v → Readies o s js (performs is v)
      → Readies o s (is ++ js) v
  ready_then is js v g h =
      let a = performs_append is js v in
      record {
        go = go_append o s is js v g.go h.go;
        pc = ap (λ u. u.pc) a ∙ rw (h.pc, g.pc, length-append is js) (omega arith);
        others = λ r n. ap (λ u. u.registers r) a ∙ h.others r n ∙ g.others r n;
        memory = ap (λ u. u.memory) a ∙ h.memory ∙ g.memory;
        accesses = ap (λ u. u.accesses) a ∙ h.accesses ∙ g.accesses;
      }

  -- what is kept anywhere in the record stays
  pub ready_kept : (is : List Instr) (v : View) (fp room : ℕ) (x : Location) → Readies o s is v → IsIn room x
      → kept fp (performs is v) x ≡ kept fp v x
  ready_kept is v fp room (Register r) g h = g.others r (saved_apart r h)
  ready_kept is v fp room (Frame k) g h = ap (λ m. load 8 m (fp + k)) g.memory

  pub ready_frame : (is : List Instr) (v : View) (base fp room : ℕ) → Readies o s is v → HasFrame s base fp room v
      → HasFrame s base fp room (performs is v)
  ready_frame is v base fp room g f = record {
    is = g.others base (low_apart base f.base_high) ∙ f.is;
    base_low = f.base_low;
    base_high = f.base_high;
    low = f.low;
    high = f.high;
    small = f.small;
  }

  pub of_frame : (base fp room k : ℕ) (v : View) → HasFrame s base fp room v → k + 8 ≤ room
      → IsOfSpaces s (fp + k) 8
  of_frame base fp room k v f h = record {
    low = omega (arith, f.low);
    high = omega (arith, f.high);
    small = f.small;
  }

  -- ---- operands

  -- a value stands in the register in which it is used, and no register but the scratch register has changed
  pub record Fetches (is : List Instr) (v : View) (x : Location) (t n : ℕ) : Type 0 where
    pub go : AllGoOn o s is v
    pub pc : (performs is v).pc ≡ v.pc + 4 * length is
    pub value : (performs is v).registers (used x t) ≡ n
    pub others : (r : ℕ) → r ≢ t → (performs is v).registers r ≡ v.registers r
    pub memory : (performs is v).memory ≡ v.memory
    pub accesses : (performs is v).accesses ≡ v.accesses

  pub fetches : (x : Location) (base t fp room : ℕ) (v : View) → 5 ≤ t → HasFrame s base fp room v → IsIn room x
      → Fetches (fetch x base t) v x t (kept fp v x)
  fetches (Register r) base t fp room v big f h = record {
    go = tt;
    pc = (let e : v.pc ≡ v.pc + 4 * 0 = omega arith in e);
    value = refl;
    others = λ r a. refl;
    memory = refl;
    accesses = refl;
  }
  fetches (Frame k) base t fp room v big f h =
      let g = load_gives t base fp k v (λ e. omega arith) (λ e. omega (arith, f.base_high)) f.is
      (of_frame base fp room k v f h.1) in
      record { go = g.go; pc = g.pc; value = g.value; others = g.others; memory = g.memory; accesses = g.accesses }

  pub fetches_ready : (is : List Instr) (v : View) (x : Location) (t n : ℕ) → (t ≡ 5) ⊎ ((t ≡ 6) ⊎ (t ≡ 7))
      → Fetches is v x t n → Readies o s is v
  fetches_ready is v x t n one g = record {
    go = g.go;
    pc = g.pc;
    others = λ r a. g.others r (λ e. ⊎_elim (λ q. a.0 (e ∙ q)) (λ u. ⊎_elim (λ q. a.1 (e ∙ q)) (λ q. a.2 (e ∙ q)) u)
        one);
    memory = g.memory;
    accesses = g.accesses;
  }

  -- ---- results

  -- one instruction behind those that make ready
  pub one_more : (is : List Instr) (i : Instr) (v : View) (rd n : ℕ) (accesses : List Access) → Readies o s is v
      → GoesOn o s i (performs is v)
      → perform i (performs is v) ≡ record (gets (performs is v) rd n) { accesses = accesses } → rd ≢ 0
      → Computes o s (is ++ i ∷ []) v rd n accesses
  one_more is i v rd n accesses g go e ne =
      let w = performs is v in
      let a = performs_append is (i ∷ []) v ∙ e in
      record {
        go = go_append o s is (i ∷ []) v g.go (go, tt);
        pc = ap (λ u. u.pc) a ∙ rw (g.pc, length-append is (i ∷ [])) (omega arith);
        value = ap (λ u. u.registers rd) a ∙ with_same w.registers rd n ne;
        others = λ r apart no. ap (λ u. u.registers r) a ∙ with_other w.registers rd n r apart ∙ g.others r no;
        memory = ap (λ u. u.memory) a ∙ g.memory;
        accesses_are = ap (λ u. u.accesses) a;
      }

  pub gives_computes : (is : List Instr) (v : View) (rd n : ℕ) → Gives o s is v rd n → Computes o s is v rd n v.accesses
  gives_computes is v rd n g = record {
    go = g.go;
    pc = g.pc;
    value = g.value;
    others = λ r a no. g.others r a;
    memory = g.memory;
    accesses_are = g.accesses;
  }

  beside_record : (fp room k n : ℕ) (m : Bytes) → 8 ≤ k → k + 8 ≤ room
      → KeepsBut (fp + 8) (room - 8) m (store 8 m (fp + k) n)
  beside_record fp room k n m low high b out = store_beside 8 m (fp + k) n b
      (⊎_elim (λ l. inl (omega arith)) (λ l. inr (omega arith)) out)

  -- the code of a result behind it: it is kept in its place
  pub keeps : (is : List Instr) (v : View) (base fp room : ℕ) (x : Location) (n : ℕ) (accesses : List Access)
      → Computes o s is v (used x 5) n accesses → n < 2 ^ 64 → HasFrame s base fp room v → IsIn room x
      → Puts o s fp room (is ++ keep x base 5) v x n accesses
  keeps is v base fp room (Register r) n accesses c small f h = subst
      (λ l. Puts o s fp room l v (Register r) n accesses) (sym (append-nil is)) (record {
        go = c.go;
        pc = c.pc;
        value = c.value;
        others = other;
        low = λ q l. c.others q (omega (arith, h.low)) (low_apart q l);
        memory = λ b out. ap (λ m. m b) c.memory;
        accesses_are = c.accesses_are;
      })
    where
      other : (y : Location) → IsIn room y → AreApart y (Register r) → kept fp (performs is v) y ≡ kept fp v y
      other (Register q) i a = c.others q a (saved_apart q i)
      other (Frame k) i a = ap (λ m. load 8 m (fp + k)) c.memory
  keeps is v base fp room (Frame k) n accesses c small f h =
      let w = performs is v in
      let five : base ≢ 5 = omega (arith, f.base_high) in
      let st = store_stores 5 base fp k n w (omega (arith, f.base_high)) (omega arith)
      (c.others base five (low_apart base f.base_high) ∙ f.is) c.value (of_frame base fp room k v f h.1) in
      let a = performs_append is (store_at 5 base k) v in
      let mem : (performs (is ++ store_at 5 base k) v).memory ≡ store 8 v.memory (fp + k) n =
      ap (λ u. u.memory) a ∙ st.memory_is ∙ ap (λ m. store 8 m (fp + k) n) c.memory in
      record {
        go = go_append o s is (store_at 5 base k) v c.go st.go;
        pc = ap (λ u. u.pc) a ∙ rw (st.pc, c.pc, length-append is (store_at 5 base k)) (omega arith);
        value = ap (λ m. load 8 m (fp + k)) mem ∙ load_stored 8 v.memory (fp + k) n small;
        others = other mem (λ r no5 no. ap (λ u. u.registers r) a ∙ st.others r no.2 ∙ c.others r no5 no);
        low = λ q l. ap (λ u. u.registers q) a ∙ st.others q (omega arith) ∙ c.others q (omega arith) (low_apart q l);
        memory = λ b out. ap (λ m. m b) mem ∙ beside_record fp room k n v.memory h.0 h.1 b out;
        accesses_are = ap (λ u. u.accesses) a ∙ st.accesses ∙ c.accesses_are;
      }
    where
      other : (performs (is ++ store_at 5 base k) v).memory ≡ store 8 v.memory (fp + k) n
          → ((r : ℕ) → r ≢ 5 → IsNoScratch r → (performs (is ++ store_at 5 base k) v).registers r ≡ v.registers r)
          → (y : Location) → IsIn room y → AreApart y (Frame k)
          → kept fp (performs (is ++ store_at 5 base k) v) y ≡ kept fp v y
      other mem stay (Register q) i b = stay q (saved_apart q i).0 (saved_apart q i)
      other mem stay (Frame j) i b = ap (λ m. load 8 m (fp + j)) mem
          ∙ load_beside 8 8 v.memory (fp + k) (fp + j) n (⊎_elim (λ l. inl (omega arith)) (λ l. inr (omega arith)) b)
