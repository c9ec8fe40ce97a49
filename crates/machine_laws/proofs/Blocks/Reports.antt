-- Reports: how long they are, and what stands in the words of arguments once their bytes have been stored.
use Rattle.std.proofs.Common.{◌≡◌, ◌≢◌, ℕ, zero, suc, ◌+◌, ◌*◌, ◌/◌, ◌%◌, ◌^◌, ◌<◌, ◌≤◌, ◌==◌, Bool, true, false}
use Rattle.std.proofs.Common.{List, [], ◌∷◌, length, decimal, refl, sym, ap, ◌∙◌, subst, arith}
use Rattle.std.proofs.Common.{inl, inr}
use Rattle.std.specs.Prelude.{nat_lt, ◌&&◌, if◌then◌else◌}
use Rattle.std.proofs.lemmas.Bool.{and_parts, ltb-true}
use Rattle.std.specs.List.{All}
use Rattle.std.specs.Fmt.{digits, digits_onto, digit_glyph}
use Rattle.addr_map.specs.Places.{spaces_begin}
use Rattle.behaviours.specs.Shown.{Write}
use Rattle.rv_isa.specs.declared.instruction.StoreOp.TheVariants.{Sb}
use Rattle.rv_isa.specs.declared.instruction.ImmOp.TheVariants.{Addi}
use Rattle.rv_isa.specs.declared.instruction.Instr.TheVariants.{Store, OpImm}
use Rattle.rv_isa.specs.Word.{sext}
use Rattle.rv_isa.specs.Results.{wrap, imm_result}
use Rattle.flat_code.specs.Memory.{Bytes, store}
use Rattle.flat_code.proofs.Stored.{put_same, store_beside}
use Rattle.machine_laws.specs.View.Segments.{IsOfData}
use Rattle.machine_laws.specs.View.Views.{View, bytes_from, address_in, perform, performs, AllGoOn}
use Rattle.machine_laws.proofs.View.Leaving.{no_access}
use Rattle.machine_laws.specs.Blocks.Tails.{text_bytes, line_text}
use Rattle.machine_laws.proofs.Blocks.Pieces.{with_same, with_other, small_sext, silent}

-- ---- how many instructions

pub text_length : (base k : ℕ) (text : List ℕ) → length (text_bytes base k text) ≡ 2 * length text
text_length base k [] = omega arith
text_length base k (b ∷ bs) = let r = text_length base (suc k) bs in omega arith

pub line_text_length : (text : List ℕ) → length (line_text text) ≡ 1 + 2 * length text
line_text_length text = let r = text_length 28 0 text in omega arith

-- of two lists that are short enough the one that is chosen is so too
pub choice_few : (b : Bool) (xs ys : List ℕ) (n : ℕ) → length xs ≤ n → length ys ≤ n
    → length (if b then xs else ys) ≤ n
choice_few true xs ys n x y = x
choice_few false xs ys n x y = y

-- the digits of a number are no more than the places that are given for them
digits_few : (k n : ℕ) (acc : List ℕ) → length (digits_onto k 10 false n acc) ≤ k + length acc
digits_few zero n acc = omega arith
digits_few (suc k) n acc =
    let d = digit_glyph false (n % 10) in
    let r = digits_few k (n / 10) (d ∷ acc) in
    choice_few (n / 10 == 0) (d ∷ acc) (digits_onto k 10 false (n / 10) (d ∷ acc)) (suc k + length acc) (omega arith)
    (omega arith)

-- a number in decimal has at most 64 digits
pub decimal_few : (n : ℕ) → length (decimal n) ≤ 64
unfolding digits
decimal_few n = digits_few 64 n []

-- ---- bytes

unfoldable pub are_bytes : List ℕ → Bool
are_bytes [] = true
are_bytes (b ∷ bs) = nat_lt b 256 && are_bytes bs

pub all_bytes : (xs : List ℕ) → are_bytes xs ≡ true → All (λ b. b < 256) xs
unfolding are_bytes
all_bytes [] a k d lt = absurd (omega arith)
all_bytes (x ∷ xs) a zero d lt = ltb-true x 256 (and_parts (nat_lt x 256) (are_bytes xs) a).0
all_bytes (x ∷ xs) a (suc k) d lt = all_bytes xs (and_parts (nat_lt x 256) (are_bytes xs) a).1 k d (omega arith)

-- ---- what has been stored

pub stored_byte : (m : Bytes) (a n : ℕ) → n < 256 → store 1 m a n a ≡ n
unfolding store
stored_byte m a n small = put_same m a (n % 256) ∙ omega arith

-- bytes stand in the memory from an address on, and no other register but the first scratch register and no other
-- memory has changed
pub record Stored (object_bytes space_bytes base area k : ℕ) (bytes : List ℕ) (v : View) : Type 0 where
  pub go : AllGoOn object_bytes space_bytes (text_bytes base k bytes) v
  pub pc : (performs (text_bytes base k bytes) v).pc ≡ v.pc + 4 * (2 * length bytes)
  pub others : (r : ℕ) → r ≢ 5 → (performs (text_bytes base k bytes) v).registers r ≡ v.registers r
  pub before : (b : ℕ) → b < area + k → (performs (text_bytes base k bytes) v).memory b ≡ v.memory b
  pub behind : (b : ℕ) → area + k + length bytes ≤ b → (performs (text_bytes base k bytes) v).memory b ≡ v.memory b
  pub are : bytes_from (performs (text_bytes base k bytes) v).memory (area + k) (length bytes) ≡ bytes
  pub accesses : (performs (text_bytes base k bytes) v).accesses ≡ v.accesses

module _ (o s base area : ℕ) (apart : base ≢ 5) (low : spaces_begin ≤ area) (high : area < 2 ^ 63) where
  pub stores_bytes : (k : ℕ) (bytes : List ℕ) (v : View) → All (λ b. b < 256) bytes → k + length bytes ≤ 2 ^ 11
      → ((j : ℕ) → j < k + length bytes → IsOfData o s (area + j) 1) → v.registers 0 ≡ 0 → v.registers base ≡ area
      → Stored o s base area k bytes v
  unfolding imm_result
  stores_bytes k [] v small few lies nought from = record {
    go = tt;
    pc = omega arith;
    others = λ r a. refl;
    before = λ b l. refl;
    behind = λ b l. refl;
    are = refl;
    accesses = refl;
  }
  stores_bytes k (b ∷ bs) v small few lies nought from =
      let b_small : b < 256 = small 0 0 (omega arith) in
      let b_is : b % 2 ^ 11 ≡ b = omega arith in
      let k_is : k % 2 ^ 12 ≡ k = omega arith in
      let n = wrap (v.registers 0 + sext 12 (b % 2 ^ 11)) in
      let n_is : n ≡ b = ap (λ q. wrap (q + sext 12 (b % 2 ^ 11))) nought ∙ ap (λ q. wrap (0 + sext 12 q)) b_is
      ∙ ap (λ q. wrap (0 + q)) (small_sext b (omega arith)) ∙ omega arith in
      let v1 = perform (OpImm Addi 5 0 (b % 2 ^ 11)) v in
      let v2 = perform (Store Sb base 5 (k % 2 ^ 12)) v1 in
      let stay : (r : ℕ) → r ≢ 5 → v1.registers r ≡ v.registers r = λ r a. with_other v.registers 5 n r a in
      let five : v1.registers 5 ≡ b = with_same v.registers 5 n (omega arith) ∙ n_is in
      let at : address_in v1 base (k % 2 ^ 12) ≡ area + k =
      ap (λ q. wrap (q + sext 12 (k % 2 ^ 12))) (stay base apart ∙ from)
      ∙ ap (λ q. wrap (area + sext 12 q)) k_is ∙ ap (λ q. wrap (area + q)) (small_sext k (omega arith))
      ∙ omega arith in
      let mem : v2.memory ≡ store 1 v.memory (area + k) b =
      ap (λ q. store 1 v.memory q (v1.registers 5)) at ∙ ap (store 1 v.memory (area + k)) five in
      let r = stores_bytes (suc k) bs v2 (λ j d lt. small (suc j) d (omega arith)) (omega arith)
      (λ j lt. lies j (omega arith)) (stay 0 (omega arith) ∙ nought) (stay base apart ∙ from) in
      let here : (performs (text_bytes base (suc k) bs) v2).memory (area + k) ≡ b =
      r.before (area + k) (omega arith) ∙ ap (λ m. m (area + k)) mem ∙ stored_byte v.memory (area + k) b b_small in
      let next : suc (area + k) ≡ area + suc k = omega arith in
      record {
        go = (tt, (subst (λ q. IsOfData o s q 1) (sym at) (lies k (omega arith)), r.go));
        pc = r.pc ∙ omega arith;
        others = λ q a. r.others q a ∙ stay q a;
        before = λ q l. r.before q (omega arith) ∙ ap (λ m. m q) mem
            ∙ store_beside 1 v.memory (area + k) b q (inl (omega arith));
        behind = λ q l. r.behind q (omega arith) ∙ ap (λ m. m q) mem
            ∙ store_beside 1 v.memory (area + k) b q (inr (omega arith));
        are = ap (λ x. x ∷ bytes_from (performs (text_bytes base (suc k) bs) v2).memory (suc (area + k)) (length bs))
            here
            ∙ ap (λ a. b ∷ bytes_from (performs (text_bytes base (suc k) bs) v2).memory a (length bs)) next
            ∙ ap (λ l. b ∷ l) r.are;
        accesses = r.accesses ∙ silent v1.accesses v1.pc (address_in v1 base (k % 2 ^ 12)) 1 Write (rw at (omega arith))
            ∙ no_access v.accesses v.pc;
      }
