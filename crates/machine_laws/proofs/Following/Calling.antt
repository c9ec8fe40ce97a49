-- A call, up to the jump: what is needed behind it waits in homes, the arguments stand in their words, and the frame
-- has moved on.
use Rattle.std.proofs.Common.{◌≡◌, ◌≢◌, ℕ, ◌+◌, ◌-◌, ◌*◌, ◌%◌, ◌^◌, ◌<◌, ◌≤◌, inr, refl, ap, ◌∙◌}
use Rattle.std.specs.Prelude.{nat_lt, nat_le, if◌then◌else◌}
use Rattle.std.proofs.Common.{arith, Bool, true, false, List, [], ◌∷◌, ◌++◌, length}
use Rattle.std.proofs.Common.{length-append}
use Rattle.std.proofs.lemmas.Bool.{ltb-true, leb-true, leb-false}
use Rattle.rv_isa.specs.declared.instruction.RegOp.TheVariants.{Add, Sub}
use Rattle.rv_isa.specs.declared.instruction.Instr.{Instr}
use Rattle.rv_isa.specs.declared.instruction.ImmOp.TheVariants.{Addi}
use Rattle.rv_isa.specs.declared.instruction.Instr.TheVariants.{Op, OpImm}
use Rattle.rv_isa.specs.Word.{sext}
use Rattle.rv_isa.specs.Results.{wrap, reg_result, imm_result}
use Rattle.flat_code.specs.Memory.{load, Beside}
use Rattle.flat_code.proofs.Stored as stored
use Rattle.machine_laws.specs.View.Views.{View, performs, AllGoOn}
use Rattle.machine_laws.proofs.View.Leaving.{no_access}
use Rattle.machine_laws.specs.Blocks.Blocks.{constant}
use Rattle.machine_laws.specs.Blocks.Effects.{kept, HasFrame}
use Rattle.machine_laws.proofs.Blocks.Pieces.{performs_append, go_append, constant_gives, with_same, with_other}
use Rattle.machine_laws.proofs.Blocks.Pieces.{low_apart, small_sext}
use Rattle.machine_laws.specs.Calls.Calls.{Keeping, save, give, advance, retreat, call_block}
use Rattle.machine_laws.specs.Calls.Effects.{AreKept, HasArguments}
use Rattle.machine_laws.proofs.Calls.Words.{moved_frame, kept_above, saves, gives_all}

-- the callee's address comes to stand in a register, and only the register for it has changed
pub record Aims (o s : ℕ) (is : List Instr) (v : View) (target a : ℕ) : Type 0 where
  pub go : AllGoOn o s is v
  pub pc : (performs is v).pc ≡ v.pc + 4 * length is
  pub value : (performs is v).registers target ≡ a
  pub others : (r : ℕ) → r ≢ 28 → (performs is v).registers r ≡ v.registers r
  pub memory : (performs is v).memory ≡ v.memory
  pub accesses : (performs is v).accesses ≡ v.accesses

module _ (o s fp : ℕ) (k : Keeping) where
  -- the frame moves on, or back
  pub record Moves (is : List Instr) (v : View) (to : ℕ) : Type 0 where
    pub go : AllGoOn o s is v
    pub pc : (performs is v).pc ≡ v.pc + 4 * length is
    pub base : (performs is v).registers k.base ≡ to
    pub others : (r : ℕ) → r ≢ k.base → r ≢ 6 → (performs is v).registers r ≡ v.registers r
    pub memory : (performs is v).memory ≡ v.memory
    pub accesses : (performs is v).accesses ≡ v.accesses

  -- one instruction moves it by a number that it has in itself
  near_moves : (v : View) (i to : ℕ) → 0 < k.base → wrap (v.registers k.base + sext 12 i) ≡ to
      → Moves (OpImm Addi k.base k.base i ∷ []) v to
  unfolding imm_result
  near_moves v i to some is =
      let n = wrap (v.registers k.base + sext 12 i) in
      record {
        go = (tt, tt);
        pc = refl;
        base = with_same v.registers k.base n (omega arith) ∙ is;
        others = λ r b c. with_other v.registers k.base n r b;
        memory = refl;
        accesses = no_access v.accesses v.pc;
      }

  far_advances : (v : View) → v.registers 0 ≡ 0 → v.registers k.base ≡ fp → 0 < k.base → k.base < 5
      → fp + k.room < 2 ^ 63
      → Moves (constant 6 k.room ++ Op Add k.base k.base 6 ∷ []) v (fp + k.room)
  unfolding reg_result
  far_advances v nought at some low small =
      let g = constant_gives o s 6 k.room v (omega arith) nought (omega arith) in
      let is = constant 6 k.room in
      let w = performs is v in
      let last = Op Add k.base k.base 6 ∷ [] in
      let a = performs_append is last v in
      let n = wrap (w.registers k.base + w.registers 6) in
      let n_is : n ≡ fp + k.room = ap (λ q. wrap (q + w.registers 6)) (g.others k.base (omega arith) ∙ at)
      ∙ ap (λ q. wrap (fp + q)) g.value ∙ omega arith in
      record {
        go = go_append o s is last v g.go (tt, tt);
        pc = ap (λ u. u.pc) a ∙ rw (g.pc, length-append is last) (omega arith);
        base = ap (λ u. u.registers k.base) a ∙ with_same w.registers k.base n (omega arith) ∙ n_is;
        others = λ r b c. ap (λ u. u.registers r) a ∙ with_other w.registers k.base n r b ∙ g.others r c;
        memory = ap (λ u. u.memory) a ∙ g.memory;
        accesses = ap (λ u. u.accesses) a ∙ no_access w.accesses w.pc ∙ g.accesses;
      }

  far_retreats : (v : View) → v.registers 0 ≡ 0 → v.registers k.base ≡ fp + k.room → 0 < k.base → k.base < 5
      → fp + k.room < 2 ^ 63 → Moves (constant 6 k.room ++ Op Sub k.base k.base 6 ∷ []) v fp
  unfolding reg_result
  far_retreats v nought at some low small =
      let g = constant_gives o s 6 k.room v (omega arith) nought (omega arith) in
      let is = constant 6 k.room in
      let w = performs is v in
      let last = Op Sub k.base k.base 6 ∷ [] in
      let a = performs_append is last v in
      let n = (w.registers k.base + (2 ^ 64 - w.registers 6)) % 2 ^ 64 in
      let n_is : n ≡ fp = ap (λ q. (q + (2 ^ 64 - w.registers 6)) % 2 ^ 64) (g.others k.base (omega arith) ∙ at)
      ∙ ap (λ q. (fp + k.room + (2 ^ 64 - q)) % 2 ^ 64) g.value ∙ omega arith in
      record {
        go = go_append o s is last v g.go (tt, tt);
        pc = ap (λ u. u.pc) a ∙ rw (g.pc, length-append is last) (omega arith);
        base = ap (λ u. u.registers k.base) a ∙ with_same w.registers k.base n (omega arith) ∙ n_is;
        others = λ r b c. ap (λ u. u.registers r) a ∙ with_other w.registers k.base n r b ∙ g.others r c;
        memory = ap (λ u. u.memory) a ∙ g.memory;
        accesses = ap (λ u. u.accesses) a ∙ no_access w.accesses w.pc ∙ g.accesses;
      }

  pub advances : (v : View) → v.registers 0 ≡ 0 → v.registers k.base ≡ fp → 0 < k.base → k.base < 5
      → fp + k.room < 2 ^ 63 → Moves (advance k) v (fp + k.room)
  unfolding advance
  advances v nought at some low small = by (nat_lt k.room (2 ^ 11)) refl
    where
      by : (b : Bool) → nat_lt k.room (2 ^ 11) ≡ b
          → Moves (if b then OpImm Addi k.base k.base (k.room % 2 ^ 12) ∷ []
          else constant 6 k.room ++ Op Add k.base k.base 6 ∷ []) v (fp + k.room)
      by true e =
          let l = ltb-true k.room (2 ^ 11) e in
          near_moves v (k.room % 2 ^ 12) (fp + k.room) some
          (ap (λ q. wrap (q + sext 12 (k.room % 2 ^ 12))) at
          ∙ ap (λ q. wrap (fp + q)) (small_sext (k.room % 2 ^ 12) (omega arith)) ∙ omega arith)
      by false e = far_advances v nought at some low small

  pub retreats : (v : View) → v.registers 0 ≡ 0 → v.registers k.base ≡ fp + k.room → 0 < k.base → k.base < 5
      → fp + k.room < 2 ^ 63 → Moves (retreat k) v fp
  unfolding retreat
  retreats v nought at some low small = by (nat_lt k.room (2 ^ 11)) refl
    where
      back : (c : Bool) → k.room < 2 ^ 11 → nat_le (2 ^ 11) ((2 ^ 12 - k.room) % 2 ^ 12) ≡ c
          → wrap (fp + k.room + sext 12 ((2 ^ 12 - k.room) % 2 ^ 12)) ≡ fp
      back true l q = let h = leb-true (2 ^ 11) ((2 ^ 12 - k.room) % 2 ^ 12) q in rw q (omega arith)
      back false l q = let h = leb-false (2 ^ 11) ((2 ^ 12 - k.room) % 2 ^ 12) q in rw q (omega arith)

      by : (b : Bool) → nat_lt k.room (2 ^ 11) ≡ b
          → Moves (if b then OpImm Addi k.base k.base ((2 ^ 12 - k.room) % 2 ^ 12) ∷ []
          else constant 6 k.room ++ Op Sub k.base k.base 6 ∷ []) v fp
      by true e =
          near_moves v ((2 ^ 12 - k.room) % 2 ^ 12) fp some
          (ap (λ q. wrap (q + sext 12 ((2 ^ 12 - k.room) % 2 ^ 12))) at
          ∙ back (nat_le (2 ^ 11) ((2 ^ 12 - k.room) % 2 ^ 12)) (ltb-true k.room (2 ^ 11) e) refl)
      by false e = far_retreats v nought at some low small

  -- all is ready for the jump
  pub record Prepared (wanted : ℕ → Bool) (area first n target a : ℕ) (aim : List Instr) (v : View) : Type 0 where
    pub go : AllGoOn o s (call_block k wanted first n aim) v
    pub pc : (performs (call_block k wanted first n aim) v).pc ≡ v.pc + 4 * length (call_block k wanted first n aim)
    pub target_is : (performs (call_block k wanted first n aim) v).registers target ≡ a
    pub base : (performs (call_block k wanted first n aim) v).registers k.base ≡ fp + k.room
    pub low : (r : ℕ) → r < 5 → r ≢ k.base
        → (performs (call_block k wanted first n aim) v).registers r ≡ v.registers r
    pub set : (j : ℕ) → j < n
        → load 8 (performs (call_block k wanted first n aim) v).memory (area + 8 * j) ≡ kept fp v (k.place (first + j))
    pub saved : (y : ℕ) → y < k.count → wanted y ≡ true
        → load 8 (performs (call_block k wanted first n aim) v).memory (fp + k.home y) ≡ kept fp v (k.place y)
    pub memory : (b : ℕ) → Beside area (8 * n) b → Beside (fp + 8) (k.room - 8) b
        → (performs (call_block k wanted first n aim) v).memory b ≡ v.memory b
    pub accesses : (performs (call_block k wanted first n aim) v).accesses ≡ v.accesses

  pub prepares : (live wanted : ℕ → Bool) (area count first n target a : ℕ) (aim : List Instr) (v : View) → n ≤ count
      → 8 ≤ k.room
      → v.registers 0 ≡ 0 → HasArguments v area count fp → HasFrame s k.base fp k.room v → AreKept k live
      → ((y : ℕ) → wanted y ≡ true → live y ≡ true) → ((y : ℕ) → live y ≡ true → kept fp v (k.place y) < 2 ^ 64)
      → ((j : ℕ) → j < n → live (first + j) ≡ true) → k.base ≢ 3 → target ≢ 6 → target ≢ k.base
      → ((w : View) → HasFrame s k.base fp k.room w → w.registers 0 ≡ 0
      → ((y : ℕ) → live y ≡ true → kept fp w (k.place y) ≡ kept fp v (k.place y)) → Aims o s aim w target a)
      → Prepared wanted area first n target a aim v
  prepares live wanted area count first n target a aim v le big nought ha f ks sub words args no_area no_six no_base
      aims
      =
      let is1 = save k wanted k.count in
      let s1 = saves o s fp k live wanted k.count v ks sub words f in
      let v1 = performs is1 v in
      let f1 : HasFrame s k.base fp k.room v1 = moved_frame s k.base fp k.room v v1 f
      (s1.others k.base (omega (arith, f.base_high))) in
      let ha1 : HasArguments v1 area count fp = record
      { is = s1.others 3 (omega arith) ∙ ha.is; low = ha.low; below = ha.below } in
      let is2 = give k first n in
      let g2 = gives_all o s fp k area count first n v1 le ha1 f1 (λ j lt. ks.inside (first + j) (args j lt))
      (λ j lt. rw (s1.held (first + j) (args j lt)) (words (first + j) (args j lt))) in
      let v2 = performs is2 v1 in
      let f2 : HasFrame s k.base fp k.room v2 = moved_frame s k.base fp k.room v1 v2 f1
      (g2.others k.base (low_apart k.base f.base_high)) in
      let z1 : v1.registers 0 ≡ 0 = s1.others 0 (omega arith) ∙ nought in
      let z2 : v2.registers 0 ≡ 0 = g2.others 0 (low_apart 0 (omega arith)) ∙ z1 in
      let below_all : area + 8 * n ≤ fp = omega (arith, ha.below) in
      let held2 : (y : ℕ) → live y ≡ true → kept fp v2 (k.place y) ≡ kept fp v (k.place y) =
      λ y live_y. kept_above fp k.room area (8 * n) v1 v2 (k.place y) below_all g2.others g2.memory
      (ks.inside y live_y) ∙ s1.held y live_y in
      let a3 = aims v2 f2 z2 held2 in
      let v3 = performs aim v2 in
      let z3 : v3.registers 0 ≡ 0 = a3.others 0 (omega arith) ∙ z2 in
      let m4 = advances v3 z3 (a3.others k.base (omega (arith, f.base_high)) ∙ f2.is) f.base_low f.base_high
      (omega (arith, f.high, f.small)) in
      let is4 = advance k in
      let v4 = performs is4 v3 in
      let all = performs_append is1 (is2 ++ (aim ++ is4)) v ∙ performs_append is2 (aim ++ is4) v1
      ∙ performs_append aim is4 v2 in
      let mem4 : v4.memory ≡ v2.memory = m4.memory ∙ a3.memory in
      let len = length-append is1 (is2 ++ (aim ++ is4)) in
      let len2 = length-append is2 (aim ++ is4) in
      let len3 = length-append aim is4 in
      record {
        go = go_append o s is1 (is2 ++ (aim ++ is4)) v s1.go
            (go_append o s is2 (aim ++ is4) v1 g2.go (go_append o s aim is4 v2 a3.go m4.go));
        pc = ap (λ u. u.pc) all ∙ rw (m4.pc, a3.pc, g2.pc, s1.pc, len, len2, len3) (omega arith);
        target_is = ap (λ u. u.registers target) all ∙ m4.others target no_base no_six ∙ a3.value;
        base = ap (λ u. u.registers k.base) all ∙ m4.base;
        low = λ r lt ne. ap (λ u. u.registers r) all ∙ m4.others r ne (omega arith) ∙ a3.others r (omega arith)
            ∙ g2.others r (low_apart r lt) ∙ s1.others r (omega arith);
        set = λ j lt. ap (λ u. load 8 u.memory (area + 8 * j)) all ∙ ap (λ q. load 8 q (area + 8 * j)) mem4
            ∙ g2.set j lt ∙ s1.held (first + j) (args j lt);
        saved = λ y lt w. ap (λ u. load 8 u.memory (fp + k.home y)) all ∙ ap (λ q. load 8 q (fp + k.home y)) mem4
            ∙ stored.load_kept 8 v1.memory v2.memory (fp + k.home y)
            (λ j l. g2.memory (fp + k.home y + j) (inr (omega arith)))
            ∙ s1.saved y lt w;
        memory = λ b out out'. ap (λ u. u.memory b) all ∙ ap (λ q. q b) mem4 ∙ g2.memory b out ∙ s1.memory b out';
        accesses = ap (λ u. u.accesses) all ∙ m4.accesses ∙ a3.accesses ∙ g2.accesses ∙ s1.accesses;
      }
