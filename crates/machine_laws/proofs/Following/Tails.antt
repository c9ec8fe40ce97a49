-- The tail of an ending: the report of its kind and line goes to the error output, and the machine ends.
use Rattle.std.proofs.Common.{◌≡◌, ◌≢◌, ℕ, zero, suc, ◌+◌, ◌-◌, ◌*◌, ◌/◌, ◌%◌, ◌^◌, ◌<◌, ◌≤◌, ◌==◌, inl, inr}
use Rattle.std.proofs.Common.{⊎_elim}
use Rattle.std.proofs.Common.{Bool, true, false, not, List, [], ◌∷◌, ◌++◌, length, decimal, Some, refl, sym}
use Rattle.std.proofs.Common.{ap, ◌∙◌, subst, arith, length-append, append_assoc, true≢false}
use Rattle.std.specs.Prelude.{nat_le, if◌then◌else◌}
use Rattle.std.specs.List.{All}
use Rattle.std.specs.Fmt.{digits, digits_onto, digit_glyph}
use Rattle.std.proofs.lemmas.Bool.{lt-ltb, lt-leb, le-leb, eq-eqb}
use Rattle.addr_map.specs.Places.{spaces_begin}
use Rattle.behaviours.specs.Shown.{Write}
use Rattle.sb_base.specs.Endings.{report_at}
use Rattle.rv_isa.specs.declared.instruction.BranchOp.TheVariants.{Bne}
use Rattle.rv_isa.specs.declared.instruction.StoreOp.TheVariants.{Sb}
use Rattle.rv_isa.specs.declared.instruction.ImmOp.TheVariants.{Addi}
use Rattle.rv_isa.specs.declared.instruction.RegOp.TheVariants.{Sub}
use Rattle.rv_isa.specs.declared.instruction.RegOp32.TheVariants.{Divuw, Remuw}
use Rattle.rv_isa.specs.declared.instruction.Instr.{Instr}
use Rattle.rv_isa.specs.declared.instruction.Instr.TheVariants.{Branch, Store, OpImm, Op, Op32, Ecall}
use Rattle.rv_isa.specs.Word.{sext}
use Rattle.rv_isa.specs.Results.{wrap, low_word, imm_result, reg_result, reg32_result, branch_taken}
use Rattle.flat_code.specs.Memory.{Bytes, store}
use Rattle.flat_code.proofs.Stored.{store_beside}
use Rattle.rv_sim.specs.declared.stop.Stop.TheVariants.{Exited}
use Rattle.rv_sim.specs.Run.{Configuration, Turn, runs}
use Rattle.machine_laws.specs.View.Segments.{IsOfData}
use Rattle.machine_laws.specs.View.Views.{View, Layout, Fits, AllStand, AllGoOn, Shows, bytes_from, with_value, perform}
use Rattle.machine_laws.specs.View.Views.{performs, address_in}
use Rattle.machine_laws.proofs.View.Straight.{runs_then}
use Rattle.machine_laws.proofs.View.Leaving.{no_access, branch, exits, writes_errors}
use Rattle.machine_laws.specs.Blocks.Tails.{text_before, newline, line_digits, line_text, written, ended}
use Rattle.machine_laws.specs.Blocks.Tails.{tail_block}
use Rattle.machine_laws.proofs.Blocks.Pieces.{with_same, with_other, silent}
use Rattle.machine_laws.proofs.Blocks.Reports.{stored_byte, stores_bytes, line_text_length, choice_few}
use Rattle.machine_laws.proofs.Following.Asks.{immediate, immediate_other, small_immediate}
use Rattle.machine_laws.proofs.Following.Runs.{Comes, straight_comes, then_comes, all_append}

-- ---- bytes of a memory

bytes_same : (m m' : Bytes) (a n : ℕ) → ((b : ℕ) → a ≤ b → b < a + n → m' b ≡ m b)
    → bytes_from m' a n ≡ bytes_from m a n
bytes_same m m' a zero h = refl
bytes_same m m' a (suc n) h =
    ap (λ q. q ∷ bytes_from m' (suc a) n) (h a (omega arith) (omega arith))
    ∙ ap (λ q. m a ∷ q) (bytes_same m m' (suc a) n (λ b l r. h b (omega arith) (omega arith)))

bytes_join : (m : Bytes) (a x y : ℕ) → bytes_from m a (x + y) ≡ bytes_from m a x ++ bytes_from m (a + x) y
bytes_join m a zero y =
    let n : 0 + y ≡ y = omega arith in
    let b : a ≡ a + 0 = omega arith in
    ap (bytes_from m a) n ∙ ap (λ q. bytes_from m q y) b
bytes_join m a (suc x) y =
    let n : suc x + y ≡ suc (x + y) = omega arith in
    let b : suc a + x ≡ a + suc x = omega arith in
    ap (bytes_from m a) n
    ∙ ap (λ q. m a ∷ q) (bytes_join m (suc a) x y ∙ ap (λ q. bytes_from m (suc a) x ++ bytes_from m q y) b)

-- ---- digits

-- ten times as many for each digit more
tens : (more : ℕ) → ℕ
tens zero = 10
tens (suc j) = 10 * tens j

either_append : (b : Bool) (xs ys xs' ys' zs : List ℕ) → xs' ≡ xs ++ zs → ys' ≡ ys ++ zs
    → (if b then xs' else ys') ≡ (if b then xs else ys) ++ zs
either_append true xs ys xs' ys' zs x y = x
either_append false xs ys xs' ys' zs x y = y

onto_append : (k n : ℕ) (xs ys : List ℕ)
    → digits_onto k 10 false n (xs ++ ys) ≡ digits_onto k 10 false n xs ++ ys
onto_append zero n xs ys = refl
onto_append (suc k) n xs ys =
    let d = digit_glyph false (n % 10) in
    either_append (n / 10 == 0) (d ∷ xs) (digits_onto k 10 false (n / 10) (d ∷ xs)) (d ∷ (xs ++ ys))
    (digits_onto k 10 false (n / 10) (d ∷ (xs ++ ys))) ys refl (onto_append k (n / 10) (d ∷ xs) ys)

decimal_then : (n : ℕ) (ys : List ℕ) → digits_onto 64 10 false n ys ≡ decimal n ++ ys
unfolding digits
decimal_then n ys = onto_append 64 n [] ys

glyph_is : (n : ℕ) → digit_glyph false (n % 10) ≡ 48 + n % 10
glyph_is n = rw (lt-ltb (n % 10) 10 (omega arith)) refl

small_word : (n : ℕ) → n < 2 ^ 31 → sext 32 n ≡ n
small_word n l = rw (lt-leb (2 ^ 31) n l) refl

module _ (l : Layout) (fit : Fits l) (area : ℕ) (low : spaces_begin ≤ area) (high : area < 2 ^ 63)
    (lies : IsOfData l.object_bytes l.space_bytes area (2 ^ 11)) where
  -- a part of the words of arguments may be a buffer
  part_lies : (a n : ℕ) → area ≤ a → a + n ≤ area + 2 ^ 11 → IsOfData l.object_bytes l.space_bytes a n
  part_lies a n from few = ⊎_elim
      (λ q. let begin = q.0 in let to = q.1 in inl (omega arith, omega arith))
      (λ q. let begin = q.0 in let to = q.1 in inr (omega arith, omega arith)) lies

  -- ---- one digit

  record Digit (c : Configuration) (v : View) (a n : ℕ) : Type 0 where
    view : View
    comes : Comes l 6 c view
    pc : view.pc ≡ (if n / 10 == 0 then v.pc + 24 else v.pc)
    rest : view.registers 5 ≡ n / 10
    top : view.registers 28 ≡ a
    memory : view.memory ≡ store 1 v.memory a (48 + n % 10)
    others : (r : ℕ) → r ≢ 5 → r ≢ 7 → r ≢ 28 → view.registers r ≡ v.registers r
    accesses : view.accesses ≡ v.accesses

  digit : (c : Configuration) (v : View) (a n : ℕ) → low_word (v.registers 5) ≡ n → n < 2 ^ 32 → v.registers 6 ≡ 10
      → v.registers 28 ≡ a + 1 → v.registers 0 ≡ 0 → area ≤ a → a < area + 2 ^ 11 → v.pc % 4 ≡ 0
      → AllStand l v.pc line_digits → Shows l c v → Digit c v a n
  unfolding imm_result reg32_result branch_taken
  digit c v a n line few ten above nought from to whole stand h =
      let is = Op32 Remuw 7 5 6 ∷ OpImm Addi 7 7 48 ∷ OpImm Addi 28 28 (2 ^ 12 - 1) ∷ Store Sb 28 7 0
      ∷ Op32 Divuw 5 5 6 ∷ [] in
      let v1 = perform (Op32 Remuw 7 5 6) v in
      let v2 = perform (OpImm Addi 7 7 48) v1 in
      let v3 = perform (OpImm Addi 28 28 (2 ^ 12 - 1)) v2 in
      let v4 = perform (Store Sb 28 7 0) v3 in
      let v5 = perform (Op32 Divuw 5 5 6) v4 in
      let last = reg32_result Remuw (low_word (v.registers 5)) (low_word (v.registers 6)) in
      let last_is : last ≡ n % 10 = ap (λ q. reg32_result Remuw q (low_word (v.registers 6))) line
      ∙ ap (λ q. reg32_result Remuw n (low_word q)) ten ∙ small_word (n % 10) (omega arith) in
      let seven1 : v1.registers 7 ≡ n % 10 = with_same v.registers 7 last (omega arith) ∙ last_is in
      let glyph : wrap (n % 10 + sext 12 48) ≡ 48 + n % 10 = omega arith in
      let seven2 : v2.registers 7 ≡ 48 + n % 10 = immediate v1 7 7 48 (48 + n % 10) (omega arith)
      (ap (λ q. wrap (q + sext 12 48)) seven1 ∙ glyph) in
      let down : wrap (a + 1 + sext 12 (2 ^ 12 - 1)) ≡ a = omega arith in
      let top3 : v3.registers 28 ≡ a = immediate v2 28 28 (2 ^ 12 - 1) a (omega arith)
      (ap (λ q. wrap (q + sext 12 (2 ^ 12 - 1))) (immediate_other v1 7 7 48 28 (omega arith)
      ∙ with_other v.registers 7 last 28 (omega arith) ∙ above) ∙ down) in
      let seven3 : v3.registers 7 ≡ 48 + n % 10 = immediate_other v2 28 28 (2 ^ 12 - 1) 7 (omega arith) ∙ seven2 in
      let here : wrap (a + sext 12 0) ≡ a = omega arith in
      let at : address_in v3 28 0 ≡ a = ap (λ q. wrap (q + sext 12 0)) top3 ∙ here in
      let stay3 : (r : ℕ) → r ≢ 7 → r ≢ 28 → v3.registers r ≡ v.registers r = λ r n7 n28.
      immediate_other v2 28 28 (2 ^ 12 - 1) r n28 ∙ immediate_other v1 7 7 48 r n7
      ∙ with_other v.registers 7 last r n7 in
      let less = reg32_result Divuw (low_word (v4.registers 5)) (low_word (v4.registers 6)) in
      let less_is : less ≡ n / 10 = ap (λ q. reg32_result Divuw (low_word q) (low_word (v4.registers 6)))
      (stay3 5 (omega arith) (omega arith))
      ∙ ap (λ q. reg32_result Divuw q (low_word (v4.registers 6))) line
      ∙ ap (λ q. reg32_result Divuw n (low_word q)) (stay3 6 (omega arith) (omega arith) ∙ ten)
      ∙ small_word (n / 10) (omega arith) in
      let five5 : v5.registers 5 ≡ n / 10 = with_same v4.registers 5 less (omega arith) ∙ less_is in
      let parts = all_append l is (Branch Bne 5 0 (2 ^ 13 - 20) ∷ []) v.pc stand in
      let first = straight_comes l fit is c v parts.0 (
        tt,
        (
          tt,
          (
            tt,
            (
              subst (λ q. IsOfData l.object_bytes l.space_bytes q 1) (sym at)
                  (part_lies a 1 from (omega arith)),
              (tt, tt),
            ),
          ),
        ),
      ) h in
      let pc5 : v5.pc ≡ v.pc + 20 = let q : v.pc + 4 + 4 + 4 + 4 + 4 ≡ v.pc + 20 = omega arith in q in
      let twenty : v.pc + 4 * 5 ≡ v5.pc = omega (arith, pc5) in
      let stand5 = subst (λ q. AllStand l q (Branch Bne 5 0 (2 ^ 13 - 20) ∷ [])) twenty parts.1 in
      let small = stand5.0.small in
      let back : wrap (v5.pc + sext 13 (2 ^ 13 - 20)) ≡ v.pc = omega (arith, pc5, small) in
      let b = branch l Bne 5 0 (2 ^ 13 - 20) v.pc first.after v5 fit stand5.0 back whole first.shows in
      let nought5 : v5.registers 0 ≡ 0 = with_other v4.registers 5 less 0 (omega arith)
      ∙ stay3 0 (omega arith) (omega arith) ∙ nought in
      let taken_is : branch_taken Bne (v5.registers 5) (v5.registers 0) ≡ not (n / 10 == 0) =
      ap (λ q. branch_taken Bne q (v5.registers 0)) five5 ∙ ap (branch_taken Bne (n / 10)) nought5 in
      let next : v5.pc + 4 ≡ v.pc + 24 = omega (arith, pc5) in
      let w = record v5
      { pc = if branch_taken Bne (v5.registers 5) (v5.registers 0) then v.pc else v5.pc + 4 } in
      record {
        view = w;
        comes = then_comes l 5 1 c v5 w first (record { after = b.0; is = b.1; shows = b.2; stays = b.3 });
        pc = ap (λ q. if q then v.pc else v5.pc + 4) taken_is ∙ ap (λ q. if not (n / 10 == 0) then v.pc else q) next
            ∙ turned (n / 10 == 0) v.pc (v.pc + 24);
        rest = five5;
        top = with_other v4.registers 5 less 28 (omega arith) ∙ top3;
        memory = ap (λ q. store 1 v.memory q (v3.registers 7)) at ∙ ap (store 1 v.memory a) seven3;
        others = λ r n5 n7 n28. with_other v4.registers 5 less r n5 ∙ stay3 r n7 n28;
        accesses = no_access v4.accesses v4.pc
            ∙ silent v3.accesses v3.pc (address_in v3 28 0) 1 Write (rw at (omega arith))
            ∙ no_access v2.accesses v2.pc ∙ no_access v1.accesses v1.pc ∙ no_access v.accesses v.pc;
      }
    where
      turned : (b : Bool) (x y : ℕ) → (if not b then x else y) ≡ (if b then y else x)
      turned true x y = refl
      turned false x y = refl

  -- ---- all digits

  -- they are few
  digits_most : (j k n : ℕ) (acc : List ℕ) → n < tens j
      → length (digits_onto k 10 false n acc) ≤ suc j + length acc
  unfolding tens
  digits_most j zero n acc lt = omega arith
  digits_most zero (suc k) n acc lt =
      let d = digit_glyph false (n % 10) in
      let none : n / 10 ≡ 0 = omega (arith, lt) in
      let one = ap (λ b. length (if b then d ∷ acc else digits_onto k 10 false (n / 10) (d ∷ acc)))
      (eq-eqb (n / 10) 0 none) in
      omega (arith, one)
  digits_most (suc j) (suc k) n acc lt =
      let d = digit_glyph false (n % 10) in
      let few : n / 10 < tens j = omega (arith, lt) in
      let r = digits_most j k (n / 10) (d ∷ acc) few in
      choice_few (n / 10 == 0) (d ∷ acc) (digits_onto k 10 false (n / 10) (d ∷ acc)) (suc (suc j) + length acc)
      (omega arith) (omega (arith, r))

  -- they stand before what stood behind them
  record Spelled (c : Configuration) (v : View) (least end count : ℕ) (spelled : List ℕ) : Type 0 where
    steps : ℕ
    view : View
    comes : Comes l steps c view
    many : steps + 6 * count ≡ 6 * length spelled
    pc : view.pc ≡ v.pc + 24
    top : ℕ
    top_is : view.registers 28 ≡ top
    top_low : least ≤ top
    end_is : top + length spelled ≡ end
    are : bytes_from view.memory top (length spelled) ≡ spelled
    others : (r : ℕ) → r ≢ 5 → r ≢ 7 → r ≢ 28 → view.registers r ≡ v.registers r
    accesses : view.accesses ≡ v.accesses

  digit_before : (m m' : Bytes) (a x : ℕ) (acc : List ℕ) → bytes_from m (a + 1) (length acc) ≡ acc
      → m' ≡ store 1 m a x → x < 256 → bytes_from m' a (suc (length acc)) ≡ x ∷ acc
  digit_before m m' a x acc are e small =
      let next : suc a ≡ a + 1 = omega arith in
      ap (λ q. q ∷ bytes_from m' (suc a) (length acc)) (ap (λ f. f a) e ∙ stored_byte m a x small)
      ∙ ap (λ q. x ∷ q) (bytes_same m m' (suc a) (length acc)
      (λ b lo hi. ap (λ f. f b) e ∙ store_beside 1 m a x b (inr (omega arith)))
      ∙ ap (λ q. bytes_from m q (length acc)) next ∙ are)

  -- one digit more than what the rest of the line gives, if anything is left
  one_more : (j : ℕ) (c : Configuration) (v : View) (a n least : ℕ) (acc : List ℕ) (d : Digit c v a n) (b : Bool)
      → (n / 10 == 0) ≡ b → least ≤ a
      → bytes_from d.view.memory a (suc (length acc)) ≡ digit_glyph false (n % 10) ∷ acc
      → ((n / 10 == 0) ≡ false → d.view.pc ≡ v.pc
      → Spelled d.comes.after d.view least (a + suc (length acc)) (suc (length acc))
      (digits_onto j 10 false (n / 10) (digit_glyph false (n % 10) ∷ acc)))
      → Spelled c v least (a + suc (length acc)) (length acc)
      (if b then digit_glyph false (n % 10) ∷ acc
      else digits_onto j 10 false (n / 10) (digit_glyph false (n % 10) ∷ acc))
  one_more j c v a n least acc d true e low now more = record {
    steps = 6;
    view = d.view;
    comes = d.comes;
    many = omega arith;
    pc = d.pc ∙ ap (λ b. if b then v.pc + 24 else v.pc) e;
    top = a;
    top_is = d.top;
    top_low = low;
    end_is = refl;
    are = now;
    others = d.others;
    accesses = d.accesses;
  }
  one_more j c v a n least acc d false e low now more =
      let same : d.view.pc ≡ v.pc = d.pc ∙ ap (λ b. if b then v.pc + 24 else v.pc) e in
      let s = more e same in
      let many = s.many in
      record {
        steps = s.steps + 6;
        view = s.view;
        comes = then_comes l 6 s.steps c d.view s.view d.comes s.comes;
        many = omega arith;
        pc = s.pc ∙ ap (λ q. q + 24) same;
        top = s.top;
        top_is = s.top_is;
        top_low = s.top_low;
        end_is = s.end_is;
        are = s.are;
        others = λ r n5 n7 n28. s.others r n5 n7 n28 ∙ d.others r n5 n7 n28;
        accesses = s.accesses ∙ d.accesses;
      }

  spells : (k j : ℕ) (c : Configuration) (v : View) (a n least : ℕ) (acc : List ℕ) → n < tens k → n < 2 ^ 32 → k ≤ j
      → low_word (v.registers 5) ≡ n → v.registers 6 ≡ 10 → v.registers 28 ≡ a + 1 → v.registers 0 ≡ 0
      → area ≤ least → least + k ≤ a → a < area + 2 ^ 11 → v.pc % 4 ≡ 0 → AllStand l v.pc line_digits
      → bytes_from v.memory (a + 1) (length acc) ≡ acc → Shows l c v
      → Spelled c v least (a + suc (length acc)) (length acc) (digits_onto (suc j) 10 false n acc)
  unfolding tens
  spells zero j c v a n least acc few word le line ten above nought from room to whole stand are h =
      let d = digit c v a n line word ten above nought (omega arith) to whole stand h in
      let small : 48 + n % 10 < 256 = omega arith in
      let now = digit_before v.memory d.view.memory a (48 + n % 10) acc are d.memory small
      ∙ ap (λ q. q ∷ acc) (sym (glyph_is n)) in
      let none = eq-eqb (n / 10) 0 (omega arith) in
      one_more j c v a n least acc d (n / 10 == 0) refl (omega arith) now
      (λ e same. absurd (true≢false (sym none ∙ e)))
  spells (suc k) zero c v a n least acc few word le line ten above nought from room to whole stand are h =
      absurd (omega arith)
  spells (suc k) (suc j) c v a n least acc few word le line ten above nought from room to whole stand are h =
      let d = digit c v a n line word ten above nought (omega arith) to whole stand h in
      let small : 48 + n % 10 < 256 = omega arith in
      let x = digit_glyph false (n % 10) in
      let now : bytes_from d.view.memory a (suc (length acc)) ≡ x ∷ acc =
      digit_before v.memory d.view.memory a (48 + n % 10) acc are d.memory small
      ∙ ap (λ q. q ∷ acc) (sym (glyph_is n)) in
      let below : a - 1 + 1 ≡ a = omega arith in
      let end : a - 1 + suc (suc (length acc)) ≡ a + suc (length acc) = omega arith in
      let word' : low_word (n / 10) ≡ n / 10 = omega arith in
      one_more (suc j) c v a n least acc d (n / 10 == 0) refl (omega arith) now
      (λ e same. subst (λ q. Spelled d.comes.after d.view least q (suc (length acc))
      (digits_onto (suc j) 10 false (n / 10) (x ∷ acc))) end
      (spells k j d.comes.after d.view (a - 1) (n / 10) least (x ∷ acc) (omega arith) (omega arith) (omega arith)
      (ap low_word d.rest ∙ word') (d.others 6 (omega arith) (omega arith) (omega arith) ∙ ten) (d.top ∙ sym below)
      (d.others 0 (omega arith) (omega arith) (omega arith) ∙ nought) from (omega arith) (omega arith)
      (ap (λ q. q % 4) same ∙ whole) (subst (λ q. AllStand l q line_digits) (sym same) stand)
      (ap (λ q. bytes_from d.view.memory q (suc (length acc))) below ∙ now) d.comes.shows))

  -- ---- a tail

  -- the report has gone to the error output, and the machine has ended
  pub record Told (status : ℕ) (report : List ℕ) (c : Configuration) (v : View) : Type 0 where
    pub steps : ℕ
    pub few : steps ≤ 6 * length report
    pub after : Turn
    pub is : runs steps c ≡ after
    pub ending : after.1 ≡ Some (Exited status)
    pub errors : after.0.errors ≡ c.errors ++ report
    pub output : after.0.output ≡ c.output
    pub taken : after.0.taken ≡ c.taken
    pub accesses : after.0.accesses ≡ v.accesses

  -- the newline
  record Begun (v : View) : Type 0 where
    go : AllGoOn l.object_bytes l.space_bytes newline v
    ten : (performs newline v).registers 6 ≡ 10
    top : (performs newline v).registers 28 ≡ area + 63
    memory : bytes_from (performs newline v).memory (area + 63) 1 ≡ 10 ∷ []
    others : (r : ℕ) → r ≢ 6 → r ≢ 28 → (performs newline v).registers r ≡ v.registers r
    pc : (performs newline v).pc ≡ v.pc + 12
    accesses : (performs newline v).accesses ≡ v.accesses

  begins : (v : View) → v.registers 0 ≡ 0 → v.registers 3 ≡ area → Begun v
  begins v nought three =
      let v1 = perform (OpImm Addi 28 3 63) v in
      let v2 = perform (OpImm Addi 6 0 10) v1 in
      let place : wrap (area + sext 12 63) ≡ area + 63 = omega arith in
      let top1 : v1.registers 28 ≡ area + 63 = immediate v 28 3 63 (area + 63) (omega arith)
      (ap (λ q. wrap (q + sext 12 63)) three ∙ place) in
      let top2 : v2.registers 28 ≡ area + 63 = immediate_other v1 6 0 10 28 (omega arith) ∙ top1 in
      let zero1 : v1.registers 0 ≡ 0 = immediate_other v 28 3 63 0 (omega arith) ∙ nought in
      let ten2 : v2.registers 6 ≡ 10 = immediate v1 6 0 10 10 (omega arith)
      (ap (λ q. wrap (q + sext 12 10)) zero1 ∙ small_immediate 10 (omega arith)) in
      let here : wrap (area + 63 + sext 12 0) ≡ area + 63 = omega arith in
      let at : address_in v2 28 0 ≡ area + 63 = ap (λ q. wrap (q + sext 12 0)) top2 ∙ here in
      let mem : (performs newline v).memory ≡ store 1 v.memory (area + 63) 10 =
      ap (λ q. store 1 v.memory q (v2.registers 6)) at ∙ ap (store 1 v.memory (area + 63)) ten2 in
      record {
        go = (
          tt,
          (
            tt,
            (
              subst (λ q. IsOfData l.object_bytes l.space_bytes q 1) (sym at)
                  (part_lies (area + 63) 1 (omega arith) (omega arith)),
              tt,
            ),
          ),
        );
        ten = ten2;
        top = top2;
        memory = ap (λ q. q ∷ []) (ap (λ f. f (area + 63)) mem ∙ stored_byte v.memory (area + 63) 10 (omega arith));
        others = λ r n6 n28. immediate_other v1 6 0 10 r n6 ∙ immediate_other v 28 3 63 r n28;
        pc = (let q : v.pc + 4 + 4 + 4 ≡ v.pc + 12 = omega arith in q);
        accesses = silent v2.accesses v2.pc (address_in v2 28 0) 1 Write (rw at (omega arith))
            ∙ no_access v1.accesses v1.pc ∙ no_access v.accesses v.pc;
      }

  -- the text
  record Texted (v : View) (from : ℕ) (text : List ℕ) : Type 0 where
    go : AllGoOn l.object_bytes l.space_bytes (line_text text) v
    from_is : (performs (line_text text) v).registers 28 ≡ from
    are : bytes_from (performs (line_text text) v).memory from (length text) ≡ text
    behind : (b : ℕ) → from + length text ≤ b → (performs (line_text text) v).memory b ≡ v.memory b
    others : (r : ℕ) → r ≢ 5 → r ≢ 28 → (performs (line_text text) v).registers r ≡ v.registers r
    pc : (performs (line_text text) v).pc ≡ v.pc + 4 * (1 + 2 * length text)
    accesses : (performs (line_text text) v).accesses ≡ v.accesses

  texts : (v : View) (from : ℕ) (text : List ℕ) → All (λ b. b < 256) text → v.registers 28 ≡ from + length text
      → v.registers 0 ≡ 0 → area ≤ from → from + length text ≤ area + 2 ^ 11 → 0 < length text → length text < 2 ^ 11
      → Texted v from text
  texts v from text small top nought low_from fits some short =
      let down = (2 ^ 12 - length text) % 2 ^ 12 in
      let v1 = perform (OpImm Addi 28 28 down) v in
      let far : nat_le (2 ^ 11) down ≡ true = le-leb (2 ^ 11) down (omega arith) in
      let place : wrap (from + length text + sext 12 down) ≡ from = rw far (omega arith) in
      let from1 : v1.registers 28 ≡ from = immediate v 28 28 down from (omega arith)
      (ap (λ q. wrap (q + sext 12 down)) top ∙ place) in
      let st = stores_bytes l.object_bytes l.space_bytes 28 from (omega arith) (omega arith) (omega arith) 0 text v1
      small (omega arith) (λ j lt. part_lies (from + j) 1 (omega arith) (omega arith))
      (immediate_other v 28 28 down 0 (omega arith) ∙ nought) from1 in
      let z : from ≡ from + 0 = omega arith in
      record {
        go = (tt, st.go);
        from_is = st.others 28 (omega arith) ∙ from1;
        are = ap (λ q. bytes_from (performs (line_text text) v).memory q (length text)) z ∙ st.are;
        behind = λ b le. st.behind b (omega arith);
        others = λ r n5 n28. st.others r n5 ∙ immediate_other v 28 28 down r n28;
        pc = (let q = st.pc in omega arith);
        accesses = st.accesses ∙ no_access v.accesses v.pc;
      }

  abbrev sending : List Instr
  sending =
      OpImm Addi 17 0 64 ∷ OpImm Addi 10 0 2 ∷ OpImm Addi 11 28 0 ∷ OpImm Addi 12 3 64 ∷ Op Sub 12 12 28 ∷ []

  -- what is asked for stands ready
  record Sends (v : View) (from : ℕ) : Type 0 where
    number : (performs sending v).registers 17 ≡ 64
    descriptor : (performs sending v).registers 10 ≡ 2
    buffer : (performs sending v).registers 11 ≡ from
    count : (performs sending v).registers 12 ≡ area + 64 - from
    zero_is : (performs sending v).registers 0 ≡ 0
    pc : (performs sending v).pc ≡ v.pc + 20
    accesses : (performs sending v).accesses ≡ v.accesses

  sends : (v : View) (from : ℕ) → v.registers 0 ≡ 0 → v.registers 3 ≡ area → v.registers 28 ≡ from → from ≤ area + 64
      → from < 2 ^ 64 → Sends v from
  unfolding reg_result
  sends v from nought three at fits word =
      let v1 = perform (OpImm Addi 17 0 64) v in
      let v2 = perform (OpImm Addi 10 0 2) v1 in
      let v3 = perform (OpImm Addi 11 28 0) v2 in
      let v4 = perform (OpImm Addi 12 3 64) v3 in
      let less = reg_result Sub (v4.registers 12) (v4.registers 28) in
      let z1 : v1.registers 0 ≡ 0 = immediate_other v 17 0 64 0 (omega arith) ∙ nought in
      let at2 : v2.registers 28 ≡ from = immediate_other v1 10 0 2 28 (omega arith)
      ∙ immediate_other v 17 0 64 28 (omega arith) ∙ at in
      let at4 : v4.registers 28 ≡ from = immediate_other v3 12 3 64 28 (omega arith)
      ∙ immediate_other v2 11 28 0 28 (omega arith) ∙ at2 in
      let three3 : v3.registers 3 ≡ area = immediate_other v2 11 28 0 3 (omega arith)
      ∙ immediate_other v1 10 0 2 3 (omega arith) ∙ immediate_other v 17 0 64 3 (omega arith) ∙ three in
      let end : wrap (area + sext 12 64) ≡ area + 64 = omega arith in
      let end4 : v4.registers 12 ≡ area + 64 = immediate v3 12 3 64 (area + 64) (omega arith)
      (ap (λ q. wrap (q + sext 12 64)) three3 ∙ end) in
      let less_is : less ≡ area + 64 - from = ap (λ q. reg_result Sub q (v4.registers 28)) end4
      ∙ ap (reg_result Sub (area + 64)) at4 ∙ omega arith in
      let stay : (r : ℕ) → r ≢ 12 → (performs sending v).registers r ≡ v4.registers r =
      λ r ne. with_other v4.registers 12 less r ne in
      let same : wrap (from + sext 12 0) ≡ from = omega arith in
      record {
        number = stay 17 (omega arith) ∙ immediate_other v3 12 3 64 17 (omega arith)
            ∙ immediate_other v2 11 28 0 17 (omega arith) ∙ immediate_other v1 10 0 2 17 (omega arith)
            ∙ immediate v 17 0 64 64 (omega arith)
            (ap (λ q. wrap (q + sext 12 64)) nought ∙ small_immediate 64 (omega arith));
        descriptor = stay 10 (omega arith) ∙ immediate_other v3 12 3 64 10 (omega arith)
            ∙ immediate_other v2 11 28 0 10 (omega arith)
            ∙ immediate v1 10 0 2 2 (omega arith)
            (ap (λ q. wrap (q + sext 12 2)) z1 ∙ small_immediate 2 (omega arith));
        buffer = stay 11 (omega arith) ∙ immediate_other v3 12 3 64 11 (omega arith)
            ∙ immediate v2 11 28 0 from (omega arith) (ap (λ q. wrap (q + sext 12 0)) at2 ∙ same);
        count = with_same v4.registers 12 less (omega arith) ∙ less_is;
        zero_is = stay 0 (omega arith) ∙ immediate_other v3 12 3 64 0 (omega arith)
            ∙ immediate_other v2 11 28 0 0 (omega arith) ∙ immediate_other v1 10 0 2 0 (omega arith) ∙ z1;
        pc = (let q : v.pc + 4 + 4 + 4 + 4 + 4 ≡ v.pc + 20 = omega arith in q);
        accesses = no_access v4.accesses v4.pc ∙ no_access v3.accesses v3.pc ∙ no_access v2.accesses v2.pc
            ∙ no_access v1.accesses v1.pc ∙ no_access v.accesses v.pc;
      }

  -- the machine ends with a status
  pub record Ended (status : ℕ) (c : Configuration) (v : View) : Type 0 where
    pub after : Configuration
    pub is : runs 3 c ≡ (after, Some (Exited status))
    pub errors : after.errors ≡ c.errors
    pub output : after.output ≡ c.output
    pub taken : after.taken ≡ c.taken
    pub accesses : after.accesses ≡ v.accesses

  pub ends : (status : ℕ) (c : Configuration) (v : View) → status < 256 → v.registers 0 ≡ 0
      → AllStand l v.pc (ended status) → Shows l c v → Ended status c v
  ends status c v few nought stand h =
      let is = OpImm Addi 10 0 (status % 2 ^ 11) ∷ OpImm Addi 17 0 93 ∷ [] in
      let v1 = perform (OpImm Addi 10 0 (status % 2 ^ 11)) v in
      let v2 = perform (OpImm Addi 17 0 93) v1 in
      let parts = all_append l is (Ecall ∷ []) v.pc stand in
      let first = straight_comes l fit is c v parts.0 (tt, (tt, tt)) h in
      let pc2 : v.pc + 4 * 2 ≡ v2.pc = let q : v.pc + 4 * 2 ≡ v.pc + 4 + 4 = omega arith in q in
      let status_is : status % 2 ^ 11 ≡ status = omega arith in
      let ten : v2.registers 10 ≡ status = immediate_other v1 17 0 93 10 (omega arith)
      ∙ immediate v 10 0 (status % 2 ^ 11) status (omega arith)
      (ap (λ q. wrap (q + sext 12 (status % 2 ^ 11))) nought ∙ ap (λ q. wrap (0 + sext 12 q)) status_is
      ∙ small_immediate status (omega arith)) in
      let z1 : v1.registers 0 ≡ 0 = immediate_other v 10 0 (status % 2 ^ 11) 0 (omega arith) ∙ nought in
      let seventeen : v2.registers 17 ≡ 93 = immediate v1 17 0 93 93 (omega arith)
      (ap (λ q. wrap (q + sext 12 93)) z1 ∙ small_immediate 93 (omega arith)) in
      let x = exits l first.after v2 fit (subst (λ q. AllStand l q (Ecall ∷ [])) pc2 parts.1).0 seventeen first.shows in
      let same : status % 256 ≡ status = omega arith in
      record {
        after = first.after;
        is = runs_then 1 2 c first.after first.is ∙ x
            ∙ ap (λ q. (first.after, Some (Exited (q % 256)))) ten ∙ ap (λ q. (first.after, Some (Exited q))) same;
        errors = first.stays.errors;
        output = first.stays.output;
        taken = first.stays.taken;
        accesses = first.shows.accesses_are ∙ no_access v1.accesses v1.pc ∙ no_access v.accesses v.pc;
      }

  report_is : (what : List ℕ) (line : ℕ)
      → text_before what ++ digits_onto 64 10 false line (10 ∷ []) ≡ report_at what line
  unfolding report_at
  report_is what line = ap (λ q. text_before what ++ q) (decimal_then line (10 ∷ []))
      ∙ sym (append_assoc (text_before what) (decimal line) (10 ∷ []))

  -- behind the newline and the digits
  record Lined (c : Configuration) (v : View) (spelled : List ℕ) : Type 0 where
    steps : ℕ
    view : View
    comes : Comes l steps c view
    many : steps + 3 ≡ 6 * length spelled
    pc : v.pc + 36 ≡ view.pc
    top : ℕ
    top_is : view.registers 28 ≡ top
    top_low : area + 53 ≤ top
    end_is : top + length spelled ≡ area + 64
    are : bytes_from view.memory top (length spelled) ≡ spelled
    zero_is : view.registers 0 ≡ 0
    three_is : view.registers 3 ≡ area
    accesses : view.accesses ≡ v.accesses

  lines : (line : ℕ) (c : Configuration) (v : View) → line < 2 ^ 32 → low_word (v.registers 5) ≡ line
      → v.registers 0 ≡ 0 → v.registers 3 ≡ area → v.pc % 4 ≡ 0 → AllStand l v.pc (newline ++ line_digits) → Shows l c v
      → Lined c v (digits_onto 64 10 false line (10 ∷ []))
  unfolding tens
  lines line c v word five nought three whole stand h =
      let b = begins v nought three in
      let w = performs newline v in
      let parts = all_append l newline line_digits v.pc stand in
      let one = straight_comes l fit newline c v parts.0 b.go h in
      let at : v.pc + 4 * 3 ≡ w.pc = omega (arith, b.pc) in
      let top : area + 63 ≡ area + 62 + 1 = omega arith in
      let s = spells 9 63 one.after w (area + 62) line (area + 53) (10 ∷ []) (omega arith) word (omega arith)
      (ap low_word (b.others 5 (omega arith) (omega arith)) ∙ five) b.ten (b.top ∙ top)
      (b.others 0 (omega arith) (omega arith) ∙ nought) (omega arith) (omega arith) (omega arith)
      (omega (arith, whole, b.pc)) (subst (λ q. AllStand l q line_digits) at parts.1)
      (ap (λ q. bytes_from w.memory q 1) (sym top) ∙ b.memory) one.shows in
      let many = s.many in
      let end = s.end_is in
      record {
        steps = s.steps + 3;
        view = s.view;
        comes = then_comes l 3 s.steps c w s.view one s.comes;
        many = omega arith;
        pc = omega (arith, s.pc, b.pc);
        top = s.top;
        top_is = s.top_is;
        top_low = s.top_low;
        end_is = omega arith;
        are = s.are;
        zero_is = s.others 0 (omega arith) (omega arith) (omega arith) ∙ b.others 0 (omega arith) (omega arith)
            ∙ nought;
        three_is = s.others 3 (omega arith) (omega arith) (omega arith) ∙ b.others 3 (omega arith) (omega arith)
            ∙ three;
        accesses = s.accesses ∙ b.accesses;
      }

  -- the whole report stands in the words of arguments
  record Ready (c : Configuration) (v : View) (report : List ℕ) (most next : ℕ) : Type 0 where
    steps : ℕ
    view : View
    comes : Comes l steps c view
    few : steps ≤ most
    pc : next ≡ view.pc
    from : ℕ
    from_is : view.registers 28 ≡ from
    from_low : area ≤ from
    end_is : from + length report ≡ area + 64
    are : bytes_from view.memory from (length report) ≡ report
    zero_is : view.registers 0 ≡ 0
    three_is : view.registers 3 ≡ area
    accesses : view.accesses ≡ v.accesses

  joined : (m m' : Bytes) (from top : ℕ) (text spelled : List ℕ) → top ≡ from + length text
      → bytes_from m' from (length text) ≡ text → ((b : ℕ) → top ≤ b → m' b ≡ m b)
      → bytes_from m top (length spelled) ≡ spelled
      → bytes_from m' from (length text + length spelled) ≡ text ++ spelled
  joined m m' from top text spelled e first same are =
      bytes_join m' from (length text) (length spelled)
      ∙ ap (λ z. z ++ bytes_from m' (from + length text) (length spelled)) first
      ∙ ap (λ z. text ++ z) (ap (λ z. bytes_from m' z (length spelled)) (sym e)
      ∙ bytes_same m m' top (length spelled) (λ z lo hi. same z lo) ∙ are)

  readies : (text spelled : List ℕ) (c : Configuration) (v : View) → All (λ b. b < 256) text → 0 < length text
      → length text ≤ 35 → (d : Lined c v spelled) → AllStand l (v.pc + 36) (line_text text)
      → Ready c v (text ++ spelled) (6 * length spelled + 2 * length text)
      (v.pc + 36 + 4 * length (line_text text))
  readies text spelled c v bytes some short d stand =
      let top_low = d.top_low in
      let end = d.end_is in
      let many = d.many in
      let from = d.top - length text in
      let from_is : d.top ≡ from + length text = omega arith in
      let t = texts d.view from text bytes (d.top_is ∙ from_is) d.zero_is (omega arith) (omega arith) some
      (omega arith) in
      let long = line_text_length text in
      let both = length-append text spelled in
      let w = performs (line_text text) d.view in
      let more = straight_comes l fit (line_text text) d.comes.after d.view
      (subst (λ q. AllStand l q (line_text text)) d.pc stand) t.go d.comes.shows in
      record {
        steps = length (line_text text) + d.steps;
        view = w;
        comes = then_comes l d.steps (length (line_text text)) c d.view w d.comes more;
        few = omega arith;
        pc = omega (arith, t.pc, d.pc);
        from = from;
        from_is = t.from_is;
        from_low = omega arith;
        end_is = omega arith;
        are = ap (bytes_from w.memory from) both ∙ joined d.view.memory w.memory from d.top text spelled from_is t.are
            (λ b le. t.behind b (omega arith)) d.are;
        zero_is = t.others 0 (omega arith) (omega arith) ∙ d.zero_is;
        three_is = t.others 3 (omega arith) (omega arith) ∙ d.three_is;
        accesses = t.accesses ∙ d.accesses;
      }

  -- it is written, and the machine ends
  finishes : (report : List ℕ) (status most next : ℕ) (c : Configuration) (v : View) → status < 256 → 0 < length report
      → length report ≤ 64 → most + 9 ≤ 6 * length report → (r : Ready c v report most next)
      → AllStand l r.view.pc (written ++ ended status) → Told status report c v
  finishes report status most next c v low_status some short le r stand =
      let n = length report in
      let w = r.view in
      let end = r.end_is in
      let from_low = r.from_low in
      let parts = all_append l sending (Ecall ∷ ended status) w.pc stand in
      let q = sends w r.from r.zero_is r.three_is r.from_is (omega arith) (omega arith) in
      let w4 = performs sending w in
      let four = straight_comes l fit sending r.comes.after w parts.0 (tt, (tt, (tt, (tt, (tt, tt))))) r.comes.shows in
      let at4 : w.pc + 4 * 5 ≡ w4.pc = omega (arith, q.pc) in
      let stand5 = subst (λ z. AllStand l z (Ecall ∷ ended status)) at4 parts.1 in
      let total : area + 64 - r.from ≡ n = omega arith in
      let buffer : IsOfData l.object_bytes l.space_bytes (w4.registers 11) n =
      subst (λ z. IsOfData l.object_bytes l.space_bytes z n) (sym q.buffer)
      (part_lies r.from n from_low (omega arith)) in
      let e = writes_errors l n four.after w4 fit stand5.0 q.number q.descriptor (q.count ∙ total) some buffer
      four.shows in
      let w5 : View = record w4 { pc = w4.pc + 4; registers = with_value w4.registers 10 n } in
      let sent : bytes_from w4.memory (w4.registers 11) n ≡ report =
      ap (λ z. bytes_from w4.memory z n) q.buffer ∙ r.are in
      let f = ends status e.0 w5 low_status (with_other w4.registers 10 n 0 (omega arith) ∙ q.zero_is) stand5.1 e.2 in
      record {
        steps = 3 + (1 + (5 + r.steps));
        few = omega (arith, r.few);
        after = (f.after, Some (Exited status));
        is = runs_then 3 (1 + (5 + r.steps)) c e.0
            (runs_then 1 (5 + r.steps) c four.after (runs_then 5 r.steps c r.comes.after r.comes.is ∙ four.is) ∙ e.1)
            ∙ f.is;
        ending = refl;
        errors = f.errors ∙ e.3.errors ∙ ap (λ z. four.after.errors ++ z) sent
            ∙ ap (λ z. z ++ report) (four.stays.errors ∙ r.comes.stays.errors);
        output = f.output ∙ e.3.output ∙ four.stays.output ∙ r.comes.stays.output;
        taken = f.taken ∙ e.3.taken ∙ four.stays.taken ∙ r.comes.stays.taken;
        accesses = f.accesses ∙ q.accesses ∙ r.accesses;
      }

  told_of : (report report' : List ℕ) (status : ℕ) (c : Configuration) (v : View) → report ≡ report'
      → Told status report c v → Told status report' c v
  told_of report report' status c v e t = subst (λ q. Told status q c v) e t

  few_digits : (line : ℕ) → line < 2 ^ 32 → length (digits_onto 64 10 false line (10 ∷ [])) ≤ 11
  unfolding tens
  few_digits line word = digits_most 9 64 line (10 ∷ []) (omega arith)

  pub tells : (what : List ℕ) (line status : ℕ) (c : Configuration) (v : View) → All (λ b. b < 256) (text_before what)
      → 2 < length (text_before what) → length (text_before what) ≤ 35 → line < 2 ^ 32 → status < 256
      → low_word (v.registers 5) ≡ line → v.registers 0 ≡ 0 → v.registers 3 ≡ area → v.pc % 4 ≡ 0
      → AllStand l v.pc (tail_block what status) → Shows l c v → Told status (report_at what line) c v
  tells what line status c v bytes some short word low_status five nought three whole stand h =
      let text = text_before what in
      let spelled = digits_onto 64 10 false line (10 ∷ []) in
      let front = newline ++ line_digits in
      let rest = line_text text ++ (written ++ ended status) in
      let whole_is = append_assoc newline line_digits rest in
      let parts = all_append l front rest v.pc (subst (AllStand l v.pc) (sym whole_is) stand) in
      let d = lines line c v word five nought three whole parts.0 h in
      let more = all_append l (line_text text) (written ++ ended status) (v.pc + 4 * 9) parts.1 in
      let r = readies text spelled c v bytes (omega arith) short d more.0 in
      let both = length-append text spelled in
      let here = r.pc in
      let few = few_digits line word in
      told_of (text ++ spelled) (report_at what line) status c v (report_is what line)
      (finishes (text ++ spelled) status (6 * length spelled + 2 * length text)
      (v.pc + 36 + 4 * length (line_text text)) c v low_status (omega arith)
      (omega arith) (omega arith) r (subst (λ q. AllStand l q (written ++ ended status)) here more.1))
