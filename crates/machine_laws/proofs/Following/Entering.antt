-- A call, from the jump on: through the callee's entry of the jump table to its first instruction.
use Rattle.std.proofs.Common.{◌≡◌, ◌≢◌, ℕ, ◌+◌, ◌-◌, ◌*◌, ◌%◌, ◌^◌, ◌<◌, ◌≤◌, ◌⊎◌, inl, inr, refl, sym}
use Rattle.std.proofs.Common.{ap, ◌∙◌, subst, arith, ⊎_elim, true, [], ◌∷◌, length}
use Rattle.std.proofs.Common.{length-append}
use Rattle.rv_isa.specs.declared.instruction.Instr.TheVariants.{Lui, Jalr, Ebreak}
use Rattle.rv_isa.specs.Word.{sext}
use Rattle.rv_isa.specs.Results.{wrap}
use Rattle.flat_code.specs.Memory.{load, store}
use Rattle.flat_code.proofs.Stored as stored
use Rattle.rv_sim.specs.Run.{Configuration}
use Rattle.machine_laws.specs.View.Views.{View, Layout, Fits, StandsAt, AllStand, AllGoOn, Shows, with_value, performs}
use Rattle.machine_laws.proofs.View.Leaving.{jalr, no_access}
use Rattle.machine_laws.specs.Blocks.Blocks.{upper, lower, store_at}
use Rattle.machine_laws.specs.Blocks.Effects.{kept, HasFrame}
use Rattle.machine_laws.proofs.Blocks.Pieces.{performs_append, go_append, wide_parts, store_stores, with_same}
use Rattle.machine_laws.proofs.Blocks.Pieces.{with_other}
use Rattle.machine_laws.proofs.Blocks.Pieces.{of_frame}
use Rattle.machine_laws.specs.Calls.Calls.{Keeping, take, entry_block, row}
use Rattle.machine_laws.specs.Calls.Effects.{AreKept, HasArguments}
use Rattle.machine_laws.proofs.Calls.Words.{moved_frame, takes_all}
use Rattle.machine_laws.proofs.Following.Runs.{Comes, then_comes, straight_comes, all_append}

module _ (l : Layout) (fit : Fits l) where
  -- the jump by a register, and the callee's entry of the jump table
  pub record Arrives (c : Configuration) (v : View) (to : ℕ) : Type 0 where
    pub view : View
    pub comes : Comes l 3 c view
    pub pc : view.pc ≡ to
    pub link : view.registers 1 ≡ v.pc + 4
    pub others : (r : ℕ) → r ≢ 1 → r ≢ 31 → view.registers r ≡ v.registers r
    pub memory : view.memory ≡ v.memory
    pub accesses : view.accesses ≡ v.accesses

  pub arrives : (target a to : ℕ) (c : Configuration) (v : View) → StandsAt l v.pc (Jalr 1 target 0)
      → v.registers target ≡ a → a < 2 ^ 20 → a % 4 ≡ 0 → AllStand l a (row to) → to < 2 ^ 31 - 2 ^ 11 → to % 4 ≡ 0
      → Shows l c v → Arrives c v to
  arrives target a to c v stand at small four stands low whole h =
      let a_is : wrap (a + sext 12 0) ≡ a = omega arith in
      let j = jalr l 1 target 0 a c v fit stand (ap (λ q. wrap (q + sext 12 0)) at ∙ a_is) four h in
      let w : View = record v { pc = a; registers = with_value v.registers 1 (v.pc + 4) } in
      let first : Comes l 1 c w = record { after = j.0; is = j.1; shows = j.2; stays = j.3 } in
      let is = Lui 31 (upper to) ∷ [] in
      let up = sext 32 (upper to * 2 ^ 12) in
      let parts = all_append l is (Jalr 0 31 (lower to) ∷ Ebreak ∷ Ebreak ∷ []) a stands in
      let second = straight_comes l fit is first.after w parts.0 (tt, tt) first.shows in
      let w2 = performs is w in
      let k = jalr l 0 31 (lower to) to second.after w2 fit parts.1.0
      (ap (λ q. wrap (q + sext 12 (lower to))) (with_same w.registers 31 up (omega arith)) ∙ wide_parts to low) whole
      second.shows in
      let w3 : View = record w2 { pc = to; registers = with_value w2.registers 0 (w2.pc + 4) } in
      let third : Comes l 1 second.after w3 = record { after = k.0; is = k.1; shows = k.2; stays = k.3 } in
      record {
        view = w3;
        comes = then_comes l 1 2 c w w3 first (then_comes l 1 1 first.after w2 w3 second third);
        pc = refl;
        link = with_other w.registers 31 up 1 (omega arith) ∙ with_same v.registers 1 (v.pc + 4) (omega arith);
        others = λ r n1 n31. with_other w.registers 31 up r n31 ∙ with_other v.registers 1 (v.pc + 4) r n1;
        memory = refl;
        accesses = no_access w.accesses w.pc;
      }

module _ (o s fp : ℕ) (k : Keeping) where
  -- the callee's entry block: the return address and the arguments are kept in its record
  pub record Entered (area n ra : ℕ) (v : View) : Type 0 where
    pub go : AllGoOn o s (entry_block k n) v
    pub pc : (performs (entry_block k n) v).pc ≡ v.pc + 4 * length (entry_block k n)
    pub low : (r : ℕ) → r < 5 → (performs (entry_block k n) v).registers r ≡ v.registers r
    pub set : (j : ℕ) → j < n → k.live 0 j ≡ true
        → kept fp (performs (entry_block k n) v) (k.place j) ≡ load 8 v.memory (area + 8 * j)
    pub returns : load 8 (performs (entry_block k n) v).memory fp ≡ ra
    pub memory : (b : ℕ) → (b < fp) ⊎ (fp + k.room ≤ b) → (performs (entry_block k n) v).memory b ≡ v.memory b
    pub accesses : (performs (entry_block k n) v).accesses ≡ v.accesses

  pub enters : (area count n ra : ℕ) (v : View) → n ≤ count → 8 ≤ k.room → HasArguments v area count fp
      → HasFrame s k.base fp k.room v → v.registers 1 ≡ ra → ra < 2 ^ 64 → AreKept k (k.live 0)
      → ((j : ℕ) → j < n → load 8 v.memory (area + 8 * j) < 2 ^ 64) → Entered area n ra v
  enters area count n ra v le big ha f link small ks words =
      let is1 = store_at 1 k.base 0 in
      let fp0 : fp + 0 ≡ fp = omega arith in
      let st = store_stores o s 1 k.base fp 0 ra v (omega (arith, f.base_high)) (omega arith) f.is link
      (of_frame o s k.base fp k.room 0 v f (omega arith)) in
      let v1 = performs is1 v in
      let mem1 : v1.memory ≡ store 8 v.memory fp ra = st.memory_is ∙ ap (λ q. store 8 v.memory q ra) fp0 in
      let f1 : HasFrame s k.base fp k.room v1 = moved_frame s k.base fp k.room v v1 f
      (st.others k.base (omega (arith, f.base_high))) in
      let ha1 : HasArguments v1 area count fp = record
      { is = st.others 3 (omega arith) ∙ ha.is; low = ha.low; below = ha.below } in
      let same : (j : ℕ) → j < n → load 8 v1.memory (area + 8 * j) ≡ load 8 v.memory (area + 8 * j) =
      λ j lt. ap (λ q. load 8 q (area + 8 * j)) mem1
      ∙ stored.load_beside 8 8 v.memory fp (area + 8 * j) ra (inl (omega (arith, ha.below))) in
      let t = takes_all o s fp k area count 0 0 n v1 le ha1 f1
      (λ j lt live. ks.inside (0 + j) live)
      (λ j q lj lq live_j live_q ne. ks.apart (0 + j) (0 + q) live_j live_q (omega (arith, ne)))
      (λ j lt. rw (same j lt) (words j lt)) in
      let is2 = take k 0 0 n in
      let a = performs_append is1 is2 v in
      let len = length-append is1 is2 in
      record {
        go = go_append o s is1 is2 v st.go t.go;
        pc = ap (λ u. u.pc) a ∙ rw (t.pc_is, st.pc, len) (omega arith);
        low = λ r lt. ap (λ u. u.registers r) a ∙ t.low r lt ∙ st.others r (omega arith);
        set = λ j lt live.
            let j0 : 0 + j ≡ j = omega arith in
            ap (λ u. kept fp u (k.place j)) a
            ∙ subst (λ q. kept fp (performs is2 v1) (k.place q) ≡ load 8 v1.memory (area + 8 * j)) j0
            (t.set j lt (subst (λ q. k.live 0 q ≡ true) (sym j0) live))
            ∙ same j lt;
        returns = ap (λ u. load 8 u.memory fp) a
            ∙ stored.load_kept 8 v1.memory (performs is2 v1).memory fp (λ j lt. t.memory (fp + j) (inl (omega arith)))
            ∙ ap (λ q. load 8 q fp) mem1 ∙ stored.load_stored 8 v.memory fp ra small;
        memory = λ b out. ap (λ u. u.memory b) a
            ∙ t.memory b (⊎_elim (λ q. inl (omega arith)) (λ q. inr (omega arith)) out)
            ∙ ap (λ q. q b) mem1
            ∙ stored.store_beside 8 v.memory fp ra b (⊎_elim (λ q. inl q) (λ q. inr (omega arith)) out);
        accesses = ap (λ u. u.accesses) a ∙ t.accesses ∙ st.accesses;
      }
