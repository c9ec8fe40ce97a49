-- Runs of the machine, one behind the other; and where jumps and branches lead in each of their forms.
use Rattle.std.proofs.Common.{◌≡◌, ◌≢◌, ℕ, ◌+◌, ◌-◌, ◌*◌, ◌/◌, ◌%◌, ◌^◌, ◌<◌, ◌≤◌, ◌⊎◌, inl, inr}
use Rattle.std.proofs.Common.{List, [], ◌∷◌, ◌++◌, length, None, Bool, true, false, not, refl, sym, ap, ◌∙◌, subst}
use Rattle.std.proofs.Common.{arith, ⊎_elim}
use Rattle.std.specs.Prelude.{◌==◌, nat_lt, nat_le, if◌then◌else◌}
use Rattle.std.proofs.lemmas.Bool.{leb-true, leb-false}
use Rattle.rv_isa.specs.declared.instruction.BranchOp.{BranchOp}
use Rattle.rv_isa.specs.declared.instruction.BranchOp.TheVariants.{Beq, Bne, Blt, Bge, Bltu, Bgeu}
use Rattle.rv_isa.specs.declared.instruction.Instr.{Instr}
use Rattle.rv_isa.specs.declared.instruction.Instr.TheVariants.{Auipc, Jal, Branch}
use Rattle.rv_isa.specs.Word.{sext}
use Rattle.rv_isa.specs.Results.{wrap, branch_taken}
use Rattle.words.specs.Operations.{is_less_signed}
use Rattle.rv_asm.specs.declared.form.Form.{Form}
use Rattle.rv_asm.specs.declared.form.Form.TheVariants.{Short, Near, Far}
use Rattle.rv_asm.specs.Forms.{Reaches, distance, branch_size}
use Rattle.rv_asm.specs.Words.{offset, opposite, jump_instrs, branch_instrs}
use Rattle.rv_sim.specs.Run.{Configuration, runs}
use Rattle.machine_laws.specs.View.Views.{View, Layout, Fits, StandsAt, AllStand, AllGoOn, Shows, StaysOutside}
use Rattle.machine_laws.specs.View.Views.{with_value}
use Rattle.machine_laws.specs.View.Views.{performs}
use Rattle.machine_laws.proofs.View.Straight.{straight, runs_then}
use Rattle.machine_laws.proofs.View.Leaving.{jal, jalr, branch, no_access}
use Rattle.machine_laws.proofs.Blocks.Pieces.{with_same, with_other}

-- so many instructions lead from one moment to another, which is as a view shows it
pub record Comes (l : Layout) (n : ℕ) (c : Configuration) (v : View) : Type 0 where
  pub after : Configuration
  pub is : runs n c ≡ (after, None)
  pub shows : Shows l after v
  pub stays : StaysOutside c after

pub stays_then : (a b c : Configuration) → StaysOutside a b → StaysOutside b c → StaysOutside a c
stays_then a b c h k = record {
  input = k.input ∙ h.input;
  output = k.output ∙ h.output;
  errors = k.errors ∙ h.errors;
  taken = k.taken ∙ h.taken;
}

pub then_comes : (l : Layout) (k n : ℕ) (c : Configuration) (v w : View) (a : Comes l k c v) → Comes l n a.after w
    → Comes l (n + k) c w
then_comes l k n c v w a b = record {
  after = b.after;
  is = runs_then n k c a.after a.is ∙ b.is;
  shows = b.shows;
  stays = stays_then c a.after b.after a.stays b.stays;
}

pub all_append : (l : Layout) (is js : List Instr) (pc : ℕ) → AllStand l pc (is ++ js)
    → AllStand l pc is × AllStand l (pc + 4 * length is) js
all_append l [] js pc h = let e : pc ≡ pc + 4 * 0 = omega arith in (tt, subst (λ q. AllStand l q js) e h)
all_append l (i ∷ is) js pc h =
    let r = all_append l is js (pc + 4) h.1 in
    let e : pc + 4 + 4 * length is ≡ pc + 4 * length (i ∷ is) = omega arith in
    ((h.0, r.0), subst (λ q. AllStand l q js) e r.1)

-- the opposite condition
twice : (c : Bool) → not (not c) ≡ c
twice true = refl
twice false = refl

opposite_taken : (op : BranchOp) (a b : ℕ) → branch_taken (opposite op) a b ≡ not (branch_taken op a b)
unfolding branch_taken
opposite_taken Beq a b = refl
opposite_taken Bne a b = sym (twice (a == b))
opposite_taken Blt a b = refl
opposite_taken Bge a b = sym (twice (is_less_signed 64 a b))
opposite_taken Bltu a b = refl
opposite_taken Bgeu a b = sym (twice (nat_lt a b))

-- ---- offsets: in 13 bits, in 21, and in an upper and a lower part

short_offset : (begin p t : ℕ) → begin ≤ 2 ^ 24 → p < 2 ^ 28 → t < 2 ^ 28 → distance p t < 1024
    → wrap (begin + 4 * p + sext 13 (offset 13 p t)) ≡ begin + 4 * t
short_offset begin p t hb hp ht d = by (nat_le (2 ^ 12) ((2 ^ 32 + 4 * t - 4 * p) % 2 ^ 13)) refl
  where
    by : (b : Bool) → nat_le (2 ^ 12) ((2 ^ 32 + 4 * t - 4 * p) % 2 ^ 13) ≡ b
        → wrap (begin + 4 * p + sext 13 (offset 13 p t)) ≡ begin + 4 * t
    by true e = let l = leb-true (2 ^ 12) ((2 ^ 32 + 4 * t - 4 * p) % 2 ^ 13) e in rw e (omega arith)
    by false e = let l = leb-false (2 ^ 12) ((2 ^ 32 + 4 * t - 4 * p) % 2 ^ 13) e in rw e (omega arith)

near_offset : (begin p t : ℕ) → begin ≤ 2 ^ 24 → p < 2 ^ 28 + 2 → t < 2 ^ 28 → distance p t < 262144
    → wrap (begin + 4 * p + sext 21 (offset 21 p t)) ≡ begin + 4 * t
near_offset begin p t hb hp ht d = by (nat_le (2 ^ 20) ((2 ^ 32 + 4 * t - 4 * p) % 2 ^ 21)) refl
  where
    by : (b : Bool) → nat_le (2 ^ 20) ((2 ^ 32 + 4 * t - 4 * p) % 2 ^ 21) ≡ b
        → wrap (begin + 4 * p + sext 21 (offset 21 p t)) ≡ begin + 4 * t
    by true e = let l = leb-true (2 ^ 20) ((2 ^ 32 + 4 * t - 4 * p) % 2 ^ 21) e in rw e (omega arith)
    by false e = let l = leb-false (2 ^ 20) ((2 ^ 32 + 4 * t - 4 * p) % 2 ^ 21) e in rw e (omega arith)

far_parts : (pc d t : ℕ) → pc < 2 ^ 30 + 2 ^ 25 → t < 2 ^ 30 + 2 ^ 25 → d ≡ (2 ^ 32 + t - pc) % 2 ^ 32
    → wrap (wrap (pc + sext 32 ((d + 2 ^ 11) / 2 ^ 12 % 2 ^ 20 * 2 ^ 12)) + sext 12 (d % 2 ^ 12)) ≡ t
far_parts pc d t hp ht e =
    by (nat_le (2 ^ 31) ((d + 2 ^ 11) / 2 ^ 12 % 2 ^ 20 * 2 ^ 12)) (nat_le (2 ^ 11) (d % 2 ^ 12)) refl refl
  where
    by : (b c : Bool) → nat_le (2 ^ 31) ((d + 2 ^ 11) / 2 ^ 12 % 2 ^ 20 * 2 ^ 12) ≡ b
        → nat_le (2 ^ 11) (d % 2 ^ 12) ≡ c
        → wrap (wrap (pc + sext 32 ((d + 2 ^ 11) / 2 ^ 12 % 2 ^ 20 * 2 ^ 12)) + sext 12 (d % 2 ^ 12)) ≡ t
    by true true p q =
        let l = leb-true (2 ^ 31) ((d + 2 ^ 11) / 2 ^ 12 % 2 ^ 20 * 2 ^ 12) p in
        let k = leb-true (2 ^ 11) (d % 2 ^ 12) q in rw (p, q) (omega arith)
    by true false p q =
        let l = leb-true (2 ^ 31) ((d + 2 ^ 11) / 2 ^ 12 % 2 ^ 20 * 2 ^ 12) p in
        let k = leb-false (2 ^ 11) (d % 2 ^ 12) q in rw (p, q) (omega arith)
    by false true p q =
        let l = leb-false (2 ^ 31) ((d + 2 ^ 11) / 2 ^ 12 % 2 ^ 20 * 2 ^ 12) p in
        let k = leb-true (2 ^ 11) (d % 2 ^ 12) q in rw (p, q) (omega arith)
    by false false p q =
        let l = leb-false (2 ^ 31) ((d + 2 ^ 11) / 2 ^ 12 % 2 ^ 20 * 2 ^ 12) p in
        let k = leb-false (2 ^ 11) (d % 2 ^ 12) q in rw (p, q) (omega arith)

module _ (l : Layout) (fit : Fits l) where
  pub straight_comes : (is : List Instr) (c : Configuration) (v : View) → AllStand l v.pc is
      → AllGoOn l.object_bytes l.space_bytes is v → Shows l c v → Comes l (length is) c (performs is v)
  straight_comes is c v stand go h =
      let r = straight l is c v fit stand go h in
      record { after = r.0; is = r.1; shows = r.2; stays = r.3 }

  -- a jump is done: only the link and x31 have changed
  pub record Jumps (c : Configuration) (v : View) (target most : ℕ) : Type 0 where
    pub steps : ℕ
    pub few : steps ≤ most
    pub view : View
    pub comes : Comes l steps c view
    pub pc : view.pc ≡ target
    pub others : (r : ℕ) → r ≢ 31 → view.registers r ≡ v.registers r
    pub memory : view.memory ≡ v.memory
    pub accesses : view.accesses ≡ v.accesses

  one_jal : (begin p t : ℕ) (c : Configuration) (v : View) → v.pc ≡ begin + 4 * p → begin ≤ 2 ^ 24 → begin % 4 ≡ 0
      → p < 2 ^ 28 + 2 → t < 2 ^ 28 → distance p t < 262144 → AllStand l v.pc (Jal 0 (offset 21 p t) ∷ []) → Shows l c v
      → Jumps c v (begin + 4 * t) 2
  one_jal begin p t c v at hb whole hp ht d stand h =
      let r = jal l 0 (offset 21 p t) (begin + 4 * t) c v fit stand.0
      (ap (λ q. wrap (q + sext 21 (offset 21 p t))) at ∙ near_offset begin p t hb hp ht d) (omega (arith, whole)) h in
      record {
        steps = 1;
        few = omega arith;
        view = record v { pc = begin + 4 * t; registers = with_value v.registers 0 (v.pc + 4) };
        comes = record { after = r.0; is = r.1; shows = r.2; stays = r.3 };
        pc = refl;
        others = λ q a. refl;
        memory = refl;
        accesses = refl;
      }

  far_jump : (begin p t : ℕ) (c : Configuration) (v : View) → v.pc ≡ begin + 4 * p → begin ≤ 2 ^ 24 → begin % 4 ≡ 0
      → p < 2 ^ 28 + 2 → t < 2 ^ 28 → AllStand l v.pc (jump_instrs Far 0 p t) → Shows l c v
      → Jumps c v (begin + 4 * t) 2
  far_jump begin p t c v at hb whole hp ht stand h =
      let d = offset 32 p t in
      let up = (d + 2 ^ 11) / 2 ^ 12 % 2 ^ 20 in
      let n = wrap (v.pc + sext 32 (up * 2 ^ 12)) in
      let w = performs (Auipc 31 up ∷ []) v in
      let a = straight_comes (Auipc 31 up ∷ []) c v (stand.0, tt) (tt, tt) h in
      let same : w.registers 31 ≡ n = with_same v.registers 31 n (omega arith) in
      let n_is : n ≡ wrap (begin + 4 * p + sext 32 (up * 2 ^ 12)) = ap (λ q. wrap (q + sext 32 (up * 2 ^ 12))) at in
      let d_is : d ≡ (2 ^ 32 + (begin + 4 * t) - (begin + 4 * p)) % 2 ^ 32 = omega arith in
      let r = jalr l 0 31 (d % 2 ^ 12) (begin + 4 * t) a.after w fit stand.1.0
      (ap (λ q. wrap (q + sext 12 (d % 2 ^ 12))) (same ∙ n_is)
      ∙ far_parts (begin + 4 * p) d (begin + 4 * t) (omega arith) (omega arith) d_is) (omega (arith, whole)) a.shows in
      let w2 : View = record w { pc = begin + 4 * t; registers = with_value w.registers 0 (w.pc + 4) } in
      record {
        steps = 1 + 1;
        few = omega arith;
        view = w2;
        comes = then_comes l 1 1 c w w2 a (record { after = r.0; is = r.1; shows = r.2; stays = r.3 });
        pc = refl;
        others = λ q b. with_other v.registers 31 n q b;
        memory = refl;
        accesses = no_access v.accesses v.pc;
      }

  pub jumps : (form : Form) (begin p t : ℕ) (c : Configuration) (v : View) → v.pc ≡ begin + 4 * p → begin ≤ 2 ^ 24
      → begin % 4 ≡ 0 → p < 2 ^ 28 → t < 2 ^ 28 → Reaches form p t → AllStand l v.pc (jump_instrs form 0 p t)
      → Shows l c v → Jumps c v (begin + 4 * t) 2
  jumps Short begin p t c v at hb whole hp ht d stand h =
      one_jal begin p t c v at hb whole (omega arith) ht (omega arith) stand h
  jumps Near begin p t c v at hb whole hp ht d stand h =
      one_jal begin p t c v at hb whole (omega arith) ht (omega arith) stand h
  jumps Far begin p t c v at hb whole hp ht d stand h =
      far_jump begin p t c v at hb whole (omega arith) ht stand h

  -- behind a branch that is not taken, in its long forms
  over : (skip pc : ℕ) → (skip ≡ 8) ⊎ (skip ≡ 12) → pc < 2 ^ 32 → wrap (pc + sext 13 skip) ≡ pc + skip
  over skip pc one low = ⊎_elim (λ e. subst (λ k. wrap (pc + sext 13 k) ≡ pc + k) (sym e) (omega arith))
      (λ e. subst (λ k. wrap (pc + sext 13 k) ≡ pc + k) (sym e) (omega arith)) one

  long_branch : (form : Form) (op : BranchOp) (a b skip begin p t : ℕ) (c : Configuration) (v : View)
      → (skip ≡ 8) ⊎ (skip ≡ 12)
      → v.pc ≡ begin + 4 * p → begin ≤ 2 ^ 24 → begin % 4 ≡ 0 → p + 3 < 2 ^ 28
      → StandsAt l v.pc (Branch (opposite op) a b skip)
      → Shows l c v
      → ((d : Configuration) → Shows l d (record v { pc = v.pc + 4 })
      → Jumps d (record v { pc = v.pc + 4 }) (begin + 4 * t) 2)
      → Jumps c v (if branch_taken op (v.registers a) (v.registers b) then begin + 4 * t else v.pc + skip) 3
  long_branch form op a b skip begin p t c v one at hb whole hp stand h go =
      by (branch_taken op (v.registers a) (v.registers b)) refl
    where
      target : ℕ
      target = v.pc + skip

      whole_skip : (k : ℕ) → (k ≡ 8) ⊎ (k ≡ 12) → (v.pc + k) % 4 ≡ 0
      whole_skip k q = ⊎_elim (λ e. omega (arith, at, whole, e)) (λ e. omega (arith, at, whole, e)) q

      first : Comes l 1 c (record v
          { pc = if branch_taken (opposite op) (v.registers a) (v.registers b) then target else v.pc + 4 })
      first = let r = branch l (opposite op) a b skip target c v fit stand (over skip v.pc one (omega (arith, at)))
          (whole_skip skip one) h in record { after = r.0; is = r.1; shows = r.2; stays = r.3 }

      by : (q : Bool) → branch_taken op (v.registers a) (v.registers b) ≡ q
          → Jumps c v (if branch_taken op (v.registers a) (v.registers b) then begin + 4 * t else v.pc + skip) 3
      by false e = rw e (record {
        steps = 1;
        few = omega arith;
        view = record v { pc = target };
        comes = subst (λ z. Comes l 1 c (record v { pc = if z then target else v.pc + 4 }))
            (opposite_taken op (v.registers a) (v.registers b) ∙ ap not e) first;
        pc = refl;
        others = λ r z. refl;
        memory = refl;
        accesses = refl;
      })
      by true e =
          let f : Comes l 1 c (record v { pc = v.pc + 4 }) = subst
          (λ z. Comes l 1 c (record v { pc = if z then target else v.pc + 4 }))
          (opposite_taken op (v.registers a) (v.registers b) ∙ ap not e) first in
          let j = go f.after f.shows in
          rw e (record {
            steps = j.steps + 1;
            few = omega (arith, j.few);
            view = j.view;
            comes = then_comes l 1 j.steps c (record v { pc = v.pc + 4 }) j.view f j.comes;
            pc = j.pc;
            others = j.others;
            memory = j.memory;
            accesses = j.accesses;
          })

  pub branches : (form : Form) (op : BranchOp) (a b begin p t : ℕ) (c : Configuration) (v : View)
      → v.pc ≡ begin + 4 * p → begin ≤ 2 ^ 24 → begin % 4 ≡ 0 → p + 3 < 2 ^ 28 → t < 2 ^ 28 → Reaches form p t
      → AllStand l v.pc (branch_instrs form op a b p t) → Shows l c v
      → Jumps c v (if branch_taken op (v.registers a) (v.registers b) then begin + 4 * t
      else v.pc + 4 * branch_size form) 3
  branches Short op a b begin p t c v at hb whole hp ht d stand h =
      let r = branch l op a b (offset 13 p t) (begin + 4 * t) c v fit stand.0
      (ap (λ q. wrap (q + sext 13 (offset 13 p t))) at ∙ short_offset begin p t hb (omega arith) ht d)
      (omega (arith, whole)) h in
      record {
        steps = 1;
        few = omega arith;
        view = record v
            { pc = if branch_taken op (v.registers a) (v.registers b) then begin + 4 * t else v.pc + 4 };
        comes = record { after = r.0; is = r.1; shows = r.2; stays = r.3 };
        pc = refl;
        others = λ q z. refl;
        memory = refl;
        accesses = refl;
      }
  branches Near op a b begin p t c v at hb whole hp ht d stand h =
      long_branch Near op a b 8 begin p t c v (inl refl) at hb whole hp stand.0 h
      (λ e k. one_jal begin (p + 1) t e (record v { pc = v.pc + 4 }) (omega (arith, at)) hb whole (omega arith) ht
      (omega arith) stand.1 k)
  branches Far op a b begin p t c v at hb whole hp ht d stand h =
      long_branch Far op a b 12 begin p t c v (inr refl) at hb whole hp stand.0 h
      (λ e k. far_jump begin (p + 1) t e (record v { pc = v.pc + 4 }) (omega (arith, at)) hb whole (omega arith) ht
      stand.1 k)
