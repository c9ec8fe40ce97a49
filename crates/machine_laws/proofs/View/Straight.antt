-- Instructions that go on to the next, on the machine and on its view.
use Rattle.std.proofs.Common.{◌≡◌, ◌≢◌, ℕ, zero, suc, ◌+◌, ◌*◌, ◌^◌, ◌<◌, ⊎_elim, List, [], ◌∷◌, ◌++◌, length}
use Rattle.std.proofs.Common.{Some, None, Bool, true, false, refl, sym, ap, ◌∙◌, subst, arith}
use Rattle.std.specs.Prelude.{◌==◌, slice_index, slice_set, if◌then◌else◌}
use Rattle.std.proofs.lemmas.Bool.{cases_eq, eq-eqb, ne_eqb}
use Rattle.std.proofs.lemmas.List.{length-set, get_or-set_same, get_or-set_other}
use Rattle.addr_map.specs.Places.{is_code_address}
use Rattle.behaviours.specs.Shown.{Read, Write}
use Rattle.rv_isa.specs.declared.instruction.LoadOp.{LoadOp}
use Rattle.rv_isa.specs.declared.instruction.LoadOp.TheVariants.{Lb, Lh, Lw, Ld, Lbu, Lhu, Lwu}
use Rattle.rv_isa.specs.declared.instruction.StoreOp.{StoreOp}
use Rattle.rv_isa.specs.declared.instruction.StoreOp.TheVariants.{Sb, Sh, Sw, Sd}
use Rattle.rv_isa.specs.declared.instruction.Instr.{Instr}
use Rattle.rv_isa.specs.declared.instruction.Instr.TheVariants.{Lui, Auipc, Jal, Jalr, Branch, Load, Store, OpImm}
use Rattle.rv_isa.specs.declared.instruction.Instr.TheVariants.{ShiftImm}
use Rattle.rv_isa.specs.declared.instruction.Instr.TheVariants.{Addiw, ShiftImm32, Op, Op32, Fence, Ecall, Ebreak}
use Rattle.rv_isa.specs.Table.{word_of, IsOfTable}
use Rattle.rv_isa.specs.Decoding.{decoded}
use Rattle.rv_isa.proofs.RoundTrip.{decoded-word}
use Rattle.rv_isa.specs.Word.{sext}
use Rattle.rv_isa.specs.Results.{wrap, low_word, imm_result, shift_result, shift32_result, reg_result, reg32_result}
use Rattle.rv_isa.specs.Results.{load_bytes, extended, store_bytes}
use Rattle.flat_code.specs.Memory.{Bytes, put, load as load_of, store as store_of}
use Rattle.flat_code.proofs.Stored.{put_same, put_other}
use Rattle.rv_sim.specs.declared.trap.Action.TheVariants.{Done}
use Rattle.rv_sim.specs.Memory.{load, store, fetch, ◌>>=◌}
use Rattle.rv_sim.specs.State.{MachineState, register, with_register}
use Rattle.rv_sim.specs.Step.{Stepped, executes, gives, passes, loads, loaded, stores, stored, next_pc}
use Rattle.rv_sim.specs.Run.{Configuration, turn, runs, onwards}
use Rattle.rv_sim.specs.Accesses.{access_of, next_access, objects_only, object_access}
use Rattle.rv_sim.proofs.Steps.{step-word, turn-done}
use Rattle.rv_sim.proofs.Runs.{runs-zero, runs-suc}
use Rattle.machine_laws.specs.View.Segments.{segments, AreApart, Hold, IsOfData}
use Rattle.machine_laws.specs.View.Views.{View, Layout, Fits, StandsAt, AllStand, GoesOn, AllGoOn, Shows, StaysOutside}
use Rattle.machine_laws.specs.View.Views.{with_value, access_in, performed, accesses_by, perform, performs}
use Rattle.machine_laws.proofs.View.Places.{load_data, store_data}

-- ---- runs

pub runs_then : (n k : ℕ) (c after : Configuration) → runs k c ≡ (after, None) → runs (n + k) c ≡ runs n after
runs_then zero k c after e =
    let z : 0 + k ≡ k = omega arith in
    ap (λ j. runs j c) z ∙ e ∙ sym (runs-zero after)
runs_then (suc n) k c after e =
    let z : suc n + k ≡ suc (n + k) = omega arith in
    ap (λ j. runs j c) z ∙ runs-suc (n + k) c ∙ ap onwards (runs_then n k c after e) ∙ sym (runs-suc n after)

pub runs_one : (c after : Configuration) → turn c ≡ (after, None) → runs 1 c ≡ (after, None)
runs_one c after e = runs-suc 0 c ∙ ap onwards (runs-zero c) ∙ e

-- ---- registers

some_loaded : (op : LoadOp) → 0 < load_bytes op
some_loaded Lb = omega arith
some_loaded Lh = omega arith
some_loaded Lw = omega arith
some_loaded Ld = omega arith
some_loaded Lbu = omega arith
some_loaded Lhu = omega arith
some_loaded Lwu = omega arith

some_stored : (op : StoreOp) → 0 < store_bytes op
some_stored Sb = omega arith
some_stored Sh = omega arith
some_stored Sw = omega arith
some_stored Sd = omega arith

-- the list of registers, read as functions
abbrev pub at_register : List ℕ → ℕ → ℕ
at_register registers r = if r == 0 then 0 else slice_index registers r

pub length_with : (registers : List ℕ) (rd n : ℕ) → length (with_register registers rd n) ≡ length registers
length_with registers rd n = by (rd == 0)
  where
    by : (b : Bool) → length (if b then registers else slice_set registers rd n) ≡ length registers
    by true = refl
    by false = length-set registers rd n

pub reads_with : (registers : List ℕ) (x : ℕ → ℕ) (rd n : ℕ) → length registers ≡ 32
    → ((r : ℕ) → r < 32 → at_register registers r ≡ x r) → rd < 32 → (r : ℕ) → r < 32
    → at_register (with_register registers rd n) r ≡ with_value x rd n r
reads_with registers x rd n count are small r lt = ⊎_elim
    (λ z. rw (eq-eqb rd 0 z) (are r lt))
    (λ nz. ⊎_elim
    (λ same.
    let rz : r ≢ 0 = λ e. nz (sym same ∙ e) in
    let inside : rd < length registers = omega arith in
    rw (ne_eqb rd 0 nz, ne_eqb r 0 rz)
    (ap (slice_index (slice_set registers rd n)) same ∙ get_or-set_same registers rd n 0 inside
    ∙ sym (ap (put x rd n) same ∙ put_same x rd n)))
    (λ ne. rw (ne_eqb rd 0 nz) (other ne))
    (cases_eq r rd))
    (cases_eq rd 0)
  where
    other : r ≢ rd → at_register (slice_set registers rd n) r ≡ put x rd n r
    other ne = ⊎_elim
        (λ z. rw (eq-eqb r 0 z) (sym (put_other x rd n r ne ∙ sym (are r lt) ∙ rw (eq-eqb r 0 z) refl)))
        (λ nz. rw (ne_eqb r 0 nz)
        (get_or-set_other registers rd r n 0 ne
        ∙ (let q : slice_index registers r ≡ x r = rw (ne_eqb r 0 nz) at (are r lt) in q)
        ∙ sym (put_other x rd n r ne)))
        (cases_eq r 0)

-- ---- one instruction

-- a state is what a view shows of it
pub record Sees (l : Layout) (s : MachineState) (pc : ℕ) (x : ℕ → ℕ) (m : Bytes) : Type 0 where
  pub objects : List ℕ
  pub spaces : List ℕ
  pub memory_is : s.memory ≡ segments l.table l.code objects spaces
  pub hold : Hold l.object_bytes l.space_bytes m objects spaces
  pub pc_is : s.pc ≡ pc
  pub count : length s.registers ≡ 32
  pub registers_are : (r : ℕ) → r < 32 → register s r ≡ x r

-- a step is done, and this is seen behind it
pub record Reaches (l : Layout) (t : Stepped) (pc : ℕ) (x : ℕ → ℕ) (m : Bytes) : Type 0 where
  pub state : MachineState
  pub is : t ≡ (state, Done)
  pub sees : Sees l state pc x m

pub apart_of : (l : Layout) (objects spaces : List ℕ) → Fits l → length objects ≡ l.object_bytes
    → length spaces ≡ l.space_bytes → AreApart l.table l.code objects spaces
apart_of l objects spaces f a b = record {
  table_fits = f.table_fits;
  code_fits = f.code_fits;
  objects_fit = omega (arith, f.objects_fit);
  spaces_fit = omega (arith, f.spaces_fit);
}

pub next_is : (s : MachineState) (pc : ℕ) → pc + 4 < 2 ^ 64 → s.pc ≡ pc → next_pc s ≡ pc + 4
next_is s pc small e = omega (arith, e)

pub given : (l : Layout) (s : MachineState) (pc : ℕ) (x : ℕ → ℕ) (m : Bytes) (rd n n' : ℕ) → pc + 4 < 2 ^ 64 → rd < 32
    → n ≡ n' → Sees l s pc x m → Reaches l (gives s rd n) (pc + 4) (with_value x rd n') m
unfolding gives
given l s pc x m rd n n' small r e h = record {
  state = record s { pc = next_pc s; registers = with_register s.registers rd n };
  is = refl;
  sees = record {
    objects = h.objects;
    spaces = h.spaces;
    memory_is = h.memory_is;
    hold = h.hold;
    pc_is = next_is s pc small h.pc_is;
    count = length_with s.registers rd n ∙ h.count;
    registers_are = λ k lt. reads_with s.registers x rd n h.count h.registers_are r k lt
        ∙ ap (λ z. with_value x rd z k) e;
  };
}

load_reaches : (l : Layout) (s : MachineState) (pc : ℕ) (x : ℕ → ℕ) (m : Bytes) (op : LoadOp) (rd a a' : ℕ) → Fits l
    → pc + 4 < 2 ^ 64 → rd < 32 → a ≡ a' → IsOfData l.object_bytes l.space_bytes a' (load_bytes op) → Sees l s pc x m
    → Reaches l (loads s op rd a) (pc + 4) (with_value x rd (extended op (load_of (load_bytes op) m a'))) m
unfolding loads
load_reaches l s pc x m op rd a a' f small r e d h =
    let n = load_of (load_bytes op) m a' in
    let got : load s.memory a (load_bytes op) ≡ Some n =
    ap (λ ss. load ss a (load_bytes op)) h.memory_is
    ∙ ap (λ b. load (segments l.table l.code h.objects h.spaces) b (load_bytes op)) e
    ∙ load_data l.table l.code h.objects h.spaces l.object_bytes l.space_bytes m a' (load_bytes op)
    (apart_of l h.objects h.spaces f h.hold.objects_length h.hold.spaces_length) h.hold (some_loaded op) d
    in
    let t = given l s pc x m rd (extended op n) (extended op n) small r refl h in
    record { state = t.state; is = ap (loaded s op rd) got ∙ t.is; sees = t.sees }

store_reaches : (l : Layout) (s : MachineState) (pc : ℕ) (x : ℕ → ℕ) (m : Bytes) (op : StoreOp) (a a' n n' : ℕ) → Fits l
    → pc + 4 < 2 ^ 64 → a ≡ a' → n ≡ n' → IsOfData l.object_bytes l.space_bytes a' (store_bytes op) → Sees l s pc x m
    → Reaches l (stores s op a n) (pc + 4) x (store_of (store_bytes op) m a' n')
unfolding stores
store_reaches l s pc x m op a a' n n' f small ea en d h =
    let w = store_data l.table l.code h.objects h.spaces l.object_bytes l.space_bytes m a' (store_bytes op) n'
    (apart_of l h.objects h.spaces f h.hold.objects_length h.hold.spaces_length) h.hold (some_stored op) d in
    let put_it : store s.memory a (store_bytes op) n ≡ Some (segments l.table l.code w.0 w.1) =
    ap (λ ss. store ss a (store_bytes op) n) h.memory_is
    ∙ ap (λ b. store (segments l.table l.code h.objects h.spaces) b (store_bytes op) n) ea
    ∙ ap (λ k. store (segments l.table l.code h.objects h.spaces) a' (store_bytes op) k) en
    ∙ w.2
    in
    record {
      state = record s { pc = next_pc s; memory = segments l.table l.code w.0 w.1 };
      is = ap (stored s) put_it;
      sees = record {
        objects = w.0;
        spaces = w.1;
        memory_is = refl;
        hold = w.3;
        pc_is = next_is s pc small h.pc_is;
        count = h.count;
        registers_are = h.registers_are;
      };
    }

pub passes_reaches : (l : Layout) (s : MachineState) (pc : ℕ) (x : ℕ → ℕ) (m : Bytes) → pc + 4 < 2 ^ 64
    → Sees l s pc x m
    → Reaches l (passes s) (pc + 4) x m
unfolding passes
passes_reaches l s pc x m small h = record {
  state = record s { pc = next_pc s };
  is = refl;
  sees = record {
    objects = h.objects;
    spaces = h.spaces;
    memory_is = h.memory_is;
    hold = h.hold;
    pc_is = next_is s pc small h.pc_is;
    count = h.count;
    registers_are = h.registers_are;
  };
}

reaches : (l : Layout) → Fits l → (i : Instr) (s : MachineState) (v : View) → v.pc + 4 < 2 ^ 64 → IsOfTable i
    → GoesOn l.object_bytes l.space_bytes i v → Sees l s v.pc v.registers v.memory
    → Reaches l (executes i s) (performed i v).pc (performed i v).registers (performed i v).memory
unfolding executes
reaches l f (Lui rd imm) s v small t g h = given l s v.pc v.registers v.memory rd _ _ small t.0 refl h
reaches l f (Auipc rd imm) s v small t g h =
    given l s v.pc v.registers v.memory rd _ _ small t.0 (ap (λ p. wrap (p + sext 32 (imm * 2 ^ 12))) h.pc_is) h
reaches l f (Load op rd rs1 imm) s v small t g h =
    load_reaches l s v.pc v.registers v.memory op rd _ _ f small t.0
    (ap (λ a. wrap (a + sext 12 imm)) (h.registers_are rs1 t.1)) g h
reaches l f (Store op rs1 rs2 imm) s v small t g h =
    store_reaches l s v.pc v.registers v.memory op _ _ _ _ f small
    (ap (λ a. wrap (a + sext 12 imm)) (h.registers_are rs1 t.0)) (h.registers_are rs2 t.1) g h
reaches l f (OpImm op rd rs1 imm) s v small t g h =
    given l s v.pc v.registers v.memory rd _ _ small t.0
    (ap (λ a. imm_result op a (sext 12 imm)) (h.registers_are rs1 t.1)) h
reaches l f (ShiftImm op rd rs1 shamt) s v small t g h =
    given l s v.pc v.registers v.memory rd _ _ small t.0 (ap (λ a. shift_result op a shamt) (h.registers_are rs1 t.1)) h
reaches l f (Addiw rd rs1 imm) s v small t g h =
    given l s v.pc v.registers v.memory rd _ _ small t.0
    (ap (λ a. sext 32 (low_word (a + sext 12 imm))) (h.registers_are rs1 t.1)) h
reaches l f (ShiftImm32 op rd rs1 shamt) s v small t g h =
    given l s v.pc v.registers v.memory rd _ _ small t.0
    (ap (λ a. shift32_result op (low_word a) shamt) (h.registers_are rs1 t.1)) h
reaches l f (Op op rd rs1 rs2) s v small t g h =
    given l s v.pc v.registers v.memory rd _ _ small t.0
    (ap (λ a. reg_result op a (register s rs2)) (h.registers_are rs1 t.1)
    ∙ ap (reg_result op (v.registers rs1)) (h.registers_are rs2 t.2)) h
reaches l f (Op32 op rd rs1 rs2) s v small t g h =
    given l s v.pc v.registers v.memory rd _ _ small t.0
    (ap (λ a. reg32_result op (low_word a) (low_word (register s rs2))) (h.registers_are rs1 t.1)
    ∙ ap (λ b. reg32_result op (low_word (v.registers rs1)) (low_word b)) (h.registers_are rs2 t.2)) h
reaches l f (Fence rd rs1 fields) s v small t g h = passes_reaches l s v.pc v.registers v.memory small h
reaches l f (Jal rd imm) s v small t g h = absurd g
reaches l f (Jalr rd rs1 imm) s v small t g h = absurd g
reaches l f (Branch op rs1 rs2 imm) s v small t g h = absurd g
reaches l f Ecall s v small t g h = absurd g
reaches l f Ebreak s v small t g h = absurd g

-- its access, and the place behind it
same_access : (l : Layout) (i : Instr) (s : MachineState) (v : View) → IsOfTable i → Sees l s v.pc v.registers v.memory
    → access_of i s ≡ access_in i v
same_access l (Load op rd rs1 imm) s v t h = ap
    (λ a. Some (record { address = wrap (a + sext 12 imm); size = load_bytes op; kind = Read }))
    (h.registers_are rs1 t.1)
same_access l (Store op rs1 rs2 imm) s v t h = ap
    (λ a. Some (record { address = wrap (a + sext 12 imm); size = store_bytes op; kind = Write }))
    (h.registers_are rs1 t.0)
same_access l (Lui rd imm) s v t h = refl
same_access l (Auipc rd imm) s v t h = refl
same_access l (Jal rd imm) s v t h = refl
same_access l (Jalr rd rs1 imm) s v t h = refl
same_access l (Branch op rs1 rs2 imm) s v t h = refl
same_access l (OpImm op rd rs1 imm) s v t h = refl
same_access l (ShiftImm op rd rs1 shamt) s v t h = refl
same_access l (Addiw rd rs1 imm) s v t h = refl
same_access l (ShiftImm32 op rd rs1 shamt) s v t h = refl
same_access l (Op op rd rs1 rs2) s v t h = refl
same_access l (Op32 op rd rs1 rs2) s v t h = refl
same_access l (Fence rd rs1 fields) s v t h = refl
same_access l Ecall s v t h = refl
same_access l Ebreak s v t h = refl

behind : (o n : ℕ) (i : Instr) (v : View) → GoesOn o n i v → (perform i v).pc ≡ v.pc + 4
behind o n (Load op rd rs1 imm) v g = refl
behind o n (Store op rs1 rs2 imm) v g = refl
behind o n (Lui rd imm) v g = refl
behind o n (Auipc rd imm) v g = refl
behind o n (OpImm op rd rs1 imm) v g = refl
behind o n (ShiftImm op rd rs1 shamt) v g = refl
behind o n (Addiw rd rs1 imm) v g = refl
behind o n (ShiftImm32 op rd rs1 shamt) v g = refl
behind o n (Op op rd rs1 rs2) v g = refl
behind o n (Op32 op rd rs1 rs2) v g = refl
behind o n (Fence rd rs1 fields) v g = refl
behind o n (Jal rd imm) v g = absurd g
behind o n (Jalr rd rs1 imm) v g = absurd g
behind o n (Branch op rs1 rs2 imm) v g = absurd g
behind o n Ecall v g = absurd g
behind o n Ebreak v g = absurd g

pub accesses_are : (l : Layout) (i : Instr) (s : MachineState) (v : View) → IsOfTable i
    → fetch s.memory s.pc ≡ Some (word_of i) → Sees l s v.pc v.registers v.memory
    → object_access s ≡ accesses_by v.pc (access_in i v)
unfolding object_access next_access
accesses_are l i s v t f h =
    let a : next_access s ≡ access_in i v =
    ap (λ o. o >>= λ word. decoded word >>= λ j. access_of j s) f
    ∙ ap (λ o. o >>= λ j. access_of j s) (decoded-word i t)
    ∙ same_access l i s v t h
    in
    ap (λ o. if is_code_address s.pc then objects_only o else []) a ∙ ap (λ p. accesses_by p (access_in i v)) h.pc_is

one_performs : (l : Layout) (i : Instr) (c : Configuration) (v : View) → Fits l → StandsAt l v.pc i
    → GoesOn l.object_bytes l.space_bytes i v → Shows l c v
    → (after : Configuration) × (runs 1 c ≡ (after, None)) × Shows l after (perform i v) × StaysOutside c after
one_performs l i c v fit stands g h =
    let s = c.state in
    let sees : Sees l s v.pc v.registers v.memory = record {
      objects = h.objects;
      spaces = h.spaces;
      memory_is = h.memory_is;
      hold = h.hold;
      pc_is = h.pc_is;
      count = h.count;
      registers_are = h.registers_are;
    } in
    let f : fetch s.memory s.pc ≡ Some (word_of i) =
    ap (λ p. fetch s.memory p) h.pc_is
    ∙ ap (λ ss. fetch ss v.pc) h.memory_is
    ∙ stands.fetched h.objects h.spaces
    (apart_of l h.objects h.spaces fit h.hold.objects_length h.hold.spaces_length)
    in
    let r = reaches l fit i s v stands.small stands.of_table g sees in
    let after : Configuration = record c { state = r.state; accesses = c.accesses ++ object_access s } in
    let q = r.sees in (
      after,
      runs_one c after (turn-done c r.state (step-word s i stands.of_table f ∙ r.is)),
      record {
        objects = q.objects;
        spaces = q.spaces;
        memory_is = q.memory_is;
        hold = q.hold;
        pc_is = q.pc_is;
        count = q.count;
        registers_are = q.registers_are;
        accesses_are = ap (λ a. a ++ object_access s) h.accesses_are
            ∙ ap (λ a. v.accesses ++ a) (accesses_are l i s v stands.of_table f sees);
      },
      record { input = refl; output = refl; errors = refl; taken = refl },
    )

-- one after another
pub straight : (l : Layout) (is : List Instr) (c : Configuration) (v : View) → Fits l → AllStand l v.pc is
    → AllGoOn l.object_bytes l.space_bytes is v → Shows l c v
    → (after : Configuration) × (runs (length is) c ≡ (after, None)) × Shows l after (performs is v)
    × StaysOutside c after
straight l [] c v fit stands g h =
    (c, runs-zero c, h, record { input = refl; output = refl; errors = refl; taken = refl })
straight l (i ∷ is) c v fit stands g h =
    let o = one_performs l i c v fit stands.0 g.0 h in
    let place : v.pc + 4 ≡ (perform i v).pc = sym (behind l.object_bytes l.space_bytes i v g.0) in
    let r = straight l is o.0 (perform i v) fit (subst (λ p. AllStand l p is) place stands.1) g.1 o.2 in
    let n : length (i ∷ is) ≡ length is + 1 = omega arith in (
      r.0,
      ap (λ k. runs k c) n ∙ runs_then (length is) 1 c o.0 o.1 ∙ r.1,
      r.2,
      record {
        input = r.3.input ∙ o.3.input;
        output = r.3.output ∙ o.3.output;
        errors = r.3.errors ∙ o.3.errors;
        taken = r.3.taken ∙ o.3.taken;
      },
    )
