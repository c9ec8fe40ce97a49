-- Instructions that do not go on to the next, and environment calls.
use Rattle.std.proofs.Common.{◌≡◌, ℕ, ◌+◌, ◌*◌, ◌/◌, ◌%◌, ◌^◌, ◌<◌, List, [], ◌∷◌, ◌++◌}
use Rattle.std.proofs.Common.{Some, None, Bool, true, false, refl, sym, ap, ◌∙◌, subst, arith, true≢false}
use Rattle.std.specs.Prelude.{if◌then◌else◌}
use Rattle.std.proofs.lemmas.Bool.{eq-eqb, ne_eqb}
use Rattle.std.proofs.lemmas.List.{append-nil}
use Rattle.addr_map.specs.Places.{is_code_address}
use Rattle.behaviours.specs.Shown.{Access}
use Rattle.rv_isa.specs.declared.instruction.BranchOp.{BranchOp}
use Rattle.rv_isa.specs.declared.instruction.Instr.{Instr}
use Rattle.rv_isa.specs.declared.instruction.Instr.TheVariants.{Jal, Jalr, Branch, Ecall}
use Rattle.rv_isa.specs.Table.{word_of}
use Rattle.rv_isa.specs.Word.{sext}
use Rattle.rv_isa.specs.Results.{wrap, branch_taken}
use Rattle.flat_code.specs.Memory.{Bytes, store as store_of}
use Rattle.rv_sim.specs.declared.trap.Action.TheVariants.{Ask}
use Rattle.rv_sim.specs.declared.stop.Stop.TheVariants.{Exited}
use Rattle.std.specs.Prelude.{slice_get, drop}
use Rattle.rv_sim.specs.Memory.{fetch, store, bytes_at, may_write}
use Rattle.rv_sim.specs.State.{MachineState, register, with_register}
use Rattle.rv_sim.specs.Step.{step, executes, jumps, branches, gives, next_pc}
use Rattle.rv_sim.specs.Run.{Configuration, turn, turned, runs, calls, read_call, write_call, answered, onwards}
use Rattle.rv_sim.specs.Accesses.{object_access}
use Rattle.rv_sim.proofs.Steps.{step-word, turn-done}
use Rattle.rv_sim.proofs.Runs.{runs-zero, runs-suc}
use Rattle.machine_laws.specs.View.Segments.{segments, IsOfData}
use Rattle.machine_laws.specs.View.Views.{View, Layout, Fits, StandsAt, Shows, StaysOutside, Sends, SendsErrors, Takes}
use Rattle.machine_laws.specs.View.Views.{with_value, access_in, accesses_by, bytes_from}
use Rattle.machine_laws.proofs.View.Places.{sent_data, received_data, store_data}
use Rattle.machine_laws.proofs.View.Straight.{Sees, Reaches, given, passes_reaches, next_is, apart_of, length_with}
use Rattle.machine_laws.proofs.View.Straight.{reads_with}
use Rattle.machine_laws.proofs.View.Straight.{runs_one, accesses_are}

pub no_access : (accesses : List Access) (pc : ℕ) → accesses ++ accesses_by pc None ≡ accesses
no_access accesses pc = by (is_code_address pc)
  where
    by : (b : Bool) → accesses ++ (if b then [] else []) ≡ accesses
    by true = append-nil accesses
    by false = append-nil accesses

pub sees_of : (l : Layout) (c : Configuration) (v : View) → Shows l c v → Sees l c.state v.pc v.registers v.memory
sees_of l c v h = record {
  objects = h.objects;
  spaces = h.spaces;
  memory_is = h.memory_is;
  hold = h.hold;
  pc_is = h.pc_is;
  count = h.count;
  registers_are = h.registers_are;
}

fetched : (l : Layout) (i : Instr) (c : Configuration) (v : View) → Fits l → StandsAt l v.pc i → Shows l c v
    → fetch c.state.memory c.state.pc ≡ Some (word_of i)
fetched l i c v fit stands h =
    ap (λ p. fetch c.state.memory p) h.pc_is
    ∙ ap (λ ss. fetch ss v.pc) h.memory_is
    ∙ stands.fetched h.objects h.spaces (apart_of l h.objects h.spaces fit h.hold.objects_length h.hold.spaces_length)

-- an instruction without an access
pub comes : (l : Layout) (i : Instr) (c : Configuration) (v : View) (pc : ℕ) (x : ℕ → ℕ) → Fits l → StandsAt l v.pc i
    → access_in i v ≡ None → Shows l c v → Reaches l (executes i c.state) pc x v.memory
    → (after : Configuration) × (runs 1 c ≡ (after, None)) × Shows l after (record v { pc = pc; registers = x })
    × StaysOutside c after
comes l i c v pc x fit stands none h r =
    let f = fetched l i c v fit stands h in
    let q = r.sees in
    let a : object_access c.state ≡ accesses_by v.pc None = accesses_are l i c.state v stands.of_table f
    (sees_of l c v h) ∙ ap (accesses_by v.pc) none in (
      record c { state = r.state; accesses = c.accesses ++ object_access c.state },
      runs_one c (record c { state = r.state; accesses = c.accesses ++ object_access c.state })
          (turn-done c r.state (step-word c.state i stands.of_table f ∙ r.is)),
      record {
        objects = q.objects;
        spaces = q.spaces;
        memory_is = q.memory_is;
        hold = q.hold;
        pc_is = q.pc_is;
        count = q.count;
        registers_are = q.registers_are;
        accesses_are = ap (λ z. c.accesses ++ z) a ∙ no_access c.accesses v.pc ∙ h.accesses_are;
      },
      record { input = refl; output = refl; errors = refl; taken = refl },
    )

jumps_reaches : (l : Layout) (s : MachineState) (pc : ℕ) (x : ℕ → ℕ) (m : Bytes) (rd a target : ℕ) → pc + 4 < 2 ^ 64
    → rd < 32 → a ≡ target → target % 4 ≡ 0 → Sees l s pc x m
    → Reaches l (jumps s rd a) target (with_value x rd (pc + 4)) m
unfolding jumps
jumps_reaches l s pc x m rd a target small r e four h = record {
  state = record s { pc = a; registers = with_register s.registers rd (next_pc s) };
  is = rw (eq-eqb (a % 4) 0 (ap (λ q. q % 4) e ∙ four)) refl;
  sees = record {
    objects = h.objects;
    spaces = h.spaces;
    memory_is = h.memory_is;
    hold = h.hold;
    pc_is = e;
    count = length_with s.registers rd (next_pc s) ∙ h.count;
    registers_are = λ k lt. reads_with s.registers x rd (next_pc s) h.count h.registers_are r k lt
        ∙ ap (λ z. with_value x rd z k) (next_is s pc small h.pc_is);
  };
}

branches_reaches : (l : Layout) (s : MachineState) (pc : ℕ) (x : ℕ → ℕ) (m : Bytes) (taken taken' : Bool) (a target : ℕ)
    → pc + 4 < 2 ^ 64 → taken ≡ taken' → a ≡ target → target % 4 ≡ 0 → Sees l s pc x m
    → Reaches l (branches s taken a) (if taken' then target else pc + 4) x m
unfolding branches
branches_reaches l s pc x m true true a target small et e four h = record {
  state = record s { pc = a };
  is = rw (eq-eqb (a % 4) 0 (ap (λ q. q % 4) e ∙ four)) refl;
  sees = record {
    objects = h.objects;
    spaces = h.spaces;
    memory_is = h.memory_is;
    hold = h.hold;
    pc_is = e;
    count = h.count;
    registers_are = h.registers_are;
  };
}
branches_reaches l s pc x m false false a target small et e four h = passes_reaches l s pc x m small h
branches_reaches l s pc x m true false a target small et e four h = absurd (true≢false et)
branches_reaches l s pc x m false true a target small et e four h = absurd (true≢false (sym et))

pub jal : (l : Layout) (rd imm target : ℕ) (c : Configuration) (v : View) → Fits l → StandsAt l v.pc (Jal rd imm)
    → wrap (v.pc + sext 21 imm) ≡ target → target % 4 ≡ 0 → Shows l c v
    → (after : Configuration) × (runs 1 c ≡ (after, None))
    × Shows l after (record v { pc = target; registers = with_value v.registers rd (v.pc + 4) }) × StaysOutside c after
unfolding executes
jal l rd imm target c v fit stands e four h =
    comes l (Jal rd imm) c v target (with_value v.registers rd (v.pc + 4)) fit stands refl h
    (jumps_reaches l c.state v.pc v.registers v.memory rd _ target stands.small stands.of_table.0
    (ap (λ p. wrap (p + sext 21 imm)) h.pc_is ∙ e) four (sees_of l c v h))

pub jalr : (l : Layout) (rd rs1 imm target : ℕ) (c : Configuration) (v : View) → Fits l
    → StandsAt l v.pc (Jalr rd rs1 imm) → wrap (v.registers rs1 + sext 12 imm) ≡ target → target % 4 ≡ 0 → Shows l c v
    → (after : Configuration) × (runs 1 c ≡ (after, None))
    × Shows l after (record v { pc = target; registers = with_value v.registers rd (v.pc + 4) }) × StaysOutside c after
unfolding executes
jalr l rd rs1 imm target c v fit stands e four h =
    let even : target / 2 * 2 ≡ target = omega (arith, four) in
    comes l (Jalr rd rs1 imm) c v target (with_value v.registers rd (v.pc + 4)) fit stands refl h
    (jumps_reaches l c.state v.pc v.registers v.memory rd _ target stands.small stands.of_table.0
    (ap (λ q. q / 2 * 2) (ap (λ a. wrap (a + sext 12 imm)) (h.registers_are rs1 stands.of_table.1) ∙ e) ∙ even) four
    (sees_of l c v h))

pub branch : (l : Layout) (op : BranchOp) (rs1 rs2 imm target : ℕ) (c : Configuration) (v : View) → Fits l
    → StandsAt l v.pc (Branch op rs1 rs2 imm) → wrap (v.pc + sext 13 imm) ≡ target → target % 4 ≡ 0 → Shows l c v
    → (after : Configuration) × (runs 1 c ≡ (after, None))
    × Shows l after (record v { pc = if branch_taken op (v.registers rs1) (v.registers rs2) then target else v.pc + 4 })
    × StaysOutside c after
unfolding executes
branch l op rs1 rs2 imm target c v fit stands e four h =
    comes l (Branch op rs1 rs2 imm) c v
    (if branch_taken op (v.registers rs1) (v.registers rs2) then target else v.pc + 4) v.registers fit stands refl h
    (branches_reaches l c.state v.pc v.registers v.memory _ (branch_taken op (v.registers rs1) (v.registers rs2)) _
    target stands.small
    (ap (λ a. branch_taken op a (register c.state rs2)) (h.registers_are rs1 stands.of_table.0)
    ∙ ap (branch_taken op (v.registers rs1)) (h.registers_are rs2 stands.of_table.1))
    (ap (λ p. wrap (p + sext 13 imm)) h.pc_is ∙ e) four (sees_of l c v h))

-- an environment call
pub asks : (l : Layout) (c : Configuration) (v : View) → Fits l → StandsAt l v.pc Ecall → Shows l c v → runs 1 c
    ≡ calls c
unfolding executes turn
asks l c v fit stands h =
    let e : step c.state ≡ (c.state, Ask) = step-word c.state Ecall stands.of_table
    (fetched l Ecall c v fit stands h) in
    runs-suc 0 c ∙ ap onwards (runs-zero c) ∙ ap (turned c) e

pub exits : (l : Layout) (c : Configuration) (v : View) → Fits l → StandsAt l v.pc Ecall → v.registers 17 ≡ 93
    → Shows l c v → runs 1 c ≡ (c, Some (Exited (v.registers 10 % 256)))
unfolding calls
exits l c v fit stands number h =
    let r17 : register c.state 17 ≡ 93 = h.registers_are 17 (omega arith) ∙ number in
    let done : calls c ≡ (c, Some (Exited (register c.state 10 % 256))) = rw r17 refl in
    asks l c v fit stands h ∙ done ∙ ap (λ n. (c, Some (Exited (n % 256)))) (h.registers_are 10 (omega arith))

-- what a call that answers leaves in the state
pub answers : (l : Layout) (c : Configuration) (v : View) (n : ℕ) → v.pc + 4 < 2 ^ 64 → Shows l c v
    → Reaches l (gives c.state 10 n) (v.pc + 4) (with_value v.registers 10 n) v.memory
answers l c v n small h = given l c.state v.pc v.registers v.memory 10 n n small (omega arith) refl (sees_of l c v h)

-- a call that answers a number, where the state was as it is: registers but a0, memory and accesses stay
record Answers (l : Layout) (c d : Configuration) (v : View) (n : ℕ) : Type 0 where
  after : Configuration
  is : runs 1 c ≡ (after, None)
  shows : Shows l after (record v { pc = v.pc + 4; registers = with_value v.registers 10 n })
  output : after.output ≡ d.output
  errors : after.errors ≡ d.errors
  input : after.input ≡ d.input
  taken : after.taken ≡ d.taken

answered_shows : (l : Layout) (c d : Configuration) (v : View) (n : ℕ) → Fits l → StandsAt l v.pc Ecall → Shows l c v
    → d.state ≡ c.state → d.accesses ≡ c.accesses → calls c ≡ answered d n → Answers l c d v n
unfolding gives
answered_shows l c d v n fit stands h same seen done =
    let after : Configuration = record d { state = (gives d.state 10 n).0 } in
    let r = answers l c v n stands.small h in
    let e : (gives d.state 10 n).0 ≡ r.state = ap (λ s. (gives s 10 n).0) same ∙ ap (λ t. t.0) r.is in
    let q : Sees l (gives d.state 10 n).0 (v.pc + 4) (with_value v.registers 10 n) v.memory = subst
    (λ z. Sees l z (v.pc + 4) (with_value v.registers 10 n) v.memory) (sym e) r.sees in
    record {
      after = after;
      is = asks l c v fit stands h ∙ done;
      shows = record {
        objects = q.objects;
        spaces = q.spaces;
        memory_is = q.memory_is;
        hold = q.hold;
        pc_is = q.pc_is;
        count = q.count;
        registers_are = q.registers_are;
        accesses_are = seen ∙ h.accesses_are;
      };
      output = refl;
      errors = refl;
      input = refl;
      taken = refl;
    }

-- what the environment finds in the buffer
buffer_is : (l : Layout) (c : Configuration) (v : View) (n : ℕ) → Fits l → v.registers 12 ≡ n → 0 < n
    → IsOfData l.object_bytes l.space_bytes (v.registers 11) n → Shows l c v
    → bytes_at c.state.memory (register c.state 11) (register c.state 12)
    ≡ Some (bytes_from v.memory (v.registers 11) n)
buffer_is l c v n fit count some lies h =
    let s = c.state in
    ap (bytes_at s.memory (register s 11)) (h.registers_are 12 (omega arith) ∙ count)
    ∙ ap (λ a. bytes_at s.memory a n) (h.registers_are 11 (omega arith))
    ∙ ap (λ ss. bytes_at ss (v.registers 11) n) h.memory_is
    ∙ sent_data l.table l.code h.objects h.spaces l.object_bytes l.space_bytes v.memory (v.registers 11) n
    (apart_of l h.objects h.spaces fit h.hold.objects_length h.hold.spaces_length) h.hold some lies

pub writes_bytes : (l : Layout) (n : ℕ) (c : Configuration) (v : View) → Fits l → StandsAt l v.pc Ecall
    → v.registers 17 ≡ 64 → v.registers 10 ≡ 1 → v.registers 12 ≡ n → 0 < n
    → IsOfData l.object_bytes l.space_bytes (v.registers 11) n → Shows l c v
    → (after : Configuration) × (runs 1 c ≡ (after, None))
    × Shows l after (record v { pc = v.pc + 4; registers = with_value v.registers 10 n })
    × Sends c after (bytes_from v.memory (v.registers 11) n)
unfolding calls write_call
writes_bytes l n c v fit stands number descriptor count some lies h =
    let s = c.state in
    let r17 : register s 17 ≡ 64 = h.registers_are 17 (omega arith) ∙ number in
    let r10 : register s 10 ≡ 1 = h.registers_are 10 (omega arith) ∙ descriptor in
    let r12 : register s 12 ≡ n = h.registers_are 12 (omega arith) ∙ count in
    let bytes = buffer_is l c v n fit count some lies h in
    let nonzero = ne_eqb n 0 (λ e. omega arith) in
    let d : Configuration = record c { output = c.output ++ bytes_from v.memory (v.registers 11) n } in
    let done : calls c ≡ answered d n = rw (r17, bytes, r10, r12, nonzero) refl in
    let a = answered_shows l c d v n fit stands h refl refl done in
    (a.after, a.is, a.shows, record { output = a.output; input = a.input; errors = a.errors; taken = a.taken })

pub writes_errors : (l : Layout) (n : ℕ) (c : Configuration) (v : View) → Fits l → StandsAt l v.pc Ecall
    → v.registers 17 ≡ 64 → v.registers 10 ≡ 2 → v.registers 12 ≡ n → 0 < n
    → IsOfData l.object_bytes l.space_bytes (v.registers 11) n → Shows l c v
    → (after : Configuration) × (runs 1 c ≡ (after, None))
    × Shows l after (record v { pc = v.pc + 4; registers = with_value v.registers 10 n })
    × SendsErrors c after (bytes_from v.memory (v.registers 11) n)
unfolding calls write_call
writes_errors l n c v fit stands number descriptor count some lies h =
    let s = c.state in
    let r17 : register s 17 ≡ 64 = h.registers_are 17 (omega arith) ∙ number in
    let r10 : register s 10 ≡ 2 = h.registers_are 10 (omega arith) ∙ descriptor in
    let r12 : register s 12 ≡ n = h.registers_are 12 (omega arith) ∙ count in
    let bytes = buffer_is l c v n fit count some lies h in
    let nonzero = ne_eqb n 0 (λ e. omega arith) in
    let d : Configuration = record c { errors = c.errors ++ bytes_from v.memory (v.registers 11) n } in
    let done : calls c ≡ answered d n = rw (r17, bytes, r10, r12, nonzero) refl in
    let a = answered_shows l c d v n fit stands h refl refl done in
    (a.after, a.is, a.shows, record { output = a.output; input = a.input; errors = a.errors; taken = a.taken })

pub reads_nothing : (l : Layout) (c : Configuration) (v : View) → Fits l → StandsAt l v.pc Ecall → v.registers 17 ≡ 63
    → v.registers 10 ≡ 0 → v.registers 12 ≡ 1 → IsOfData l.object_bytes l.space_bytes (v.registers 11) 1 → c.input ≡ []
    → Shows l c v → (after : Configuration) × (runs 1 c ≡ (after, None))
    × Shows l after (record v { pc = v.pc + 4; registers = with_value v.registers 10 0 }) × StaysOutside c after
unfolding calls read_call
reads_nothing l c v fit stands number descriptor count lies empty h =
    let s = c.state in
    let r17 : register s 17 ≡ 63 = h.registers_are 17 (omega arith) ∙ number in
    let r10 : register s 10 ≡ 0 = h.registers_are 10 (omega arith) ∙ descriptor in
    let r12 : register s 12 ≡ 1 = h.registers_are 12 (omega arith) ∙ count in
    let may : may_write s.memory (register s 11) (register s 12) ≡ true =
    ap (may_write s.memory (register s 11)) r12
    ∙ ap (λ a. may_write s.memory a 1) (h.registers_are 11 (omega arith))
    ∙ ap (λ ss. may_write ss (v.registers 11) 1) h.memory_is
    ∙ received_data l.table l.code h.objects h.spaces l.object_bytes l.space_bytes v.memory (v.registers 11)
    (apart_of l h.objects h.spaces fit h.hold.objects_length h.hold.spaces_length) h.hold lies
    in
    let first : slice_get c.input 0 ≡ None = ap (λ i. slice_get i 0) empty in
    let done : calls c ≡ answered c 0 = rw (r17, may, r10, r12, first) refl in
    let a = answered_shows l c c v 0 fit stands h refl refl done in
    (a.after, a.is, a.shows, record { input = a.input; output = a.output; errors = a.errors; taken = a.taken })

some_byte : 0 < 1
some_byte = omega arith

pub reads_byte : (l : Layout) (c : Configuration) (v : View) (byte : ℕ) (rest : List ℕ) → Fits l → StandsAt l v.pc Ecall
    → v.registers 17 ≡ 63 → v.registers 10 ≡ 0 → v.registers 12 ≡ 1
    → IsOfData l.object_bytes l.space_bytes (v.registers 11) 1 → c.input ≡ byte ∷ rest → Shows l c v
    → (after : Configuration) × (runs 1 c ≡ (after, None))
    × Shows l after (record v
    { pc = v.pc + 4; registers = with_value v.registers 10 1; memory = store_of 1 v.memory (v.registers 11) byte })
    × Takes c after rest
unfolding calls read_call gives
reads_byte l c v byte rest fit stands number descriptor count lies begins h =
    let s = c.state in
    let apart = apart_of l h.objects h.spaces fit h.hold.objects_length h.hold.spaces_length in
    let r17 : register s 17 ≡ 63 = h.registers_are 17 (omega arith) ∙ number in
    let r10 : register s 10 ≡ 0 = h.registers_are 10 (omega arith) ∙ descriptor in
    let r11 : register s 11 ≡ v.registers 11 = h.registers_are 11 (omega arith) in
    let r12 : register s 12 ≡ 1 = h.registers_are 12 (omega arith) ∙ count in
    let may : may_write s.memory (register s 11) (register s 12) ≡ true =
    ap (may_write s.memory (register s 11)) r12
    ∙ ap (λ a. may_write s.memory a 1) r11
    ∙ ap (λ ss. may_write ss (v.registers 11) 1) h.memory_is
    ∙ received_data l.table l.code h.objects h.spaces l.object_bytes l.space_bytes v.memory (v.registers 11) apart
    h.hold lies
    in
    let first : slice_get c.input 0 ≡ Some byte = ap (λ i. slice_get i 0) begins in
    let w = store_data l.table l.code h.objects h.spaces l.object_bytes l.space_bytes v.memory (v.registers 11) 1 byte
    apart h.hold some_byte lies in
    let put_it : store s.memory (register s 11) 1 byte ≡ Some (segments l.table l.code w.0 w.1) =
    ap (λ a. store s.memory a 1 byte) r11 ∙ ap (λ ss. store ss (v.registers 11) 1 byte) h.memory_is ∙ w.2
    in
    let s' : MachineState = record s { memory = segments l.table l.code w.0 w.1 } in
    let after : Configuration = record c { state = (gives s' 10 1).0; input = drop 1 c.input; taken = c.taken + 1 } in
    let done : calls c ≡ (after, None) = rw (r17, may, r10, r12, first, put_it) refl in
    let seen : Sees l s' v.pc v.registers (store_of 1 v.memory (v.registers 11) byte) = record {
      objects = w.0;
      spaces = w.1;
      memory_is = refl;
      hold = w.3;
      pc_is = h.pc_is;
      count = h.count;
      registers_are = h.registers_are;
    } in
    let r = given l s' v.pc v.registers (store_of 1 v.memory (v.registers 11) byte) 10 1 1 stands.small (omega arith)
    refl seen in
    let e : (gives s' 10 1).0 ≡ r.state = ap (λ t. t.0) r.is in
    let q : Sees l (gives s' 10 1).0 (v.pc + 4) (with_value v.registers 10 1)
    (store_of 1 v.memory (v.registers 11) byte) =
    subst (λ z. Sees l z (v.pc + 4) (with_value v.registers 10 1) (store_of 1 v.memory (v.registers 11) byte))
    (sym e) r.sees
    in (
      after,
      asks l c v fit stands h ∙ done,
      record {
        objects = q.objects;
        spaces = q.spaces;
        memory_is = q.memory_is;
        hold = q.hold;
        pc_is = q.pc_is;
        count = q.count;
        registers_are = q.registers_are;
        accesses_are = h.accesses_are;
      },
      record { input = ap (drop 1) begins; taken = refl; output = refl; errors = refl },
    )
