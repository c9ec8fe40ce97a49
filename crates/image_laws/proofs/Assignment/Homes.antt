-- Homes of objects: made where a block is entered, and read by pointers to them and where it is left.
use Rattle.std.proofs.Common.{◌≡◌, ◌⊎◌, inl, inr, ⊎_elim, ℕ, suc, ◌+◌, ◌<◌, refl, subst, arith}
use Rattle.std.proofs.Common.{Bool, true, false, List, [], ◌∷◌, ◌++◌}
use Rattle.std.specs.Prelude.{if◌then◌else◌}
use Rattle.addr_map.specs.Places.{MapSizes}
use Rattle.rv_isa.specs.declared.instruction.RegOp.TheVariants.{Add}
use Rattle.rv_isa.specs.declared.instruction.LoadOp.TheVariants.{Ld}
use Rattle.obj_memory.specs.Heap.{rounded_up}
use Rattle.c_tree.specs.declared.program.Variable.{Variable}
use Rattle.c_tree.specs.Kinds.{size_of_kind}
use Rattle.tac_ir.specs.declared.function.CodeFunction.{CodeFunction}
use Rattle.tac_ir.specs.declared.function.Tac.{Tac}
use Rattle.flat_code.specs.declared.instruction.RightOperand.{RightOperand}
use Rattle.flat_code.specs.declared.instruction.FlatInstruction.{FlatInstruction}
use Rattle.flat_code.specs.declared.instruction.FlatInstruction.TheVariants.{Constant, Move, Operate, Load}
use Rattle.flat_code.specs.declared.instruction.FlatInstruction.TheVariants.{Call}
use Rattle.flat_code.specs.declared.function.FlatProgram.{FlatProgram}
use Rattle.flat_code.specs.Calls.{function_in}
use Rattle.flat_code.specs.Meaning.{parameters_of, results_of}
use Rattle.flat_code.specs.declared.registers.Entry.{Entry}
use Rattle.flat_code.specs.Routines.Metadata.{entry_registers}
use Rattle.flat_operators.specs.Operators.{constant_code}
use Rattle.lib_wrappers.specs.AllocatingRoutines.Entering.{block_bytes, leave_code as leave_list}
use Rattle.runtime_functions.specs.Library.{held_from}
use Rattle.metadata_plan.specs.OperatorLists.Operators.{operators}
use Rattle.metadata_relation.specs.Registers.{home_register, home_entry, top_register, first_free}
use Rattle.metadata_relation.specs.Blocks.{move_entry_if, move_entry, home_code, number_code, number_operand}
use Rattle.metadata_relation.specs.Blocks.{place_home}
use Rattle.metadata_relation.specs.Blocks.{place_homes, enter_code, enter_statuses, enter_place, runtime_number}
use Rattle.metadata_relation.specs.Blocks.{write_top, top_cell, status_code}
use Rattle.image_laws.specs.Plans.Assignment.{Registers, IsOneOf}
use Rattle.image_laws.specs.Plans.Instructions.{numbers_from, entry_of, value_of, homes_from, entered_registers}
use Rattle.image_laws.proofs.Assignment.Flows.{Flows, LastIn, followed, and_then, wider, last_append}
use Rattle.image_laws.proofs.Assignment.Straight.{AllFrom, AreIn, are_in_more, straight, nothing}
use Rattle.image_laws.proofs.Assignment.Values.{Block, number_flows, constant_flows}
use Rattle.image_laws.proofs.Assignment.Pieces.{all_from, call_flows, some_behind}
use Rattle.image_laws.proofs.Assignment.Pieces.{then_more, two_from}
use Rattle.image_laws.proofs.Assignment.Accesses.{AreOwn}
use Rattle.image_laws.proofs.Assignment.Calls.{status_flows}

module _ (p : FlatProgram) (u : ℕ) (P : Registers) where
  -- ---- a pointer to a named object

  home_entry_flows : (G : Registers) → ((y : ℕ) → G y → P y) → (c : CodeFunction) (b : Bool) (d x : ℕ)
      → AreIn (entry_registers (home_entry c x)) G → AreIn (entry_of b d) P
      → Flows p u P G (move_entry_if b (held_from d).tag (home_entry c x)) 0 (entry_of b d)
  home_entry_flows G low c false d x home named = nothing p u P G low
  home_entry_flows G low c true d x (g1, (g2, (g3, (g4, _)))) (p1, (p2, (p3, (p4, _)))) =
      straight p u P 0 G (move_entry (held_from d).tag (home_entry c x))
      (g1, p1, tt, (inl g2, p2, tt, (inl (inl g3), p3, tt, (inl (inl (inl g4)), p4, tt, tt)))) low (entry_of true d)
      (inl (inl (inl (inr refl))), (inl (inl (inr refl)), (inl (inr refl), (inr refl, tt))))

  pub named_block : (G : Registers) → ((y : ℕ) → G y → P y) → (c : CodeFunction) (b : Bool) (d x : ℕ)
      → AreIn (entry_registers (home_entry c x)) G → AreIn (value_of b d) P
      → Block p u P G (home_code c b d x) 0 (value_of b d)
  named_block G low c b d x home named =
      let first = Move d (home_register c x) ∷ [] in
      let entry = move_entry_if b (held_from d).tag (home_entry c x) in
      record {
        flows = and_then p u P G first entry 0 (d ∷ []) (entry_of b d)
            (straight p u P 0 G first (home.0, named.0, tt, tt) low (d ∷ []) (inr refl, tt))
            (λ S keeps made low'. home_entry_flows S low' c b d x (are_in_more (entry_registers (home_entry c x)) G S keeps home) named.1);
        last = by b;
      }
    where
      by : (b : Bool)
          → LastIn p (λ y. G y ⊎ IsOneOf (value_of b d) y)
          (Move d (home_register c x) ∷ move_entry_if b (held_from d).tag (home_entry c x))
      by false = inl refl
      by true = inl refl

  -- ---- homes placed

  home_flows : (G : Registers) → ((y : ℕ) → G y → P y) → (e : Entry) (offset size first key lock s : ℕ) → G first
      → G key → G lock → P s → AreIn (entry_registers e) P
      → Flows p u P G (place_home operators e offset size first key lock s) 0 (entry_registers e)
  home_flows G low e offset size first key lock s gf gk gl ps (p1, (p2, (p3, (p4, _)))) =
      number_flows p u P G low offset s (s + 1) (λ z. base z ∷ rest) (entry_registers e) ps
      (λ S keeps low' z oz.
      and_then p u P S (base z ∷ []) rest 0 (e.base ∷ []) (e.bound ∷ e.key ∷ e.lock ∷ [])
      (straight p u P 0 S (base z ∷ []) ((keeps first gf, oz), p1, tt, tt) low' (e.base ∷ []) (inr refl, tt))
      (λ T keeps' made low''.
      number_flows p u P T low'' size s (s + 1) others (e.bound ∷ e.key ∷ e.lock ∷ []) ps
      (λ U keeps'' low3 w ow.
      let all = λ (y : ℕ) (g : G y). keeps'' y (keeps' y (keeps y g)) in
      straight p u P 0 U (others w) (
        (keeps'' e.base (made e.base (inl refl)), ow),
        p2,
        tt,
        (inl (all key gk), p3, tt, (inl (inl (all lock gl)), p4, tt, tt)),
      ) low3 (e.bound ∷ e.key ∷ e.lock ∷ [])
      (inl (inl (inr refl)), (inl (inr refl), (inr refl, tt))))))
    where
      base : RightOperand → FlatInstruction
      base z = Operate Add e.base first z

      others : RightOperand → List FlatInstruction
      others w = Operate Add e.bound e.base w ∷ Move e.key key ∷ Move e.lock lock ∷ []

      rest : List FlatInstruction
      rest = number_code operators size s (s + 1) ++ others (number_operand size s)

  pub homes_flows : (c : CodeFunction) → ((x : ℕ) → AreIn (entry_registers (home_entry c x)) P) → (vs : List Variable)
      (G : Registers) → ((y : ℕ) → G y → P y) → (x offset first key lock s : ℕ) → G first → G key → G lock → P s
      → Flows p u P G (place_homes operators c x vs offset first key lock s) 0 (homes_from c x vs)
  homes_flows c named [] G low x offset first key lock s gf gk gl ps = nothing p u P G low
  homes_flows c named (v ∷ vs) G low x offset first key lock s gf gk gl ps =
      by v.is_object (homes_flows c named vs G low (suc x) offset first key lock s gf gk gl ps)
      (λ S low' keeps.
      homes_flows c named vs S low' (suc x) end first key lock s (keeps first gf) (keeps key gk) (keeps lock gl) ps)
    where
      one : List FlatInstruction
      one = place_home operators (home_entry c x) (rounded_up 16 offset) (size_of_kind v.kind) first key lock s

      end : ℕ
      end = rounded_up 16 offset + size_of_kind v.kind

      by : (b : Bool) → Flows p u P G (place_homes operators c (suc x) vs offset first key lock s) 0 (homes_from c (suc x) vs)
          → ((S : Registers) → ((y : ℕ) → S y → P y) → ((y : ℕ) → G y → S y)
          → Flows p u P S (place_homes operators c (suc x) vs end first key lock s) 0 (homes_from c (suc x) vs))
          → Flows p u P G
          (if b
          then one ++ place_homes operators c (suc x) vs end first key lock s
          else place_homes operators c (suc x) vs offset first key lock s) 0
          (if b then entry_registers (home_entry c x) ++ homes_from c (suc x) vs else homes_from c (suc x) vs)
      by false same rest = same
      by true same rest =
          and_then p u P G one (place_homes operators c (suc x) vs end first key lock s) 0
          (entry_registers (home_entry c x)) (homes_from c (suc x) vs)
          (home_flows G low (home_entry c x) (rounded_up 16 offset) (size_of_kind v.kind) first key lock s gf gk gl ps
          (named x))
          (λ S keeps made low'. rest S low' keeps)

  -- ---- a block entered

  module _ (m : MapSizes) (t : Tac) (c : CodeFunction) (vs : List Variable) (line : ℕ) where
    abbrev s : ℕ
    s = first_free c

    abbrev top : ℕ
    top = top_register c vs

    abbrev begin : List FlatInstruction
    begin = Constant top (top_cell m) ∷ Load Ld top top 0 ∷ Move s top ∷ []

    abbrev bytes : List FlatInstruction
    bytes = constant_code (s + 1) (block_bytes vs)

    abbrev call : FlatInstruction
    call = Call (runtime_number t enter_place) s (s + 2)

    abbrev placed : List FlatInstruction
    placed = place_homes operators c 0 vs 0 (s + 3) (s + 5) (s + 6) (s + 7)

    abbrev written : List FlatInstruction
    written = write_top m (s + 4) (s + 7)

    abbrev rest : List FlatInstruction
    rest = status_code (s + 2) line enter_statuses ++ (placed ++ written)

    pub enter_last : (E : Registers) → LastIn p E (enter_code operators m t c vs line)
    enter_last E =
        last_append p E begin (bytes ++ (call ∷ rest)) (some_behind bytes (call ∷ rest) (omega arith))
        (last_append p E bytes (call ∷ rest) (omega arith)
        (last_append p E (call ∷ []) rest (omega arith)
        (last_append p E (status_code (s + 2) line enter_statuses) (placed ++ written)
        (some_behind placed written (omega arith)) (last_append p E placed written (omega arith) (inl refl)))))

    module _ (homes : (x : ℕ) → AreIn (entry_registers (home_entry c x)) P) (named : P (top_register c vs))
        (own : AreOwn P (first_free c) 16) where
      own_at : (j : ℕ) → j < 16 → P (s + j)
      own_at j lt = own (s + j) (omega arith) (omega (arith, lt))

      -- behind the call: its status, and what it gives
      made_homes : (S : Registers) → ((y : ℕ) → S y → P y) → AllFrom S (s + 2) 5
          → Flows p u P S rest 0 (homes_from c 0 vs)
      made_homes S low' given =
          let at = λ (j : ℕ) (lt : j < 5) (k : ℕ) (same : s + 2 + j ≡ s + k). subst S same (given j lt) in
          followed p u P S (status_code (s + 2) line enter_statuses) (placed ++ written) 0 [] (homes_from c 0 vs)
          (status_flows p u P S low' (s + 2) line enter_statuses tt (at 0 (omega arith) 2 (omega arith)))
          (λ T keeps made low''.
          then_more p u P T placed written (homes_from c 0 vs)
          (homes_flows c homes vs T low'' 0 0 (s + 3) (s + 5) (s + 6) (s + 7)
          (keeps (s + 3) (at 1 (omega arith) 3 (omega arith))) (keeps (s + 5) (at 3 (omega arith) 5 (omega arith)))
          (keeps (s + 6) (at 4 (omega arith) 6 (omega arith))) (own_at 7 (omega arith)))
          (λ U keeps' made' low3.
          straight p u P 0 U written (
            tt,
            own_at 7 (omega arith),
            tt,
            ((inr refl, inl (keeps' (s + 4) (keeps (s + 4) (at 2 (omega arith) 4 (omega arith))))), tt, tt, tt),
          ) low3 [] tt))

      pub entered_block : (G : Registers) → ((y : ℕ) → G y → P y)
          → parameters_of (function_in p (runtime_number t enter_place)) ≡ 2
          → results_of (function_in p (runtime_number t enter_place)) ≡ 5
          → Block p u P G (enter_code operators m t c vs line) 0 (entered_registers c vs)
      entered_block G low takes gives = record {
        flows = followed p u P G begin (bytes ++ (call ∷ rest)) 0 (top ∷ s ∷ []) (entered_registers c vs)
            (straight p u P 0 G begin
            (tt, named, tt, (inr refl, named, tt, (inr refl, own s (omega arith) (omega arith), tt, tt))) low
            (top ∷ s ∷ []) (inl (inr refl), (inr refl, tt)))
            (λ S keeps made low'.
            wider p u P S (bytes ++ (call ∷ rest)) 0 (homes_from c 0 vs) (entered_registers c vs)
            (asked S low' (made s (inr (inl refl))))
            (λ y m. ⊎_elim (λ e. inl (made y (inl e))) inr m));
        last = enter_last (λ y. G y ⊎ IsOneOf (entered_registers c vs) y);
      }
        where
          asked : (S : Registers) → ((y : ℕ) → S y → P y) → S s
              → Flows p u P S (bytes ++ (call ∷ rest)) 0 (homes_from c 0 vs)
          asked S low' ss =
              followed p u P S bytes (call ∷ rest) 0 ((s + 1) ∷ []) (homes_from c 0 vs)
              (constant_flows p u P S low' (s + 1) (block_bytes vs) (own_at 1 (omega arith)))
              (λ T keeps made low''.
              followed p u P T (call ∷ []) rest 0 (numbers_from (s + 2) 5) (homes_from c 0 vs)
              (call_flows p u P T low'' (runtime_number t enter_place) s (s + 2) 2 5 takes gives
              (two_from T s (keeps s ss) (made (s + 1) (inl refl)))
              (λ j lt. own (s + 2 + j) (omega arith) (omega (arith, lt))))
              (λ U keeps' made' low3. made_homes U low3 (all_from U (s + 2) 5 made')))

  -- ---- a block left

  pub left_flows : (G : Registers) → ((y : ℕ) → G y → P y) → (m : MapSizes) (lock top s : ℕ) → G lock → G top
      → AreOwn P s 16 → Flows p u P G (leave_list m lock s ++ write_top m top s) 0 []
  left_flows G low m lock top s gl gt own =
      let ps = own s (omega arith) (omega arith) in
      let pu = own (s + 1) (omega arith) (omega arith) in
      let pz = own (s + 2) (omega arith) (omega arith) in
      followed p u P G (leave_list m lock s) (write_top m top s) 0 [] []
      (straight p u P 0 G (leave_list m lock s) (
        tt,
        pu,
        tt,
        (
          (inl gl, inr refl),
          tt,
          tt,
          (
            tt,
            ps,
            tt,
            (
              inr refl,
              pu,
              tt,
              (
                (inr refl, tt),
                pz,
                tt,
                (
                  (inl (inl (inr refl)), inr refl),
                  tt,
                  tt,
                  (
                    (inl (inr refl), tt),
                    pu,
                    tt,
                    (
                      (inl (inl (inl (inr refl))), inr refl),
                      ps,
                      tt,
                      (
                        (inl (inr refl), tt),
                        pu,
                        tt,
                        (
                          (inl (inl (inl (inl (inl (inl (inl gl)))))), inr refl),
                          pu,
                          tt,
                          ((inl (inl (inr refl)), inr refl), tt, tt, tt),
                        ),
                      ),
                    ),
                  ),
                ),
              ),
            ),
          ),
        ),
      ) low [] tt)
      (λ S keeps made low'.
      straight p u P 0 S (write_top m top s) (tt, ps, tt, ((inr refl, inl (keeps top gt)), tt, tt, tt)) low' [] tt)
