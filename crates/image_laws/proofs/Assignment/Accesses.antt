-- Scalars loaded and stored, and the blocks that read and write through pointers.
use Rattle.std.proofs.Common.{◌⊎◌, inl, inr, ⊎_elim, ℕ, ◌+◌, ◌<◌, ◌≤◌, refl, sym, subst, arith}
use Rattle.std.proofs.Common.{Bool, true, false, List, [], ◌∷◌, ◌++◌, length}
use Rattle.rv_isa.specs.declared.instruction.BranchOp.TheVariants.{Beq, Bne}
use Rattle.rv_isa.specs.declared.instruction.RegOp.TheVariants.{Sll}
use Rattle.rv_isa.specs.declared.instruction.LoadOp.TheVariants.{Ld}
use Rattle.rv_isa.specs.declared.instruction.StoreOp.TheVariants.{Sd}
use Rattle.addr_map.specs.Places.{MapSizes}
use Rattle.obj_memory.specs.declared.int_type.IntType.TheVariants.{UnsignedLong}
use Rattle.obj_memory.specs.declared.value.Scalar.{Scalar}
use Rattle.obj_memory.specs.declared.value.Scalar.TheVariants.{Integer, Pointer}
use Rattle.flat_code.specs.declared.instruction.RightOperand.TheVariants.{Number}
use Rattle.flat_code.specs.declared.instruction.FlatInstruction.{FlatInstruction}
use Rattle.flat_code.specs.declared.instruction.FlatInstruction.TheVariants.{Load, Store, Operate, Branch, Move}
use Rattle.flat_code.specs.declared.instruction.FlatInstruction.TheVariants.{JumpForward}
use Rattle.flat_code.specs.declared.function.FlatProgram.{FlatProgram}
use Rattle.flat_code.specs.declared.registers.Entry.{Entry}
use Rattle.flat_code.specs.Routines.Routine.{unless_code}
use Rattle.flat_code.specs.Routines.Metadata.{entry_registers, held_registers}
use Rattle.shadow_space.specs.Form.{EntryCode}
use Rattle.lib_wrappers.specs.declared.accesses.held.HeldScalar.{HeldScalar}
use Rattle.lib_wrappers.specs.declared.accesses.held.HeldScalar.TheVariants.{Integer as HeldInteger}
use Rattle.lib_wrappers.specs.declared.accesses.held.HeldScalar.TheVariants.{Pointer as HeldPointer}
use Rattle.lib_wrappers.specs.AccessRoutines.Accessing.{load_code, store_code, load_op, store_op, no_entry, word_code}
use Rattle.runtime_functions.specs.Library.{held_from}
use Rattle.metadata_relation.specs.Blocks.{untagged, move_value, load_code as block_load, write_code}
use Rattle.metadata_relation.specs.InlineCode.{InlineCode}
use Rattle.metadata_relation.specs.InlineLists.{inline_lists}
use Rattle.image_laws.specs.Plans.Assignment.{Registers, IsOneOf}
use Rattle.image_laws.specs.Plans.EntryLists.{IsNamed, AssignEntries}
use Rattle.image_laws.specs.Plans.Instructions.{value_of}
use Rattle.image_laws.proofs.Plans.Flow.{one_is}
use Rattle.image_laws.proofs.Assignment.Flows.{Flows, LastIn, followed, wider, last_append, last_both}
use Rattle.image_laws.proofs.Assignment.Straight.{AreIn, are_in_more, one_in, straight}
use Rattle.image_laws.proofs.Assignment.Choices.{flows_of, unless, either}
use Rattle.image_laws.proofs.Assignment.Values.{Block, integer, moved_block, word_block}
use Rattle.image_laws.proofs.Assignment.Pieces.{made_last, ends_in, names_more, less_value}

-- so many registers from one on may be named
abbrev pub AreOwn : Registers → (first count : ℕ) → Type 0
AreOwn P t n = (y : ℕ) → t ≤ y → y < t + n → P y

pub fewer_own : (P : Registers) (t n s k : ℕ) → t ≤ s → s + k ≤ t + n → AreOwn P t n → AreOwn P s k
fewer_own P t n s k low high own y le lt = own y (omega (arith, low, le)) (omega (arith, high, lt))

abbrev pub scalar_registers : HeldScalar → List ℕ
scalar_registers (HeldInteger t r) = r ∷ []
scalar_registers (HeldPointer h) = held_registers h

abbrev pub is_pointer : Scalar → Bool
is_pointer (Integer t) = false
is_pointer Pointer = true

module _ (p : FlatProgram) (u : ℕ) (P : Registers) (read write : EntryCode) (entries : AssignEntries read write)
    (map : MapSizes) where
  named_by : (a : ℕ) (e : Entry) (t y : ℕ) → P a → AreIn (entry_registers e) P → AreOwn P t 5 → IsNamed a e t y → P y
  named_by a e t y pa pe own n =
      ⊎_elim (⊎_elim (λ s. subst P (sym s) pa) (one_in (entry_registers e) P y pe)) (λ b. own y b.0 b.1) n.is

  -- ---- entries

  read_flows : (G : Registers) → ((y : ℕ) → G y → P y) → (a : ℕ) (e : Entry) (t : ℕ) → G a
      → AreIn (entry_registers e) P → AreOwn P t 5 → Flows p u P G (read map a e t) 0 (entry_registers e)
  read_flows G low a e t ga named own =
      let k = entries.reads p u map a e t in
      flows_of p u P G (IsOneOf (a ∷ [])) (read map a e t) (entry_registers e) k.0
      (names_more p u (read map a e t) (IsNamed a e t) P (λ y n. named_by a e t y (low a ga) named own n) k.1)
      (λ y h. one_in (a ∷ []) G y (ga, tt) h) low (λ y m. one_in (entry_registers e) P y named m)

  write_flows : (G : Registers) → ((y : ℕ) → G y → P y) → (a : ℕ) (e : Entry) (t : ℕ) → G a
      → AreIn (entry_registers e) G → AreOwn P t 5 → Flows p u P G (write map a e t) 0 []
  write_flows G low a e t ga given own =
      let k = entries.writes p u map a e t in
      flows_of p u P G (IsOneOf (a ∷ entry_registers e)) (write map a e t) [] k.0
      (names_more p u (write map a e t) (IsNamed a e t) P
      (λ y n. named_by a e t y (low a ga) (are_in_more (entry_registers e) G P low given) own n) k.1)
      (λ y h. one_in (a ∷ entry_registers e) G y (ga, given) h) low (λ y m. absurd m)

  -- ---- scalars

  pub load_flows : (G : Registers) → ((y : ℕ) → G y → P y) → (a : ℕ) (into : HeldScalar) (t : ℕ) → G a
      → AreIn (scalar_registers into) P → AreOwn P t 5
      → Flows p u P G (load_code read map a into t) 0 (scalar_registers into)
  load_flows G low a (HeldInteger ty r) t ga named own =
      straight p u P 0 G (Load (load_op ty) r a 0 ∷ []) (ga, named.0, tt, tt) low (r ∷ []) (inr refl, tt)
  load_flows G low a (HeldPointer h) t ga named own =
      followed p u P G first rest 0 (h.value ∷ t ∷ []) (held_registers h)
      (straight p u P 0 G first (ga, named.0, tt, ((inl ga, tt), own t (omega arith) (omega arith), tt, tt)) low
      (h.value ∷ t ∷ []) (inl (inr refl), (inr refl, tt)))
      (λ S keeps made low'.
      wider p u P S rest 0 (entry_registers h.tag) (held_registers h)
      (either p u P S Beq t (Number 0) (entry_registers h.tag) (no_entry h.tag) (read map a h.tag t)
      (none_made S low' named.1) (read_flows S low' a h.tag t (keeps a ga) named.1 own)
      (ends_in p (λ y. S y ⊎ IsOneOf (entry_registers h.tag) y) (read map a h.tag t) (entry_registers h.tag)
      (entries.reads p u map a h.tag t).2 (λ y m. inr m))
      (made t (inr (inl refl))) tt low')
      (λ y m. ⊎_elim (λ e. inl (made y (inl e))) inr m))
    where
      first : List FlatInstruction
      first = Load Ld h.value a 0 ∷ Operate Sll t a (Number 61) ∷ []

      rest : List FlatInstruction
      rest = Branch Beq t (Number 0) 5 ∷ (no_entry h.tag ++ (JumpForward (length (read map a h.tag t)) ∷ read map a h.tag t))

      none_made : (S : Registers) → ((y : ℕ) → S y → P y) → AreIn (entry_registers h.tag) P
          → Flows p u P S (no_entry h.tag) 0 (entry_registers h.tag)
      none_made S low' (p1, (p2, (p3, (p4, _)))) =
          straight p u P 0 S (no_entry h.tag) (tt, p1, tt, (tt, p2, tt, (tt, p3, tt, (tt, p4, tt, tt)))) low'
          (entry_registers h.tag)
          (inl (inl (inl (inr refl))), (inl (inl (inr refl)), (inl (inr refl), (inr refl, tt))))

  pub load_last : (E : Registers) (a : ℕ) (into : HeldScalar) (t : ℕ) → AreIn (scalar_registers into) E
      → LastIn p E (load_code read map a into t)
  load_last E a (HeldInteger ty r) t has = inr (λ y m. subst E (sym (one_is r y m)) has.0)
  load_last E a (HeldPointer h) t has =
      last_both p E (word_code a h t (length (read map a h.tag t))) (read map a h.tag t) (inl refl)
      (made_last p E (read map a h.tag t) (entry_registers h.tag) (entries.reads p u map a h.tag t).2
      (λ y m. one_in (entry_registers h.tag) E y has.1 m))

  pub store_flows : (G : Registers) → ((y : ℕ) → G y → P y) → (a : ℕ) (from : HeldScalar) (t : ℕ) → G a
      → AreIn (scalar_registers from) G → AreOwn P t 5 → Flows p u P G (store_code write map a from t) 0 []
  store_flows G low a (HeldInteger ty r) t ga given own =
      straight p u P 0 G (Store (store_op ty) a 0 r ∷ []) ((ga, given.0), tt, tt, tt) low [] tt
  store_flows G low a (HeldPointer h) t ga given own =
      let w = write map a h.tag t in
      followed p u P G (Store Sd a 0 h.value ∷ Operate Sll t a (Number 61) ∷ []) (unless_code Bne t (Number 0) w) 0
      (t ∷ []) []
      (straight p u P 0 G (Store Sd a 0 h.value ∷ Operate Sll t a (Number 61) ∷ [])
      ((ga, given.0), tt, tt, ((ga, tt), own t (omega arith) (omega arith), tt, tt)) low (t ∷ []) (inr refl, tt))
      (λ S keeps made low'.
      unless p u P S Bne t (Number 0) w
      (write_flows S low' a h.tag t (keeps a ga) (are_in_more (entry_registers h.tag) G S keeps given.1) own)
      (ends_in p S w [] (entries.writes p u map a h.tag t).2 (λ y m. absurd m))
      (made t (inl refl)) tt low')

  pub store_last : (E : Registers) (a : ℕ) (from : HeldScalar) (t : ℕ) → LastIn p E (store_code write map a from t)
  store_last E a (HeldInteger ty r) t = inl refl
  store_last E a (HeldPointer h) t =
      let w = write map a h.tag t in
      last_both p E (Store Sd a 0 h.value ∷ Operate Sll t a (Number 61) ∷ Branch Bne t (Number 0) (length w) ∷ []) w
      (inl refl) (made_last p E w [] (entries.writes p u map a h.tag t).2 (λ y m. absurd m))

  -- ---- blocks

  abbrev lists : InlineCode
  lists = inline_lists read write map

  module _ (G : Registers) (low : (y : ℕ) → G y → P y) (b : Bool) (d a s : ℕ) (ga : G a)
      (named : AreIn (value_of b d) P) (own : AreOwn P s 16) where
    abbrev E : Registers
    E y = G y ⊎ IsOneOf (value_of b d) y

    pub loaded_block : (k : Scalar) → Block p u P G (block_load lists k b d a s) 0 (value_of b d)
    loaded_block k = by k b named
      where
        by : (k : Scalar) (b : Bool) → AreIn (value_of b d) P
            → Block p u P G (block_load lists k b d a s) 0 (value_of b d)
        by (Integer t) b named =
            integer p u P G (load_code read map a (HeldInteger t d) s) b d named.1
            (load_flows G low a (HeldInteger t d) s ga (named.0, tt)
            (fewer_own P s 16 s 5 (omega arith) (omega arith) own))
            (load_last (λ y. G y ⊎ IsOneOf (value_of b d) y) a (HeldInteger t d) s (inr (inl refl), tt))
        by Pointer false named = record {
          flows = load_flows G low a (HeldInteger UnsignedLong d) s ga (named.0, tt)
              (fewer_own P s 16 s 5 (omega arith) (omega arith) own);
          last = load_last (λ y. G y ⊎ IsOneOf (value_of false d) y) a (HeldInteger UnsignedLong d) s
              (inr (inl refl), tt);
        }
        by Pointer true named =
            let code = load_code read map s (HeldPointer (held_from d)) (s + 1) in
            record {
              flows = followed p u P G (Move s a ∷ []) code 0 (s ∷ []) (value_of true d)
                  (straight p u P 0 G (Move s a ∷ []) (ga, own s (omega arith) (omega arith), tt, tt) low (s ∷ [])
                  (inr refl, tt))
                  (λ S keeps made low'.
                  load_flows S low' s (HeldPointer (held_from d)) (s + 1) (made s (inl refl)) named
                  (fewer_own P s 16 (s + 1) 5 (omega arith) (omega arith) own));
              last = last_both p (λ y. G y ⊎ IsOneOf (value_of true d) y) (Move s a ∷ []) code (inl refl)
                  (load_last (λ y. G y ⊎ IsOneOf (value_of true d) y) s (HeldPointer (held_from d)) (s + 1) (
                    inr (inl refl),
                    (
                      inr (inr (inl refl)),
                      (
                        inr (inr (inr (inl refl))),
                        (inr (inr (inr (inr (inl refl)))), (inr (inr (inr (inr (inr (inl refl))))), tt)),
                      ),
                    ),
                  ));
            }

  pub written_block : (G : Registers) → ((y : ℕ) → G y → P y) → (k : Scalar) (b : Bool) (d a v s : ℕ) → G a
      → AreIn (value_of b d) P → AreOwn P s 16 → AreIn (value_of (is_pointer k) v) G
      → Block p u P G (write_code lists k b d a v s) 0 (value_of b d)
  written_block G low (Integer t) b d a v s ga named own given =
      let st = store_code write map a (HeldInteger t v) s in
      record {
        flows = followed p u P G st (Move d v ∷ untagged b d) 0 [] (value_of b d)
            (store_flows G low a (HeldInteger t v) s ga given (fewer_own P s 16 s 5 (omega arith) (omega arith) own))
            (λ S keeps made low'. (word_block p u P S low' b d v (keeps v given.0) named).flows);
        last = last_append p (λ y. G y ⊎ IsOneOf (value_of b d) y) st (Move d v ∷ untagged b d) (omega arith)
            (word_block p u P G low b d v given.0 named).last;
      }
  written_block G low Pointer b d a v s ga named own given =
      let st = store_code write map a (HeldPointer (held_from v)) s in
      let moved = λ (S : Registers) (k : (y : ℕ) → G y → S y) (l : (y : ℕ) → S y → P y).
      moved_block p u P S l b d v (are_in_more (value_of b v) G S k (less_value G b v given)) named in
      record {
        flows = followed p u P G st (move_value b d v) 0 [] (value_of b d)
            (store_flows G low a (HeldPointer (held_from v)) s ga given
            (fewer_own P s 16 s 5 (omega arith) (omega arith) own))
            (λ S keeps made low'. (moved S keeps low').flows);
        last = last_both p (λ y. G y ⊎ IsOneOf (value_of b d) y) st (move_value b d v)
            (store_last (λ y. G y ⊎ IsOneOf (value_of b d) y) a (HeldPointer (held_from v)) s)
            (moved G (λ y g. g) low).last;
      }
