-- The blocks of scalars that are read: loaded from a place, or out of contents, a part of which the registers of a
-- temporary hold.
use Rattle.std.proofs.Common.{◌≡◌, ◌⊎◌, inl, inr, ℕ, ◌+◌, refl, arith, Bool, true, false, List, [], ◌∷◌, ◌++◌}
use Rattle.std.proofs.Common.{length}
use Rattle.rv_isa.specs.declared.instruction.BranchOp.TheVariants.{Bne}
use Rattle.rv_isa.specs.declared.instruction.LoadOp.TheVariants.{Ld}
use Rattle.rv_isa.specs.declared.instruction.RegOp.TheVariants.{Add, Sub, Sll, Sltu, Srl, Mul}
use Rattle.addr_map.specs.Places.{MapSizes}
use Rattle.obj_memory.specs.declared.int_type.IntType.{IntType}
use Rattle.obj_memory.specs.declared.int_type.IntType.TheVariants.{UnsignedLong}
use Rattle.obj_memory.specs.declared.value.Scalar.{Scalar}
use Rattle.obj_memory.specs.declared.value.Scalar.TheVariants.{Integer, Pointer}
use Rattle.c_tree.specs.declared.expression.Kind.TheVariants.{Scalar as OfScalar}
use Rattle.flat_code.specs.declared.instruction.RightOperand.TheVariants.{Number, Register}
use Rattle.flat_code.specs.declared.instruction.FlatInstruction.{FlatInstruction}
use Rattle.flat_code.specs.declared.instruction.FlatInstruction.TheVariants.{Branch, JumpForward, Load, Operate}
use Rattle.flat_code.specs.declared.function.FlatProgram.{FlatProgram}
use Rattle.flat_code.specs.Routines.Metadata.{entry_registers}
use Rattle.flat_actions.specs.Lists.{give_code}
use Rattle.shadow_space.specs.Form.{EntryCode}
use Rattle.lib_wrappers.specs.AccessRoutines.Accessing.{load_integer_code, no_entry}
use Rattle.lib_wrappers.specs.AreaRoutines.Reading.{read_pointer_code, word_held}
use Rattle.runtime_functions.specs.Library.{held_from}
use Rattle.metadata_relation.specs.Blocks.{load_code, read_code}
use Rattle.metadata_relation.specs.InlineLists.{inline_lists}
use Rattle.metadata_relation.specs.Structures.{scalar_part_code}
use Rattle.image_laws.specs.Plans.Assignment.{Registers, IsOneOf}
use Rattle.image_laws.specs.Plans.EntryLists.{AssignEntries}
use Rattle.image_laws.specs.Plans.Instructions.{entry_of, value_of}
use Rattle.image_laws.proofs.Assignment.Flows.{Flows, followed, and_then, last_append, last_both, last_ends}
use Rattle.image_laws.proofs.Assignment.Straight.{AreIn, straight}
use Rattle.image_laws.proofs.Assignment.Choices.{either}
use Rattle.image_laws.proofs.Assignment.Values.{Block, untagged_flows}
use Rattle.image_laws.proofs.Assignment.Accesses.{AreOwn, fewer_own, loaded_block}
use Rattle.image_laws.proofs.Assignment.Temporaries.{all_one_of}

-- a word of contents, where its entry lies, and whether a word begins there
abbrev word_place : (part scratch : ℕ) → List FlatInstruction
word_place a t =
    Load Ld t a 0
    ∷ Operate Sub (t + 1) a (Register (a + 1))
    ∷ Operate Sll (t + 2) (t + 1) (Number 61)
    ∷ Operate Sltu (t + 2) (t + 2) (Number 1)
    ∷ Operate Srl (t + 1) (t + 1) (Number 3)
    ∷ Operate Sll (t + 1) (t + 1) (Number 5)
    ∷ Operate Add (t + 1) (t + 1) (Register (a + 2))
    ∷ []

-- the entry that lies there
abbrev entry_loads : (scratch : ℕ) → List FlatInstruction
entry_loads t =
    Load Ld (t + 3) (t + 1) 0
    ∷ Load Ld (t + 4) (t + 1) 8
    ∷ Load Ld (t + 5) (t + 1) 16
    ∷ Load Ld (t + 6) (t + 1) 24
    ∷ []

-- which is none where no word begins
abbrev entry_masks : (scratch : ℕ) → List FlatInstruction
entry_masks t =
    Operate Mul (t + 3) (t + 3) (Register (t + 2))
    ∷ Operate Mul (t + 4) (t + 4) (Register (t + 2))
    ∷ Operate Mul (t + 5) (t + 5) (Register (t + 2))
    ∷ Operate Mul (t + 6) (t + 6) (Register (t + 2))
    ∷ []

-- the registers of the entry behind a word
abbrev word_entry : (scratch : ℕ) → List ℕ
word_entry t = entry_registers (word_held t).tag

module _ (p : FlatProgram) (u : ℕ) (P : Registers) where
  -- ---- a pointer in contents

  module _ (G : Registers) (low : (y : ℕ) → G y → P y) (t : ℕ) (own : AreOwn P t 7) where
    place_flows : (a : ℕ) → AreIn (value_of true a) G
        → Flows p u P G (word_place a t) 0 (t ∷ (t + 1) ∷ (t + 2) ∷ [])
    place_flows a (g0, (g1, (g2, _))) =
        let p0 = own t (omega arith) (omega arith) in
        let p1 = own (t + 1) (omega arith) (omega arith) in
        let p2 = own (t + 2) (omega arith) (omega arith) in
        straight p u P 0 G (word_place a t) (
          g0,
          p0,
          tt,
          (
            (inl g0, inl g1),
            p1,
            tt,
            (
              (inr refl, tt),
              p2,
              tt,
              (
                (inr refl, tt),
                p2,
                tt,
                (
                  (inl (inl (inr refl)), tt),
                  p1,
                  tt,
                  (
                    (inr refl, tt),
                    p1,
                    tt,
                    ((inr refl, inl (inl (inl (inl (inl (inl g2)))))), p1, tt, tt),
                  ),
                ),
              ),
            ),
          ),
        ) low (t ∷ (t + 1) ∷ (t + 2) ∷ [])
        (inl (inl (inl (inl (inl (inl (inr refl)))))), (inr refl, (inl (inl (inl (inr refl))), tt)))

    loads_flows : G (t + 1) → Flows p u P G (entry_loads t) 0 (word_entry t)
    loads_flows g =
        straight p u P 0 G (entry_loads t) (
          g,
          own (t + 3) (omega arith) (omega arith),
          tt,
          (
            inl g,
            own (t + 4) (omega arith) (omega arith),
            tt,
            (
              inl (inl g),
              own (t + 5) (omega arith) (omega arith),
              tt,
              (inl (inl (inl g)), own (t + 6) (omega arith) (omega arith), tt, tt),
            ),
          ),
        ) low (word_entry t)
        (inl (inl (inl (inr refl))), (inl (inl (inr refl)), (inl (inr refl), (inr refl, tt))))

    masks_flows : G (t + 2) → AreIn (word_entry t) G → Flows p u P G (entry_masks t) 0 (word_entry t)
    masks_flows g (g3, (g4, (g5, (g6, _)))) =
        straight p u P 0 G (entry_masks t) (
          (g3, g),
          own (t + 3) (omega arith) (omega arith),
          tt,
          (
            (inl g4, inl g),
            own (t + 4) (omega arith) (omega arith),
            tt,
            (
              (inl (inl g5), inl (inl g)),
              own (t + 5) (omega arith) (omega arith),
              tt,
              (
                (inl (inl (inl g6)), inl (inl (inl g))),
                own (t + 6) (omega arith) (omega arith),
                tt,
                tt,
              ),
            ),
          ),
        ) low (word_entry t)
        (inl (inl (inl (inr refl))), (inl (inl (inr refl)), (inl (inr refl), (inr refl, tt))))

    given_flows : (d : ℕ) → G t → AreIn (word_entry t) G → AreIn (value_of true d) P
        → Flows p u P G (give_code (word_held t) (held_from d)) 0 (value_of true d)
    given_flows d g (g3, (g4, (g5, (g6, _)))) (p0, (p1, (p2, (p3, (p4, _))))) =
        straight p u P 0 G (give_code (word_held t) (held_from d)) (
          g,
          p0,
          tt,
          (
            inl g3,
            p1,
            tt,
            (
              inl (inl g4),
              p2,
              tt,
              (
                inl (inl (inl g5)),
                p3,
                tt,
                (inl (inl (inl (inl g6))), p4, tt, tt),
              ),
            ),
          ),
        ) low (value_of true d) (
          inl (inl (inl (inl (inr refl)))),
          (
            inl (inl (inl (inr refl))),
            (
              inl (inl (inr refl)),
              (
                inl (inr refl),
                (inr refl, tt),
              ),
            ),
          ),
        )

  pointer_flows : (G : Registers) → ((y : ℕ) → G y → P y) → (d a t : ℕ) → AreIn (value_of true a) G
      → AreIn (value_of true d) P → AreOwn P t 7
      → Flows p u P G (read_pointer_code (held_from a) (held_from d) t) 0 (value_of true d)
  pointer_flows G low d a t given named own =
      let give = give_code (word_held t) (held_from d) in
      followed p u P G (word_place a t) (entry_loads t ++ (entry_masks t ++ give)) 0 (t ∷ (t + 1) ∷ (t + 2) ∷ [])
      (value_of true d) (place_flows G low t own a given)
      (λ S keeps made low'.
      followed p u P S (entry_loads t) (entry_masks t ++ give) 0 (word_entry t) (value_of true d)
      (loads_flows S low' t own (made (t + 1) (inr (inl refl))))
      (λ T keeps' made' low''.
      followed p u P T (entry_masks t) give 0 (word_entry t) (value_of true d)
      (masks_flows T low'' t own (keeps' (t + 2) (made (t + 2) (inr (inr (inl refl)))))
      (all_one_of (word_entry t) T made'))
      (λ U keeps3 made3 low3.
      given_flows U low3 t own d (keeps3 t (keeps' t (made t (inl refl)))) (all_one_of (word_entry t) U made3) named)))

  -- ---- a scalar in contents

  integer_flows : (G : Registers) → ((y : ℕ) → G y → P y) → (ty : IntType) (d a : ℕ) → G a → P d
      → Flows p u P G (load_integer_code a ty d) 0 (d ∷ [])
  integer_flows G low ty d a given named =
      straight p u P 0 G (load_integer_code a ty d) (given, named, tt, tt) low (d ∷ []) (inr refl, tt)

  part_flows : (G : Registers) → ((y : ℕ) → G y → P y) → (k : Scalar) (b : Bool) (d a s : ℕ)
      → AreIn (value_of true a) G → AreIn (value_of b d) P → AreOwn P s 7
      → Flows p u P G (scalar_part_code k b d a s) 0 (value_of b d)
  part_flows G low (Integer ty) false d a s given named own = integer_flows G low ty d a given.0 named.0
  part_flows G low (Integer ty) true d a s given named own =
      and_then p u P G (load_integer_code a ty d) (no_entry (held_from d).tag) 0 (d ∷ []) (entry_of true d)
      (integer_flows G low ty d a given.0 named.0)
      (λ S keeps made low'. untagged_flows p u P S low' true d named.1)
  part_flows G low Pointer false d a s given named own = integer_flows G low UnsignedLong d a given.0 named.0
  part_flows G low Pointer true d a s given named own = pointer_flows G low d a s given named own

  -- ---- blocks

  -- Of a place the address is read alone. What may be a part is read from all five registers of its temporary, and its
  -- lock word tells it from a place.
  module _ (read write : EntryCode) (entries : AssignEntries read write) (map : MapSizes) (G : Registers)
      (low : (y : ℕ) → G y → P y) (b : Bool) (d a s : ℕ) (ga : G a) (named : AreIn (value_of b d) P)
      (own : AreOwn P s 16) (k : Scalar) where
    pub read_block : (q : Bool) → (q ≡ true → AreIn (value_of true a) G)
        → Block p u P G (read_code (inline_lists read write map) q (OfScalar k) b d a s) 0 (value_of b d)
    read_block false held = loaded_block p u P read write entries map G low b d a s ga named own k
    read_block true held =
        let E = λ (y : ℕ). G y ⊎ IsOneOf (value_of b d) y in
        let given = held refl in
        let part = scalar_part_code k b d a s in
        let place = load_code (inline_lists read write map) k b d a s in
        let loaded = loaded_block p u P read write entries map G low b d a s ga named own k in
        record {
          flows = either p u P G Bne (a + 4) (Number 0) (value_of b d) part place
              (part_flows G low k b d a s given named (fewer_own P s 16 s 7 (omega arith) (omega arith) own))
              loaded.flows (last_ends p E place loaded.last) given.1.1.1.1.0 tt low;
          last = last_append p E (Branch Bne (a + 4) (Number 0) (length part + 1) ∷ part)
              (JumpForward (length place) ∷ place) (omega arith)
              (last_both p E (JumpForward (length place) ∷ []) place (inl refl) loaded.last);
        }
