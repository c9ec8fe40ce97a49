-- The instructions of loads and stores, over whatever registers.
use Rattle.std.proofs.Common.{ℕ, ◌+◌, ◌<◌, [], ◌∷◌, ◌++◌, refl, arith, List, length}
use Rattle.std.proofs.lemmas.Bool.{lt-ltb}
use Rattle.addr_map.specs.Places.{MapSizes, AreMapped}
use Rattle.rv_isa.specs.declared.instruction.BranchOp.TheVariants.{Bne}
use Rattle.rv_isa.specs.declared.instruction.RegOp.TheVariants.{Sll}
use Rattle.rv_isa.specs.declared.instruction.StoreOp.TheVariants.{Sd}
use Rattle.flat_code.specs.declared.instruction.RightOperand.TheVariants.{Number}
use Rattle.flat_code.specs.declared.instruction.FlatInstruction.TheVariants.{Operate, Store}
use Rattle.flat_code.specs.Memory.{Bytes}
use Rattle.flat_code.specs.Routines.Registers.{AreBelow}
use Rattle.flat_code.specs.Routines.Routine.{unless_code}
use Rattle.flat_code.specs.Routines.Metadata.{View, held_registers}
use Rattle.flat_code.specs.Routines.InputOutput.{IsWithoutInputOutput}
use Rattle.flat_code.specs.Routines.Shape.{HasShape}
use Rattle.flat_code.proofs.Routines.Distinct.{below_more}
use Rattle.flat_code.proofs.Routines.InputOutput.{computes}
use Rattle.flat_code.proofs.Routines.Shape.{shaped, both, piece, below_both, shaped_append, shaped_unless}
use Rattle.flat_code.proofs.Routines.Words.{IsLocal}
use Rattle.shadow_space.specs.Form.{EntryCode, ReadsEntries, WritesEntries, HasEntryShape}
use Rattle.flat_actions.specs.Actions.{registers_of, program_basis}
use Rattle.flat_actions.proofs.Shapes.{pointer_from}
use Rattle.lib_wrappers.specs.declared.accesses.held.HeldScalar.{HeldScalar}
use Rattle.lib_wrappers.specs.declared.accesses.held.HeldScalar.TheVariants.{Integer, Pointer}
use Rattle.lib_wrappers.specs.AccessRoutines.Holding.{holder_in, IsApartFrom}
use Rattle.lib_wrappers.specs.AccessRoutines.Accessing.{IsLoadRoutine, load_integer_code, word_code, load_pointer_code}
use Rattle.lib_wrappers.specs.AccessRoutines.Accessing.{load_code, load_length}
use Rattle.lib_wrappers.specs.AccessRoutines.Accessing.{IsStoreRoutine, store_integer_code, store_pointer_code}
use Rattle.lib_wrappers.specs.AccessRoutines.Accessing.{store_code, store_length}
use Rattle.lib_wrappers.proofs.AccessRoutines.Integers.{load_integer_does}
use Rattle.lib_wrappers.proofs.AccessRoutines.Pointers.{load_pointer_does}
use Rattle.lib_wrappers.proofs.AccessRoutines.IntegerStores.{store_integer_does}
use Rattle.lib_wrappers.proofs.AccessRoutines.PointerStores.{store_pointer_does}

-- ---- what they do

module _ (map : MapSizes) (mapped : AreMapped map) (entry : View) (IsGood : MapSizes → Bytes → Type 0) (code : EntryCode)
  where
    pub load_does : ReadsEntries entry IsGood code → (address : ℕ) (into : HeldScalar) (t : ℕ)
        → AreBelow t (address ∷ registers_of (holder_in into)) → IsApartFrom address into
        → IsLoadRoutine (program_basis map entry (IsGood map)) address into t (load_code code map address into t)
    load_does reads address (Integer ty r) t below apart =
        load_integer_does map entry (IsGood map) address ty r t mapped
    load_does reads address (Pointer h) t below apart =
        load_pointer_does map entry (IsGood map) address h t (code map address h.tag t) mapped apart below
        (reads map address h.tag t mapped (apart.0.1, apart.1.1) (below.0, below.1.1))

    pub store_does : IsLocal map entry (IsGood map) → WritesEntries entry IsGood code → (address : ℕ)
        (from : HeldScalar) (t : ℕ) → AreBelow t (address ∷ registers_of (holder_in from))
        → IsStoreRoutine (program_basis map entry (IsGood map)) address from t (store_code code map address from t)
    store_does local writes address (Integer ty r) t below =
        store_integer_does map entry (IsGood map) address ty r t mapped local
    store_does local writes address (Pointer h) t below =
        store_pointer_does map entry (IsGood map) address h t (code map address h.tag t) mapped local below
        (writes map address h.tag t mapped (below.0, below.1.1))

-- ---- what they are made of

-- the registers of a list and one more
with_one : (t m : ℕ) (xs : List ℕ) → t < m → AreBelow t xs → AreBelow m (xs ++ t ∷ [])
with_one t m xs l below = below_both m xs (t ∷ []) (below_more t m xs (omega (arith, l)) below) (l, tt)

module _ (map : MapSizes) (mapped : AreMapped map) (code : EntryCode) where
  pub load_shape : HasEntryShape code 16 3 → (address : ℕ) (into : HeldScalar) (t : ℕ)
      → AreBelow t (address ∷ registers_of (holder_in into))
      → HasShape (load_code code map address into t) (load_length into) (t + 3)
  load_shape h address (Integer ty r) t below =
      let a = below.0 in let b = below.1.0 in
      shaped (load_integer_code address ty r) 1 (t + 3) (omega arith)
      (both _ _ (both _ _ (lt-ltb r (t + 3) (omega (arith, b)))
      (both _ _ (lt-ltb address (t + 3) (omega (arith, a))) refl)) refl)
  load_shape h address (Pointer p) t below =
      let read = code map address p.tag t in
      shaped_append (word_code address p t (length read)) read 8 16 (t + 3)
      (piece (t + 3) ((address ∷ held_registers p) ++ t ∷ []) (word_code 0 (pointer_from 1) 6 (length read)) 8
      (with_one t (t + 3) (address ∷ held_registers p) (omega arith) below) refl refl)
      (h map address p.tag t mapped (below.0, below.1.1)).0

  pub store_shape : HasEntryShape code 22 5 → (address : ℕ) (from : HeldScalar) (t : ℕ)
      → AreBelow t (address ∷ registers_of (holder_in from))
      → HasShape (store_code code map address from t) (store_length from) (t + 5)
  store_shape h address (Integer ty r) t below =
      let a = below.0 in let b = below.1.0 in
      shaped (store_integer_code address ty r) 1 (t + 5) (omega arith)
      (both _ _ (both _ _ (lt-ltb address (t + 5) (omega (arith, a)))
      (both _ _ (lt-ltb r (t + 5) (omega (arith, b))) refl)) refl)
  store_shape h address (Pointer p) t below =
      let write = code map address p.tag t in
      shaped_append (Store Sd address 0 p.value ∷ Operate Sll t address (Number 61) ∷ [])
      (unless_code Bne t (Number 0) write) 2 23 (t + 5)
      (piece (t + 5) ((address ∷ held_registers p) ++ t ∷ []) (Store Sd 0 0 1 ∷ Operate Sll 6 0 (Number 61) ∷ []) 2
      (with_one t (t + 5) (address ∷ held_registers p) (omega arith) below) refl refl)
      (shaped_unless Bne t (Number 0) write 22 (t + 5) (omega arith) refl
      (h map address p.tag t mapped (below.0, below.1.1)).0)

  pub load_computes : (most own : ℕ) → HasEntryShape code most own → (address : ℕ) (into : HeldScalar) (t : ℕ)
      → AreBelow t (address ∷ registers_of (holder_in into)) → IsWithoutInputOutput (load_code code map address into t)
  load_computes most own h address (Integer ty r) t below = computes (load_integer_code address ty r) refl
  load_computes most own h address (Pointer p) t below =
      computes (load_pointer_code address p t (code map address p.tag t))
      ((h map address p.tag t mapped (below.0, below.1.1)).1).none

  pub store_computes : (most own : ℕ) → HasEntryShape code most own → (address : ℕ) (from : HeldScalar) (t : ℕ)
      → AreBelow t (address ∷ registers_of (holder_in from))
      → IsWithoutInputOutput (store_code code map address from t)
  store_computes most own h address (Integer ty r) t below = computes (store_integer_code address ty r) refl
  store_computes most own h address (Pointer p) t below =
      computes (store_pointer_code address p t (code map address p.tag t))
      ((h map address p.tag t mapped (below.0, below.1.1)).1).none
