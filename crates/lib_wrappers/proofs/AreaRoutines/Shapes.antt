-- What the routines on areas are made of.
use Rattle.std.proofs.Common.{◌≡◌, ℕ, ◌+◌, ◌≤◌, List, [], ◌∷◌, ◌++◌, refl, arith}
use Rattle.std.proofs.lemmas.Bool.{lt-ltb}
use Rattle.rv_isa.specs.declared.instruction.BranchOp.TheVariants.{Beq}
use Rattle.flat_code.specs.declared.instruction.RightOperand.TheVariants.{Number}
use Rattle.flat_code.specs.declared.instruction.FlatInstruction.{FlatInstruction}
use Rattle.flat_code.specs.declared.registers.Held.{Held}
use Rattle.flat_code.specs.Routines.Registers.{AreBelow}
use Rattle.flat_code.specs.Routines.Metadata.{held_registers}
use Rattle.flat_code.specs.Routines.Shape.{HasShape}
use Rattle.flat_code.specs.Routines.InputOutput.{IsWithoutInputOutput}
use Rattle.flat_code.proofs.Routines.Distinct.{below_more}
use Rattle.flat_code.proofs.Routines.InputOutput.{computes}
use Rattle.flat_code.proofs.Routines.Shape.{shaped, both}
use Rattle.flat_code.proofs.Routines.Shape.{piece, piece_behind, shaped_append, shaped_joined, shaped_until, up_to}
use Rattle.flat_code.proofs.Routines.Shape.{at_most}
use Rattle.flat_actions.specs.Actions.{registers_of}
use Rattle.flat_actions.specs.Lists.{give_code}
use Rattle.flat_actions.proofs.Shapes.{pointer_from, give_shape}
use Rattle.lib_wrappers.specs.declared.accesses.held.HeldScalar.{HeldScalar}
use Rattle.lib_wrappers.specs.declared.accesses.held.HeldScalar.TheVariants.{Integer, Pointer}
use Rattle.lib_wrappers.specs.AccessRoutines.Holding.{holder_in}
use Rattle.lib_wrappers.specs.AccessRoutines.Accessing.{load_integer_code}
use Rattle.lib_wrappers.specs.MovingRoutines.Tagged.{count_words}
use Rattle.lib_wrappers.specs.AreaRoutines.Loops.{stride, word_loop, zero_body, entry_behind, store_entry, load_entry}
use Rattle.lib_wrappers.specs.AreaRoutines.Zeroing.{area_words, zero_area_code}
use Rattle.lib_wrappers.specs.AreaRoutines.Taking.{count_entries, take_entries}
use Rattle.lib_wrappers.specs.AreaRoutines.Putting.{entry_place, put_entries}
use Rattle.lib_wrappers.specs.AreaRoutines.Reading.{read_word, word_held, read_pointer_code, read_part_code}
use Rattle.lib_wrappers.specs.AreaRoutines.Reading.{read_length}
use Rattle.lib_wrappers.specs.AreaRoutines.Moving.{count_parts, move_body, count_rest, move_parts, clear_rest}

loop_shape : (t k m : ℕ) (body : List FlatInstruction) → t + 3 ≤ m → HasShape body k m
    → HasShape (word_loop t body) (k + 3 + 2) m
loop_shape t k m body le h =
    shaped_until Beq t (Number 0) (body ++ stride t) (k + 3) m (omega arith) refl
    (shaped_append body (stride t) k 3 m h
    (piece m (t ∷ (t + 1) ∷ (t + 2) ∷ []) (stride 0) 3 (omega arith, (omega arith, (omega arith, tt))) refl refl))

zeros_shape : (t m : ℕ) → t + 4 ≤ m → HasShape (zero_body t) 2 m
zeros_shape t m le =
    piece m (t ∷ (t + 1) ∷ (t + 2) ∷ (t + 3) ∷ []) (zero_body 0) 2
    (omega arith, (omega arith, (omega arith, (omega arith, tt)))) refl refl

-- an entry on its way, behind the registers of the loop
entry_all : (t m : ℕ) → t + 7 ≤ m → AreBelow m ((t + 2) ∷ (t + 3) ∷ (t + 4) ∷ (t + 5) ∷ (t + 6) ∷ [])
entry_all t m le = (omega arith, (omega arith, (omega arith, (omega arith, (omega arith, tt)))))

stores_shape : (t m : ℕ) → t + 7 ≤ m → HasShape (store_entry (t + 2) (entry_behind t)) 4 m
stores_shape t m le =
    piece m ((t + 2) ∷ (t + 3) ∷ (t + 4) ∷ (t + 5) ∷ (t + 6) ∷ [])
    (store_entry 0 (record { base = 1; bound = 2; key = 3; lock = 4 })) 4 (entry_all t m le) refl refl

loads_shape : (t m : ℕ) → t + 7 ≤ m → HasShape (load_entry (t + 2) (entry_behind t)) 4 m
loads_shape t m le =
    piece m ((t + 2) ∷ (t + 3) ∷ (t + 4) ∷ (t + 5) ∷ (t + 6) ∷ [])
    (load_entry 0 (record { base = 1; bound = 2; key = 3; lock = 4 })) 4 (entry_all t m le) refl refl

-- ---- zeros

pub zero_area_shape : (at bytes t : ℕ) → AreBelow t (at ∷ bytes ∷ []) → HasShape (zero_area_code at bytes t) 16 (t + 4)
zero_area_shape at bytes t below =
    let m = t + 4 in
    let words = piece_behind t m (at ∷ bytes ∷ []) (t ∷ (t + 1) ∷ (t + 2) ∷ (t + 3) ∷ []) (area_words 0 1 2 3 4 5) 7
    (omega arith) below (omega arith, (omega arith, (omega arith, (omega arith, tt)))) refl refl in
    at_most (7 + (2 + 3 + 2)) 16 (omega arith)
    (shaped_append (area_words at bytes t (t + 1) (t + 2) (t + 3)) (word_loop t (zero_body t)) 7 (2 + 3 + 2) m words
    (loop_shape t 2 m (zero_body t) (omega arith) (zeros_shape t m (omega arith))))

-- ---- ranges taken

entries_taken : (read : List FlatInstruction) (to from bytes t : ℕ) → AreBelow t (to ∷ from ∷ bytes ∷ [])
    → HasShape read 32 (t + 13) → HasShape (take_entries read to from bytes t) 50 (t + 13)
entries_taken read to from bytes t below h =
    let m = t + 13 in
    let count = piece_behind t m (to ∷ from ∷ bytes ∷ []) (t ∷ (t + 1) ∷ (t + 2) ∷ (t + 3) ∷ [])
    (count_entries 0 1 2 3 4 5 6) 9 (omega arith) below (omega arith, (omega arith, (omega arith, (omega arith, tt))))
    refl refl in
    let stores = store_entry (t + 2) (entry_behind t) in
    at_most (9 + (32 + 4 + 3 + 2)) 50 (omega arith)
    (shaped_append (count_entries to from bytes t (t + 1) (t + 2) (t + 3)) (word_loop t (read ++ stores)) 9
    (32 + 4 + 3 + 2) m count
    (loop_shape t (32 + 4) m (read ++ stores) (omega arith)
    (shaped_append read stores 32 4 m h (stores_shape t m (omega arith)))))

pub take_shape : {r a b x : List FlatInstruction} (read : List FlatInstruction) (to from bytes t : ℕ)
    → AreBelow t (to ∷ from ∷ bytes ∷ []) → r ≡ a ++ b → a ≡ zero_area_code to bytes t ++ x
    → b ≡ take_entries read to from bytes t → HasShape x 24 (t + 5) → HasShape read 32 (t + 7 + 6)
    → HasShape r 96 (t + 13)
take_shape {r} {a} {b} {x} read to from bytes t below e f g h k =
    let m = t + 13 in
    at_most (16 + 24 + 50) 96 (omega arith)
    (shaped_joined e f g
    (shaped_append (zero_area_code to bytes t) x 16 24 m
    (up_to (t + 4) m (omega arith) (zero_area_shape to bytes t (below.0, (below.1.1.0, tt))))
    (up_to (t + 5) m (omega arith) h))
    (entries_taken read to from bytes t below (up_to (t + 7 + 6) m (omega arith) k)))

-- ---- ranges put

entries_put : (write : List FlatInstruction) (to : ℕ) (part : Held) (bytes t : ℕ)
    → AreBelow t (to ∷ bytes ∷ held_registers part) → HasShape write 32 (t + 13)
    → HasShape (put_entries write to part bytes t) 57 (t + 13)
entries_put write to part bytes t below h =
    let m = t + 13 in
    let count = piece_behind t m (to ∷ bytes ∷ held_registers part) (t ∷ (t + 1) ∷ (t + 2) ∷ (t + 3) ∷ [])
    (count_words 0 2 1 7 8 9 10) 13 (omega arith) below (omega arith, (omega arith, (omega arith, (omega arith, tt))))
    refl refl in
    let place = piece_behind t m (to ∷ bytes ∷ held_registers part) ((t + 2) ∷ []) (entry_place (pointer_from 2) 7) 3
    (omega arith) below (omega arith, tt) refl refl in
    let counting = count_words to part.value bytes t (t + 1) (t + 2) (t + 3) in
    let loads = load_entry (t + 2) (entry_behind t) in
    at_most (13 + 3 + (4 + 32 + 3 + 2)) 57 (omega arith)
    (shaped_append (counting ++ entry_place part (t + 2)) (word_loop t (loads ++ write)) (13 + 3) (4 + 32 + 3 + 2) m
    (shaped_append counting (entry_place part (t + 2)) 13 3 m count place)
    (loop_shape t (4 + 32) m (loads ++ write) (omega arith)
    (shaped_append loads write 4 32 m (loads_shape t m (omega arith)) h)))

pub put_shape : {r a b x : List FlatInstruction} (write : List FlatInstruction) (to : ℕ) (part : Held) (bytes t : ℕ)
    → AreBelow t (to ∷ bytes ∷ held_registers part) → r ≡ a ++ b → a ≡ x → b ≡ put_entries write to part bytes t
    → HasShape x 24 (t + 5) → HasShape write 32 (t + 7 + 6) → HasShape r 96 (t + 13)
put_shape {r} {a} {b} {x} write to part bytes t below e f g h k =
    let m = t + 13 in
    at_most (24 + 57) 96 (omega arith)
    (shaped_joined e f g (up_to (t + 5) m (omega arith) h)
    (entries_put write to part bytes t below (up_to (t + 7 + 6) m (omega arith) k)))

-- ---- parts moved

parts_shape : (to : ℕ) (part : Held) (bytes t : ℕ) → AreBelow t (to ∷ bytes ∷ held_registers part)
    → HasShape (move_parts to part bytes t) 27 (t + 9)
parts_shape to part bytes t below =
    let m = t + 9 in
    let count = piece_behind t m (to ∷ bytes ∷ held_registers part) (t ∷ (t + 1) ∷ (t + 2) ∷ (t + 3) ∷ (t + 4) ∷ [])
    (count_parts 0 (pointer_from 2) 1 7 8 9 10 11) 12 (omega arith) below
    (omega arith, (omega arith, (omega arith, (omega arith, (omega arith, tt))))) refl refl in
    let u = t + 1 in
    let own = t ∷ u ∷ (u + 1) ∷ (u + 2) ∷ (u + 3) ∷ (u + 4) ∷ (u + 5) ∷ (u + 6) ∷ (u + 7) ∷ [] in
    let all : AreBelow m own = (
      omega arith,
      (
        omega arith,
        (
          omega arith,
          (
            omega arith,
            (
              omega arith,
              (
                omega arith,
                (
                  omega arith,
                  (
                    omega arith,
                    (omega arith, tt),
                  ),
                ),
              ),
            ),
          ),
        ),
      ),
    ) in
    let body = piece m own (move_body 0 1) 10 all refl refl in
    at_most (12 + (10 + 3 + 2)) 27 (omega arith)
    (shaped_append (count_parts to part bytes t (t + 1) (t + 2) (t + 3) (t + 4)) (word_loop u (move_body t u)) 12
    (10 + 3 + 2) m count (loop_shape u 10 m (move_body t u) (omega arith) body))

rest_shape : (to : ℕ) (part : Held) (bytes t : ℕ) → AreBelow t (to ∷ bytes ∷ held_registers part)
    → HasShape (clear_rest part bytes t) 17 (t + 9)
rest_shape to part bytes t below =
    let m = t + 9 in
    let u = t + 1 in
    let count = piece_behind t m (to ∷ bytes ∷ held_registers part) (t ∷ (t + 1) ∷ (t + 2) ∷ (t + 3) ∷ (t + 4) ∷ [])
    (count_rest (pointer_from 2) 1 7 8 9 10 11) 10 (omega arith) below
    (omega arith, (omega arith, (omega arith, (omega arith, (omega arith, tt))))) refl refl in
    at_most (10 + (2 + 3 + 2)) 17 (omega arith)
    (shaped_append (count_rest part bytes t (t + 1) (t + 2) (t + 3) (t + 4)) (word_loop u (zero_body u)) 10 (2 + 3 + 2) m
    count (loop_shape u 2 m (zero_body u) (omega arith) (zeros_shape u m (omega arith))))

pub move_shape : {r a b x : List FlatInstruction} (to : ℕ) (part : Held) (bytes t : ℕ)
    → AreBelow t (to ∷ bytes ∷ held_registers part) → r ≡ a ++ b → a ≡ x
    → b ≡ move_parts to part bytes t ++ clear_rest part bytes t → HasShape x 24 (t + 5) → HasShape r 80 (t + 9)
move_shape {r} {a} {b} {x} to part bytes t below e f g h =
    let m = t + 9 in
    at_most (24 + (27 + 17)) 80 (omega arith)
    (shaped_joined e f g (up_to (t + 5) m (omega arith) h)
    (shaped_append (move_parts to part bytes t) (clear_rest part bytes t) 27 17 m (parts_shape to part bytes t below)
    (rest_shape to part bytes t below)))

-- ---- a scalar read out of contents

pub read_part_shape : (h : Held) (into : HeldScalar) (t : ℕ) → AreBelow t (held_registers h)
    → AreBelow t (registers_of (holder_in into)) → HasShape (read_part_code h into t) (read_length into) (t + 7)
read_part_shape h (Integer ty r) t below results =
    let a = below.0 in let b = results.0 in
    shaped (load_integer_code h.value ty r) 1 (t + 7) (omega arith)
    (both _ _ (both _ _ (lt-ltb r (t + 7) (omega (arith, b))) (both _ _ (lt-ltb h.value (t + 7) (omega (arith, a))) refl))
    refl)
read_part_shape h (Pointer into) t below results =
    let v = below.0 in let b = below.1.0 in let d = below.1.1.0 in
    shaped_append (read_word h t) (give_code (word_held t) into) 15 5 (t + 7)
    (piece (t + 7)
    (h.value ∷ h.tag.base ∷ h.tag.bound ∷ t ∷ (t + 1) ∷ (t + 2) ∷ (t + 3) ∷ (t + 4) ∷ (t + 5) ∷ (t + 6) ∷ [])
    (read_word (record { value = 0; tag = record { base = 1; bound = 2; key = 0; lock = 0 } }) 3) 15
    (omega arith, (omega arith, (omega arith, (omega arith, (omega arith, entry_all t (t + 7) (omega arith))))))
    refl refl)
    (give_shape (t + 7) (word_held t) into
    (omega arith, (omega arith, (omega arith, (omega arith, (omega arith, tt)))))
    (below_more t (t + 7) (held_registers into) (omega arith) results))

pub read_part_computes : (h : Held) (into : HeldScalar) (t : ℕ) → IsWithoutInputOutput (read_part_code h into t)
read_part_computes h (Integer ty r) t = computes (load_integer_code h.value ty r) refl
read_part_computes h (Pointer into) t = computes (read_pointer_code h into t) refl
