-- What the routines of both forms are made of.
use Rattle.std.proofs.Common.{◌≡◌, ℕ, ◌+◌, true, [], ◌∷◌, refl, arith}
use Rattle.addr_map.specs.Places.{MapSizes, AreMapped}
use Rattle.flat_code.specs.declared.registers.Entry.{Entry}
use Rattle.flat_code.specs.Routines.Registers.{AreBelow}
use Rattle.flat_code.specs.Routines.Metadata.{entry_registers}
use Rattle.flat_code.specs.Routines.Shape.{is_short, HasShape}
use Rattle.flat_code.proofs.Routines.Shape.{shaped, both, short_below, shaped_routine}
use Rattle.shadow_space.specs.Direct.{direct_read, direct_write, direct_clear}
use Rattle.shadow_space.specs.TwoLevel.Tables.{first_table}
use Rattle.shadow_space.specs.TwoLevel.Code.{two_level_read, two_level_write, two_level_clear}

-- a read gives its results in the registers from 1 on, and a write takes them from there
abbrev handed : Entry
handed = record { base = 1; bound = 2; key = 3; lock = 4 }

-- ---- the direct form

pub direct_read_shape : (at : ℕ) (e : Entry) (t : ℕ) → AreBelow t (at ∷ entry_registers e)
    → HasShape (direct_read at e t) 16 (t + 3)
direct_read_shape at e t below =
    shaped_routine (at ∷ []) (entry_registers e) (t ∷ []) t (t + 3) (direct_read 0 handed 5) 16 (omega arith)
    (below.0, tt) below.1 (omega arith, tt) (shaped (direct_read 0 handed 5) 16 6 (omega arith) refl)

pub direct_write_shape : (at : ℕ) (e : Entry) (t : ℕ) → AreBelow t (at ∷ entry_registers e)
    → HasShape (direct_write at e t) 22 (t + 5)
direct_write_shape at e t below =
    shaped_routine (at ∷ entry_registers e) [] (t ∷ []) t (t + 5) (direct_write 0 handed 5) 22 (omega arith) below tt
    (omega arith, tt) (shaped (direct_write 0 handed 5) 22 6 (omega arith) refl)

pub direct_clear_shape : (a n t : ℕ) → AreBelow t (a ∷ n ∷ [])
    → HasShape (direct_clear a n t (t + 1) (t + 2)) 32 (t + 6)
direct_clear_shape a n t below =
    shaped_routine (a ∷ n ∷ []) [] (t ∷ (t + 1) ∷ (t + 2) ∷ []) t (t + 6) (direct_clear 0 1 2 3 4) 32 (omega arith) below
    tt (omega arith, (omega arith, (omega arith, tt))) (shaped (direct_clear 0 1 2 3 4) 32 5 (omega arith) refl)

-- ---- two levels

pub two_level_read_shape : (at : ℕ) (e : Entry) (t : ℕ) → AreBelow t (at ∷ entry_registers e)
    → HasShape (two_level_read at e t (t + 1) (t + 2)) 16 (t + 3)
two_level_read_shape at e t below =
    shaped_routine (at ∷ []) (entry_registers e) (t ∷ (t + 1) ∷ (t + 2) ∷ []) t (t + 3) (two_level_read 0 handed 5 6 7) 16
    (omega arith) (below.0, tt) below.1 (omega arith, (omega arith, (omega arith, tt)))
    (shaped (two_level_read 0 handed 5 6 7) 16 8 (omega arith) refl)

table_short : (m : MapSizes) → AreMapped m → is_short (first_table m) ≡ true
table_short m h = short_below (first_table m)
    (omega (arith, h.globals, h.budgets.stack.greatest, h.budgets.heap.greatest))

pub two_level_write_shape : (m : MapSizes) → AreMapped m → (at : ℕ) (e : Entry) (t : ℕ)
    → AreBelow t (at ∷ entry_registers e)
    → HasShape (two_level_write m at e t (t + 1) (t + 2) (t + 3) (t + 4)) 22 (t + 5)
two_level_write_shape m h at e t below =
    shaped_routine (at ∷ entry_registers e) [] (t ∷ (t + 1) ∷ (t + 2) ∷ (t + 3) ∷ (t + 4) ∷ []) t (t + 5)
    (two_level_write m 0 handed 5 6 7 8 9) 22 (omega arith) below tt
    (omega arith, (omega arith, (omega arith, (omega arith, (omega arith, tt)))))
    (shaped (two_level_write m 0 handed 5 6 7 8 9) 22 10 (omega arith) (both _ _ (table_short m h) refl))

pub two_level_clear_shape : (a n t : ℕ) → AreBelow t (a ∷ n ∷ [])
    → HasShape (two_level_clear a n t (t + 1) (t + 2) (t + 3) (t + 4) (t + 5)) 32 (t + 6)
two_level_clear_shape a n t below =
    shaped_routine (a ∷ n ∷ []) [] (t ∷ (t + 1) ∷ (t + 2) ∷ (t + 3) ∷ (t + 4) ∷ (t + 5) ∷ []) t (t + 6)
    (two_level_clear 0 1 2 3 4 5 6 7) 32 (omega arith) below tt
    (omega arith, (omega arith, (omega arith, (omega arith, (omega arith, (omega arith, tt))))))
    (shaped (two_level_clear 0 1 2 3 4 5 6 7) 32 8 (omega arith) refl)
