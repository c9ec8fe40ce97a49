-- What the routines on lock words are made of.
use Rattle.std.proofs.Common.{ℕ, ◌+◌, [], ◌∷◌, refl, arith}
use Rattle.addr_map.specs.declared.region.Region.TheVariants.{Locks, FreeLocks}
use Rattle.addr_map.specs.Places.{MapSizes, AreMapped}
use Rattle.flat_code.specs.Routines.Registers.{AreBelow}
use Rattle.flat_code.specs.Routines.Shape.{HasShape}
use Rattle.flat_code.proofs.Routines.Shape.{shaped, both, start_short, shaped_routine}
use Rattle.lock_space.specs.Routines.{next_code, fresh_code, release_code}

module _ (map : MapSizes) (mapped : AreMapped map) where
  pub next_shape : (key t : ℕ) → AreBelow t (key ∷ []) → HasShape (next_code map key t) 3 (t + 1)
  next_shape key t below =
      shaped_routine [] (key ∷ []) (t ∷ []) t (t + 1) (next_code map 0 1) 3 (omega arith) tt below (omega arith, tt)
      (shaped (next_code map 0 1) 3 2 (omega arith) (both _ _ (start_short map mapped FreeLocks) refl))

  pub fresh_shape : (key lock t : ℕ) → AreBelow t (key ∷ lock ∷ [])
      → HasShape (fresh_code map key lock t (t + 1)) 14 (t + 2)
  fresh_shape key lock t below =
      shaped_routine [] (key ∷ lock ∷ []) (t ∷ (t + 1) ∷ []) t (t + 2) (fresh_code map 0 1 2 3) 14 (omega arith) tt below
      (omega arith, (omega arith, tt))
      (shaped (fresh_code map 0 1 2 3) 14 4 (omega arith)
      (both _ _ (start_short map mapped FreeLocks) (both _ _ (start_short map mapped Locks) refl)))

  pub release_shape : (lock t : ℕ) → AreBelow t (lock ∷ [])
      → HasShape (release_code map lock t (t + 1) (t + 2)) 11 (t + 3)
  release_shape lock t below =
      shaped_routine (lock ∷ []) [] (t ∷ (t + 1) ∷ (t + 2) ∷ []) t (t + 3) (release_code map 0 1 2 3) 11 (omega arith) below tt
      (omega arith, (omega arith, (omega arith, tt)))
      (shaped (release_code map 0 1 2 3) 11 4 (omega arith)
      (both _ _ (start_short map mapped FreeLocks) (both _ _ (start_short map mapped Locks) refl)))
