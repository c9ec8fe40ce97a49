-- What the routines on the table of live blocks are made of.
use Rattle.std.proofs.Common.{◌≡◌, ℕ, ◌+◌, true, [], ◌∷◌, refl, arith}
use Rattle.addr_map.specs.declared.region.Region.TheVariants.{Heap, Blocks}
use Rattle.addr_map.specs.Places.{MapSizes, AreMapped}
use Rattle.flat_code.specs.Routines.Registers.{AreBelow}
use Rattle.flat_code.specs.Routines.Shape.{is_short, HasShape}
use Rattle.flat_code.proofs.Routines.Shape.{shaped, both, short_below, start_short, last_short, shaped_routine}
use Rattle.heap_space.specs.Routines.{find_code, place_code, release_code}

module _ (map : MapSizes) (mapped : AreMapped map) where
  pub find_shape : (a k n f t : ℕ) → AreBelow t (a ∷ k ∷ []) → AreBelow t (n ∷ f ∷ [])
      → HasShape (find_code map a k n f t (t + 1) (t + 2)) 16 (t + 3)
  find_shape a k n f t ins res =
      shaped_routine (a ∷ k ∷ []) (n ∷ f ∷ []) (t ∷ (t + 1) ∷ (t + 2) ∷ []) t (t + 3) (find_code map 0 1 2 3 4 5 6) 16
      (omega arith) ins res (omega arith, (omega arith, (omega arith, tt)))
      (shaped (find_code map 0 1 2 3 4 5 6) 16 7 (omega arith) (both _ _ (start_short map mapped Blocks) refl))

  blocks_short : is_short map.budgets.blocks ≡ true
  blocks_short = short_below map.budgets.blocks (omega (arith, mapped.budgets.blocks))

  pub place_shape : (a k o t : ℕ) → AreBelow t (a ∷ k ∷ []) → AreBelow t (o ∷ [])
      → HasShape (place_code map a k o t (t + 1) (t + 2) (t + 3) (t + 4) (t + 5) (t + 6) (t + 7)) 64 (t + 8)
  place_shape a k o t ins res =
      let first = start_short map mapped Blocks in
      shaped_routine (a ∷ k ∷ []) (o ∷ [])
      (t ∷ (t + 1) ∷ (t + 2) ∷ (t + 3) ∷ (t + 4) ∷ (t + 5) ∷ (t + 6) ∷ (t + 7) ∷ []) t (t + 8)
      (place_code map 0 1 2 3 4 5 6 7 8 9 10) 64 (omega arith) ins res (
        omega arith,
        (
          omega arith,
          (
            omega arith,
            (
              omega arith,
              (
                omega arith,
                (
                  omega arith,
                  (
                    omega arith,
                    (
                      omega arith,
                      tt,
                    ),
                  ),
                ),
              ),
            ),
          ),
        ),
      )
      (shaped (place_code map 0 1 2 3 4 5 6 7 8 9 10) 64 11 (omega arith)
      (both _ _ (last_short map mapped Heap) (both _ _ first (both _ _ blocks_short
      (both _ _ (start_short map mapped Heap) (both _ _ first refl))))))

  pub release_shape : (a t : ℕ) → AreBelow t (a ∷ []) → HasShape (release_code map a t (t + 1) (t + 2)) 32 (t + 3)
  release_shape a t ins =
      let first = start_short map mapped Blocks in
      shaped_routine (a ∷ []) [] (t ∷ (t + 1) ∷ (t + 2) ∷ []) t (t + 3) (release_code map 0 1 2 3) 32 (omega arith) ins tt
      (omega arith, (omega arith, (omega arith, tt)))
      (shaped (release_code map 0 1 2 3) 32 4 (omega arith) (both _ _ first (both _ _ first refl)))
