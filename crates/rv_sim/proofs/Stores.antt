-- A store into one of the segments.
use Rattle.std.proofs.Common.{◌≡◌, ℕ, ◌<◌, Bool, true, false, length, List, get_or, Option, Some, None, MatchOption, ap}
use Rattle.std.proofs.Common.{◌∙◌}
use Rattle.std.specs.Prelude.{slice_get, slice_set}
use Rattle.std.proofs.lemmas.Option.{slice_get-get_or}
use Rattle.std.proofs.lemmas.List.{set-get_or}
use Rattle.rv_sim.specs.Memory.{SegmentState, ◌>>=◌, place_of, written_in, store}

-- what the answer r of a store, and memory after it, are by its definition
abbrev Stored : List SegmentState → Bool → List SegmentState → Option (List SegmentState) → Type 0
Stored memory r now o = MatchOption o ((r ≡ false) × (now ≡ memory)) (λ after. (r ≡ true) × (now ≡ after))

by_segment : (memory : List SegmentState) (place : ℕ) (d t : SegmentState) (r : Bool) (o : Option SegmentState)
    → MatchOption o ((r ≡ false) × (t ≡ get_or memory place d)) (λ after. (r ≡ true) × (t ≡ after))
    → Stored memory r (slice_set memory place t) (o >>= λ after. Some (slice_set memory place after))
by_segment memory place d t r None m = (m.0, ap (slice_set memory place) m.1 ∙ set-get_or memory place d)
by_segment memory place d t r (Some u) m = (m.0, ap (slice_set memory place) m.1)

-- the segment at its place was written, or refused
pub store_at : (memory : List SegmentState) (a n v place : ℕ) (d t : SegmentState) (r : Bool)
    → place_of memory a ≡ Some place → place < length memory
    → MatchOption (written_in (get_or memory place d) a n v) ((r ≡ false) × (t ≡ get_or memory place d))
    (λ after. (r ≡ true) × (t ≡ after)) → Stored memory r (slice_set memory place t) (store memory a n v)
unfolding store
store_at memory a n v place d t r found h m =
    let got : slice_get memory place ≡ Some (get_or memory place d) = slice_get-get_or memory place d h in
    rw (found, got) (by_segment memory place d t r (written_in (get_or memory place d) a n v) m)
