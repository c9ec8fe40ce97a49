-- What fails keeps the first of the bytes that were sent.
use Rattle.std.proofs.Common.{◌≡◌, ℕ, List, ◌++◌, Some, take, drop, sym, ap}
use Rattle.std.proofs.lemmas.List.{take-append-drop}
use Rattle.sb_outside.specs.Content.{GainsPart, HoldsPart}

pub gains_front : (old new sent : List ℕ) (k : ℕ) → new ≡ old ++ take k sent → GainsPart (Some old) (Some new) sent
gains_front old new sent k e = record {
  kept = take k sent;
  lost = drop k sent;
  parts = sym (take-append-drop k sent);
  gains = ap Some e;
}

pub holds_front : (new sent : List ℕ) (k : ℕ) → new ≡ take k sent → HoldsPart (Some new) sent
holds_front new sent k e = record {
  kept = take k sent;
  lost = drop k sent;
  parts = sym (take-append-drop k sent);
  holds = ap Some e;
}
