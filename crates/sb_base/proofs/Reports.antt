-- Pieces that are put one behind another at the front of a text.
use Rattle.std.proofs.Common.{◌≡◌, ℕ, ◌+◌, List, ◌++◌, length, take, drop, sym, ◌∙◌, ap, append_assoc, arith}
use Rattle.std.proofs.lemmas.List.{length-append}
use Rattle.std.proofs.lemmas.Slice.{drop-append-drop}
use Rattle.std.proofs.Math.Seq.{take-append_seam}

-- the new text is the old one with its first bytes, so many, written over by `front`
pub record HasPut (old new front : List ℕ) (count : ℕ) : Type 0 where
  pub count_is : count ≡ length front
  pub text_is : new ≡ front ++ drop count old

-- one more piece
pub put_behind : {old mid new front : List ℕ} {at end : ℕ} → HasPut old mid front at → (piece : List ℕ)
    → end ≡ at + length piece → new ≡ take at mid ++ (piece ++ drop end mid) → HasPut old new (front ++ piece) end
put_behind {old} {mid} {new} {front} {at} {end} before piece moved written =
    let kept : take at mid ≡ front =
    ap (take at) before.text_is ∙ rw before.count_is (take-append_seam front (drop (length front) old)) in
    let rest : drop end mid ≡ drop end old =
    ap (drop end) before.text_is ∙ drop-append-drop at old front end (omega arith) (sym before.count_is) in
    record {
      count_is = moved ∙ (ap (λ n. n + length piece) before.count_is ∙ sym (length-append front piece));
      text_is = rw (kept, rest) at written ∙ sym (append_assoc front piece (drop end old));
    }
