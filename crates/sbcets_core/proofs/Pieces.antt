-- Pieces put one after another.
use Rattle.std.proofs.Common.{◌≡◌, ◌<◌, ℕ, suc, List, ◌∷◌, ◌++◌, Option, length, take, drop, get_or, sym, ap, ◌∙◌}
use Rattle.std.proofs.Common.{append_assoc, Bor}
use Rattle.std.specs.Prelude.{flat_map}
use Rattle.std.proofs.lemmas.List.{take-append-drop}
use Rattle.std.proofs.lemmas.List.Concat.{flat_map-append}
use Rattle.std.proofs.Math.Seq.{drop-cons}
use Rattle.sb_outside.specs.Content.{gained, GainsPart}
use Rattle.sb_outside.proofs.Gains.{part_behind}

-- part of a piece, behind the pieces before it, is part of the whole
pub part_of_pieces : (told between now : Option (List ℕ)) (pieces : List (Bor (List ℕ))) (i : ℕ) (d : Bor (List ℕ))
    → i < length pieces → between ≡ gained told (flat_map (λ p. p.now) (take i pieces))
    → GainsPart between now (get_or pieces i d).now → GainsPart told now (flat_map (λ p. p.now) pieces)
part_of_pieces told between now pieces i d h so_far part =
    let f = λ (x : Bor (List ℕ)). x.now in
    let p = get_or pieces i d in
    let rest = drop (suc i) pieces in
    let split : pieces ≡ take i pieces ++ p ∷ rest =
    sym (take-append-drop i pieces) ∙ ap (λ r. take i pieces ++ r) (drop-cons pieces i d h) in
    let whole : flat_map f pieces ≡ (flat_map f (take i pieces) ++ p.now) ++ flat_map f rest =
    ap (flat_map f) split ∙ flat_map-append f (take i pieces) (p ∷ rest)
    ∙ sym (append_assoc (flat_map f (take i pieces)) p.now (flat_map f rest)) in
    part_behind told between now (flat_map f (take i pieces)) p.now (flat_map f rest) (flat_map f pieces) so_far
    whole part
