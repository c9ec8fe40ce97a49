-- What a sink tells after one gain and another.
use Rattle.std.proofs.Common.{◌≡◌, ℕ, List, [], ◌++◌, Option, Some, None, refl, sym, ap, ◌∙◌, append_assoc}
use Rattle.std.proofs.lemmas.List.{append-nil}
use Rattle.sb_outside.specs.Content.{gained, GainsPart}

pub gained_nil : (told : Option (List ℕ)) → gained told [] ≡ told
gained_nil None = refl
gained_nil (Some bytes) = ap Some (append-nil bytes)

pub gained_gained : (told : Option (List ℕ)) (a b : List ℕ) → gained (gained told a) b ≡ gained told (a ++ b)
gained_gained None a b = refl
gained_gained (Some bytes) a b = ap Some (append_assoc bytes a b)

-- a part of what was sent, behind what came in before and in front of what was not sent
pub part_behind : (told between now : Option (List ℕ)) (front sent rest whole : List ℕ) → between ≡ gained told front
    → whole ≡ (front ++ sent) ++ rest → GainsPart between now sent → GainsPart told now whole
part_behind told between now front sent rest whole so_far is part = record {
  kept = front ++ part.kept;
  lost = part.lost ++ rest;
  parts =
      is ∙ ap (λ l. (front ++ l) ++ rest) part.parts
      ∙ ap (λ l. l ++ rest) (sym (append_assoc front part.kept part.lost))
      ∙ append_assoc (front ++ part.kept) part.lost rest;
  gains = part.gains ∙ ap (λ t. gained t part.kept) so_far ∙ gained_gained told front part.kept;
}
