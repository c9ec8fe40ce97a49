-- Parts in code and as defined: those that are not overridden, and one more.
use Rattle.std.proofs.Common.{◌≡◌, Bool, true, false, not, cond, List, [], ◌∷◌, ◌++◌, filter, map, refl}
use Rattle.std.proofs.Common.{ap, ◌∙◌, append_assoc}
use Rattle.std.proofs.lemmas.List.{map_push}
use Rattle.c_tree.specs.Statements.{Part}
use Rattle.c_tree.specs.View.{part_of}
use Rattle.c_tree.specs.declared.statement.Part as code_part
use Rattle.c_current_object.specs.declared.subobject.Step.{Step}
use Rattle.c_initializer_rules.specs.declared.placed.PlacedPart as code
use Rattle.c_initializer_rules.specs.Order.{are_in_order, leads_behind_last}
use Rattle.c_initializer_rules.specs.Placed.{PlacedPart, overrides, placed_of, without}
use Rattle.c_initializer_rules.proofs.Ordered.{nothing_overridden}

abbrev stays_in : List Step → code.PlacedPart → Bool
stays_in now p = not (overrides now p.path)

kept_or_dropped : (b : Bool) (x : code.PlacedPart) (inner : List code.PlacedPart) (outer : List PlacedPart)
    → map placed_of inner ≡ outer → map placed_of (cond b (x ∷ inner) inner) ≡ cond b (placed_of x ∷ outer) outer
kept_or_dropped true x inner outer is = ap (λ ps. placed_of x ∷ ps) is
kept_or_dropped false x inner outer is = is

pub filtered : (now : List Step) (xs : List code.PlacedPart)
    → map placed_of (filter (stays_in now) xs) ≡ without now (map placed_of xs)
unfolding without
filtered now [] = refl
filtered now (x ∷ xs) = kept_or_dropped (stays_in now x) x (filter (stays_in now) xs) _ (filtered now xs)

pub unchanged : (now : List Step) (xs : List code.PlacedPart) → are_in_order (map (λ p. p.path) xs) ≡ true
    → leads_behind_last now (map (λ p. p.path) xs) ≡ true → map placed_of xs ≡ without now (map placed_of xs)
unchanged now xs ordered leads =
    ap (map placed_of) (nothing_overridden (λ p. p.path) now xs ordered leads) ∙ filtered now xs

-- one more part was taken out
pub moved : (done : List code_part.Part) (p : code.PlacedPart) (rest whole : List Part)
    → map part_of done ++ (part_of p.part ∷ rest) ≡ whole → map part_of (done ++ p.part ∷ []) ++ rest ≡ whole
moved done p rest whole is =
    ap (λ ps. ps ++ rest) (map_push part_of done p.part)
    ∙ append_assoc (map part_of done) (part_of p.part ∷ []) rest ∙ is
