-- Reading the directives of a format byte by byte.
use Rattle.std.specs.Prelude.{ℕ, List, [], ◌∷◌, ◌++◌, Option, Some, None}
use Rattle.c_tree.specs.declared.format.Directive.{Directive}
use Rattle.c_tree.specs.declared.format.Next.{Next}
use Rattle.c_tree.specs.declared.format.Next.TheVariants as next
use Rattle.c_tree.specs.declared.format.Place.{Place}
use Rattle.c_tree.specs.declared.format.Place.TheVariants as place
use Rattle.c_tree.specs.Scanning.{next_in}

abbrev pub with_directive : List Directive → Option Directive → List Directive
with_directive found None = found
with_directive found (Some d) = found ++ d ∷ []

-- a format ends in text
abbrev pub ended : Place → List Directive → Option (List Directive)
ended place.Text found = Some found
ended place.Percent found = None
ended place.Long found = None

abbrev pub continued : Next → (found : List Directive) → (Place → List Directive → Option (List Directive))
    → Option (List Directive)
continued next.End found behind = Some found
continued next.Wrong found behind = None
continued (next.On p d) found behind = behind p (with_directive found d)

abbrev pub scanned : Place → (found : List Directive) → List ℕ → Option (List Directive)
scanned p found [] = ended p found
scanned p found (b ∷ bytes) = continued (next_in p b) found (λ q found'. scanned q found' bytes)
