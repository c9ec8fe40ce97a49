-- Reading a format byte by byte gives its directives.
use Rattle.std.proofs.Common.{◌≡◌, ℕ, Option, Some, None, List, [], ◌∷◌, ◌++◌, refl, ap, sym, ◌∙◌}
use Rattle.std.proofs.Common.{append_assoc, append-nil}
use Rattle.std.specs.Prelude.{option_map}
use Rattle.c_tree.specs.declared.format.Directive.{Directive}
use Rattle.c_tree.specs.declared.format.Next.{Next}
use Rattle.c_tree.specs.declared.format.Next.TheVariants as next
use Rattle.c_tree.specs.declared.format.Place.{Place}
use Rattle.c_tree.specs.declared.format.Place.TheVariants as place
use Rattle.c_tree.specs.Scanning.{directives_by, directives_from, next_in, with_first}
use Rattle.c_tree.proofs.Formats.{next_directives}
use Rattle.c_call_rules.specs.Scanning.{with_directive, scanned, continued}
use Rattle.c_call_rules.specs.Printing.{directives_in}

-- the directives behind those that were found
abbrev behind : List Directive → Option (List Directive) → Option (List Directive)
behind found None = None
behind found (Some ds) = Some (found ++ ds)

one_more : (found : List Directive) (d : Option Directive) (o : Option (List Directive))
    → behind (with_directive found d) o ≡ behind found (option_map (with_first d) o)
one_more found d None = refl
one_more found None (Some ds) = refl
one_more found (Some d) (Some ds) = ap Some (append_assoc found (d ∷ []) ds)

turn : (n : Next) (bytes : List ℕ) (found : List Directive)
    → ((p : Place) (found' : List Directive) → scanned p found' bytes ≡ behind found' (directives_from p bytes))
    → continued n found (λ q found'. scanned q found' bytes)
    ≡ behind found (directives_by n (λ q. directives_from q bytes))
turn next.End bytes found h = ap Some (sym (append-nil found))
turn next.Wrong bytes found h = refl
turn (next.On p d) bytes found h = h p (with_directive found d) ∙ one_more found d (directives_from p bytes)

scans : (bytes : List ℕ) (p : Place) (found : List Directive)
    → scanned p found bytes ≡ behind found (directives_from p bytes)
scans [] place.Text found = ap Some (sym (append-nil found))
scans [] place.Percent found = refl
scans [] place.Long found = refl
scans (b ∷ bytes) p found =
    turn (next_in p b) bytes found (λ q found'. scans bytes q found')
    ∙ ap (behind found) (sym (next_directives p b bytes))

all_behind : (o : Option (List Directive)) → behind [] o ≡ o
all_behind None = refl
all_behind (Some ds) = refl

pub scanned_is : (bytes : List ℕ) → scanned place.Text [] bytes ≡ directives_in bytes
scanned_is bytes = scans bytes place.Text [] ∙ all_behind (directives_from place.Text bytes)
