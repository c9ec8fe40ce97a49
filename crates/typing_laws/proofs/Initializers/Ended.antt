-- At the end of an initializer all parts lie in the object, to which they give its size where it has none (C99 6.7.8
-- paragraph 22).
use Rattle.std.proofs.Common.{◌≡◌, ℕ, zero, suc, ◌+◌, ◌*◌, ◌^◌, ◌≤◌, max, true, false, refl}
use Rattle.std.proofs.Common.{List, [], ◌∷◌, length, nat_le, arith, mul-le-mul_right}
use Rattle.std.specs.List.{list_all}
use Rattle.std.proofs.lemmas.Bool.{and_from, le-leb}
use Rattle.c_tree.specs.Extents.{capped}
use Rattle.c_tree.specs.Statements.{Content, value_content, literal_content}
use Rattle.c_tree.specs.Valid.{Scope}
use Rattle.c_tree.specs.ValidProgram.{are_parts, content_size, is_content, is_part}
use Rattle.c_current_object.specs.declared.subobject.Step.{Step}
use Rattle.c_initializer_rules.specs.Placed.{PlacedPart, count_of, count_with, greatest, parts_in}
use Rattle.typing_laws.specs.Initializers.Cursor.{Every}
use Rattle.typing_laws.specs.Initializers.Initialized.{IsValidPart}
use Rattle.typing_laws.specs.Initializers.Placing.{FitsIn, reach}

-- parts that end within so many bytes

abbrev EndsIn : ℕ → PlacedPart → Type 0
EndsIn total p = p.part.offset + content_size p.part.content ≤ total

all_parts : (scope : Scope) (total : ℕ) (ps : List PlacedPart) → Every (IsValidPart scope) ps
    → Every (EndsIn total) ps → are_parts scope total (parts_in ps) ≡ true
all_parts scope total [] valid ends = refl
all_parts scope total (p ∷ ps) valid ends =
    and_from (is_part scope total p.part) (list_all (is_part scope total) (parts_in ps))
    (and_from (is_content scope p.part.content) (nat_le (p.part.offset + content_size p.part.content) total) valid.0
    (le-leb (p.part.offset + content_size p.part.content) total ends.0))
    (all_parts scope total ps valid.1 ends.1)

-- an object of a complete type

closed_end : (size : ℕ) → size ≤ 2 ^ 32 → (p : PlacedPart) → FitsIn false size p → EndsIn size p
closed_end size small p h =
    let at = h.offset in let ends = h.inside in omega (arith, at, ends, small)

closed_ends : (size : ℕ) → size ≤ 2 ^ 32 → (ps : List PlacedPart) → Every (FitsIn false size) ps
    → Every (EndsIn size) ps
closed_ends size small [] h = tt
closed_ends size small (p ∷ ps) h = (closed_end size small p h.0, closed_ends size small ps h.1)

-- an array of unknown size

more_rows : (n count size : ℕ) → n ≤ count → n * size ≤ count * size
more_rows n count size low = mul-le-mul_right size low

as_many : (n size : ℕ) → 1 ≤ size → n ≤ n * size
as_many n (suc size) low = grind arith
as_many n zero low = absurd (omega (arith, low))

open_end : (size count start offset : ℕ) (path : List Step) (content : Content) → 1 ≤ size → count * size ≤ 2 ^ 32
    → offset ≡ capped start → 1 ≤ content_size content → start + content_size content ≤ reach true size path content
    → count_with path content ≤ count → offset + content_size content ≤ count * size
open_end size count start offset [] (value_content e) some small at low ends most = absurd (omega (arith, low, ends))
open_end size count start offset [] (literal_content bytes) some small at low ends most =
    let rows = more_rows (length bytes) count size most in omega (arith, rows, ends, at, small)
open_end size count start offset (s ∷ path) (value_content e) some small at low ends most =
    let many = as_many count size some in
    let number : s.number + 1 ≤ count = omega (arith, many, small, most) in
    let rows = more_rows (s.number + 1) count size number in
    omega (arith, rows, ends, at, small)
open_end size count start offset (s ∷ path) (literal_content bytes) some small at low ends most =
    let many = as_many count size some in
    let number : s.number + 1 ≤ count = omega (arith, many, small, most) in
    let rows = more_rows (s.number + 1) count size number in
    omega (arith, rows, ends, at, small)

pub no_less : (n : ℕ) (ps : List PlacedPart) → n ≤ greatest n ps
no_less n [] = omega arith
no_less n (p ∷ ps) =
    let low = no_less (max n (count_with p.path p.part.content)) ps in omega (arith, low)

open_ends : (size count n : ℕ) → 1 ≤ size → count * size ≤ 2 ^ 32 → (ps : List PlacedPart)
    → Every (FitsIn true size) ps → greatest n ps ≤ count → Every (EndsIn (count * size)) ps
open_ends size count n some small [] h most = tt
open_ends size count n some small (p ∷ ps) h most = (
  open_end size count h.0.start p.part.offset p.path p.part.content some small h.0.offset h.0.some h.0.inside
      (let low = no_less (max n (count_with p.path p.part.content)) ps in omega (arith, low, most)),
  open_ends size count (max n (count_with p.path p.part.content)) some small ps h.1 most,
)

pub closed_parts : (scope : Scope) (size : ℕ) → size ≤ 2 ^ 32 → (ps : List PlacedPart) → Every (FitsIn false size) ps
    → Every (IsValidPart scope) ps → are_parts scope size (parts_in ps) ≡ true
closed_parts scope size small ps h valid = all_parts scope size ps valid (closed_ends size small ps h)

pub open_parts : (scope : Scope) (size : ℕ) → 1 ≤ size → (ps : List PlacedPart) → count_of ps * size ≤ 2 ^ 32
    → Every (FitsIn true size) ps → Every (IsValidPart scope) ps
    → are_parts scope (count_of ps * size) (parts_in ps) ≡ true
open_parts scope size some ps small h valid =
    all_parts scope (count_of ps * size) ps valid (open_ends size (count_of ps) 0 some small ps h (omega arith))
