-- The parts of an initializer: what it stores, in order (C99 6.7.8 paragraphs 19 and 22).
use Rattle.std.specs.Prelude.{ℕ, ◌+◌, max, Bool, true, false, not, ◌==◌, if◌then◌else◌, List, [], ◌∷◌, ◌++◌, filter}
use Rattle.std.specs.Prelude.{length, map}
use Rattle.c_tree.specs.Extents.{capped}
use Rattle.c_tree.specs.Statements.{Content, value_content, literal_content, Part}
use Rattle.c_tree.specs.View.{part_of}
use Rattle.c_current_object.specs.declared.subobject.Step.{Step}
use Rattle.c_current_object.specs.declared.subobject.Subobject.{Subobject}
use Rattle.c_initializer_rules.specs.declared.placed.PlacedPart as code

-- a part, and the steps that lead to the subobject that it is for
pub record PlacedPart : Type 0 where
  pub path : List Step
  pub part : Part

abbrev pub placed_of : code.PlacedPart → PlacedPart
placed_of p = record { path = p.path; part = part_of p.part }

-- whether an initializer overrides one before it: of the same subobject, of one that lies in it, or of another member
-- of one union (paragraph 19)
abbrev pub overrides : (now before : List Step) → Bool
overrides [] before = true
overrides (s ∷ now) [] = false
overrides (s ∷ now) (u ∷ before) = if s.number == u.number then overrides now before else s.is_union

-- the parts that an initializer of a subobject does not override
unfoldable pub without : List Step → List PlacedPart → List PlacedPart
without path parts = filter (λ p. not (overrides path p.path)) parts

abbrev pub placed : Subobject → Content → PlacedPart
placed o content = record { path = o.path; part = record { offset = o.offset; content = content } }

-- one more part, behind the others
abbrev pub with_part : Subobject → Content → List PlacedPart → List PlacedPart
with_part o content parts = without o.path parts ++ placed o content ∷ []

-- the number of elements of an array of unknown size, of which these are the parts: the greatest index and 1, or the
-- bytes of a literal (paragraph 22)

abbrev pub count_with : List Step → Content → ℕ
count_with [] (value_content e) = 0
count_with [] (literal_content bytes) = length bytes
count_with (s ∷ behind) content = capped (s.number + 1)

abbrev pub greatest : ℕ → List PlacedPart → ℕ
greatest n [] = n
greatest n (p ∷ ps) = greatest (max n (count_with p.path p.part.content)) ps

abbrev pub count_of : List PlacedPart → ℕ
count_of parts = greatest 0 parts

abbrev pub parts_in : List PlacedPart → List Part
parts_in parts = map (λ p. p.part) parts
