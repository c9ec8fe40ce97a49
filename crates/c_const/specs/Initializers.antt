-- Whether the initializers of static objects are constant (C99 6.7.8 paragraph 4), wherever these and the functions
-- stand.
use Rattle.std.specs.Prelude.{ℕ, Bool, true, if◌then◌else◌, List, [], ◌∷◌, length, replicate, Option, Some, None}
use Rattle.std.specs.Prelude.{is_some}
use Rattle.std.specs.List.{list_all}
use Rattle.c_tree.specs.Tree.{kind_of, line_of}
use Rattle.c_tree.specs.Statements.{Content, Part, literal_content, value_content}
use Rattle.c_tree.specs.Programs.{Program, StaticObject}
use Rattle.c_const.specs.Addresses.{Pointers, untagged}
use Rattle.c_const.specs.Contents.{constant_in}

abbrev pub any_pointers : Program → Pointers
any_pointers p = record {
  statics = replicate (length p.statics) (untagged 0);
  functions = replicate (length p.functions) (untagged 0);
}

abbrev pub is_constant : Pointers → Content → Bool
is_constant ps (value_content e) = is_some (constant_in ps (kind_of e) e)
is_constant ps (literal_content bytes) = true

abbrev pub has_constants : Pointers → StaticObject → Bool
has_constants ps o = list_all (λ p. is_constant ps p.content) o.parts

abbrev pub are_constant : Program → Bool
are_constant p = list_all (has_constants (any_pointers p)) p.statics

-- the line of the first expression that an initializer stores and that is not constant

abbrev pub line_unless : Bool → (line : ℕ) → Option ℕ
line_unless fine line = if fine then None else Some line

abbrev pub content_fault : Pointers → Content → Option ℕ
content_fault ps (value_content e) = line_unless (is_constant ps (value_content e)) (line_of e)
content_fault ps (literal_content bytes) = None

abbrev pub or_later : Option ℕ → Option ℕ → Option ℕ
or_later (Some line) later = Some line
or_later None later = later

abbrev pub parts_fault : Pointers → List Part → Option ℕ
parts_fault ps [] = None
parts_fault ps (p ∷ parts) = or_later (content_fault ps p.content) (parts_fault ps parts)

abbrev pub statics_fault : Pointers → List StaticObject → Option ℕ
statics_fault ps [] = None
statics_fault ps (o ∷ statics) = or_later (parts_fault ps o.parts) (statics_fault ps statics)

unfoldable pub first_not_constant : Program → Option ℕ
first_not_constant p = statics_fault (any_pointers p) p.statics
