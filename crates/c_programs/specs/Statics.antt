-- The static objects of a program in the order of their numbers, as they are found in a file.
use Rattle.std.specs.Prelude.{ℕ, suc, true, false, List, [], ◌∷◌, ◌++◌, length, map, Option, Some, None, option_map}
use Rattle.c_tree.specs.declared.c_type.TypeWord.{TypeWord}
use Rattle.c_tree.specs.declared.expression.Kind.{Kind}
use Rattle.c_tree.specs.declared.expression.Kind.TheVariants as kind
use Rattle.c_tree.specs.declared.statement.Content.TheVariants as code_content
use Rattle.c_tree.specs.declared.statement.Part as code_part
use Rattle.c_tree.specs.Extents.{TypeExtent, extent_of}
use Rattle.c_tree.specs.Programs.{StaticObject}
use Rattle.c_tree.specs.Statements.{Part}
use Rattle.c_tree.specs.View.{part_of, static_of}
use Rattle.c_place_rules.specs.Targets.{object_kind}
use Rattle.c_scope.specs.declared.meaning.Designated.{Designated}
use Rattle.c_scope.specs.declared.meaning.Designated.TheVariants as what
use Rattle.c_scope.specs.declared.meaning.Entity.{Entity}
use Rattle.c_typing_state.specs.declared.typer.Literal as code_literal
use Rattle.c_operand_typing.specs.Primaries.{size_or_zero}
use Rattle.c_programs.specs.declared.state.LinkedInitializer as code_initializer
use Rattle.c_programs.specs.declared.state.LocalStatic as code_static
use Rattle.c_unit_typing.specs.Programs.{final_type, parts_of, with_number}
use Rattle.c_programs.specs.declared.statics.Found.{Found}
use Rattle.c_programs.specs.declared.statics.Found.TheVariants.{Whole, Linked}
use Rattle.c_programs.specs.Slots.{placed}

-- an object with linkage, of which each is defined
abbrev pub linked_object : Kind → List Part → StaticObject
linked_object k parts = record { kind = k; is_literal = false; function = None; parts = parts }

abbrev pub final_kind : List (Option TypeExtent) → List TypeWord → Kind
final_kind es type = object_kind (size_or_zero (extent_of es (final_type es type))) (final_type es type)

-- with a number, where these are the initializers
abbrev pub object_of : List (ℕ × List Part) → (number : ℕ) → Found → StaticObject
object_of is n (Whole o) = static_of o
object_of is n (Linked k) = linked_object k (parts_of n is)

abbrev pub found_or : Option StaticObject → List StaticObject → List StaticObject
found_or None others = others
found_or (Some o) others = o ∷ []

-- those from a number on: what is found, and else the first that is still to come
unfoldable pub filled : List (ℕ × List Part) → (number : ℕ) → List (Option Found) → List (ℕ × StaticObject)
    → List StaticObject
filled is n [] os = []
filled is n (s ∷ ss) os = found_or (option_map (object_of is n) s) (with_number n os) ++ filled is (suc n) ss os

-- objects with linkage among what has it

abbrev pub linked_by : List (Option TypeExtent) → List (ℕ × List Part) → List TypeWord → Designated
    → List (ℕ × StaticObject)
linked_by es is type (what.Object n) = (n, linked_object (final_kind es type) (parts_of n is)) ∷ []
linked_by es is type what = []

abbrev pub linked_among : List (Option TypeExtent) → List (ℕ × List Part) → List Entity → List (ℕ × StaticObject)
linked_among es is [] = []
linked_among es is (e ∷ entities) = linked_by es is e.c_type e.what ++ linked_among es is entities

-- What a file has, by numbers: a string literal, an object without linkage, the initializer of one with linkage.

abbrev pub found_literal : code_literal.Literal → ℕ × Found
found_literal l = (
  l.number,
  Whole (record {
    kind = kind.Array (length l.bytes.items);
    is_literal = true;
    function = l.function;
    parts = record { offset = 0; content = code_content.Literal l.bytes.items } ∷ [];
  }),
)

abbrev pub found_static : code_static.LocalStatic → ℕ × Found
found_static o = (o.number, Whole o.object)

abbrev pub found_initializer : code_initializer.LinkedInitializer → ℕ × List code_part.Part
found_initializer i = (i.number, i.parts)

-- what has linkage, one after the other

abbrev pub with_linked : List (Option TypeExtent) → List TypeWord → Designated → List (Option Found)
    → List (Option Found)
with_linked es type (what.Object n) ss = placed n (Linked (final_kind es type)) ss
with_linked es type what ss = ss

abbrev pub with_entity : List (Option TypeExtent) → Option Entity → List (Option Found) → List (Option Found)
with_entity es None ss = ss
with_entity es (Some e) ss = with_linked es e.c_type e.what ss

unfoldable pub with_entities : List (Option TypeExtent) → List Entity → List (Option Found) → List (Option Found)
with_entities es [] ss = ss
with_entities es (e ∷ entities) ss = with_entities es entities (with_linked es e.c_type e.what ss)

-- the parts of their initializers from a number on: those found, and else those of the first that is still to come

abbrev pub parts_or : Option (List code_part.Part) → List Part → List Part
parts_or None others = others
parts_or (Some parts) others = map part_of parts

unfoldable pub parts_filled : (number : ℕ) → List (Option (List code_part.Part)) → List (ℕ × List Part)
    → List (List Part)
parts_filled n [] is = []
parts_filled n (s ∷ ss) is = parts_or s (parts_of n is) ∷ parts_filled (suc n) ss is

-- the objects with their initializers, from the first number on

abbrev pub finished_one : Option Found → Option (List code_part.Part) → List StaticObject
finished_one None parts = []
finished_one (Some (Whole o)) parts = static_of o ∷ []
finished_one (Some (Linked k)) parts = linked_object k (parts_or parts []) ∷ []

unfoldable pub finished : List (Option Found) → List (Option (List code_part.Part)) → List StaticObject
finished [] ps = []
finished (s ∷ ss) [] = finished_one s None ++ finished ss []
finished (s ∷ ss) (p ∷ ps) = finished_one s p ++ finished ss ps
