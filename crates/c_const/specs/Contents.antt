-- What a static object holds before a program runs (C99 6.7.8 paragraphs 4, 10 and 21).
use Rattle.std.specs.Prelude.{ℕ, ◌+◌, ◌/◌, ◌^◌, ◌&&◌, Bool, nat_le, if◌then◌else◌, List, [], ◌∷◌, replicate, set}
use Rattle.std.specs.Prelude.{Option, Some, None, option_map, Result, Ok, Err}
use Rattle.std.specs.List.{list_all}
use Rattle.byteorder.specs.Endian.{little_bytes}
use Rattle.obj_memory.specs.declared.value.Scalar.{Scalar}
use Rattle.obj_memory.specs.declared.value.Scalar.TheVariants.{Integer, Pointer}
use Rattle.obj_memory.specs.declared.value.Tag.{Tag}
use Rattle.obj_memory.specs.declared.value.Tag.TheVariants.{Untagged}
use Rattle.obj_memory.specs.declared.value.Value.{Value}
use Rattle.obj_memory.specs.Integers.{size_of}
use Rattle.obj_memory.specs.Access.{overwrite, is_aligned}
use Rattle.c_tree.specs.declared.expression.Kind.{Kind}
use Rattle.c_tree.specs.declared.expression.Kind.TheVariants as kind
use Rattle.c_tree.specs.Kinds.{size_of_kind}
use Rattle.c_tree.specs.Tree.{Expression, kind_of, line_of}
use Rattle.c_tree.specs.Statements.{Content, value_content, literal_content, Part}
use Rattle.c_tree.specs.Programs.{StaticObject}
use Rattle.c_tree.specs.ValidProgram.{content_size}
use Rattle.c_const.specs.Integers.{constant_word}
use Rattle.c_const.specs.Addresses.{Pointers, untagged, address_of}

-- the bytes of an object, and the tag of each of its whole words
pub record Contents : Type 0 where
  pub bytes : List ℕ
  pub tags : List Tag

abbrev pub zero_contents : (size : ℕ) → Contents
zero_contents size = record { bytes = replicate size 0; tags = replicate (size / 8) Untagged }

abbrev pub with_bytes : (offset : ℕ) → List ℕ → Contents → Contents
with_bytes offset new c = record { bytes = overwrite offset new c.bytes; tags = c.tags }

-- only a pointer at a multiple of 8 sets the tag of its word
abbrev pub with_tag : (offset : ℕ) → Tag → Contents → Contents
with_tag offset t c = if is_aligned offset then record { bytes = c.bytes; tags = set c.tags (offset / 8) t } else c

abbrev pub with_scalar : Scalar → (offset : ℕ) → Value → Contents → Contents
with_scalar (Integer t) offset v c = with_bytes offset (little_bytes (size_of t) v.word) c
with_scalar Pointer offset v c = with_tag offset v.tag (with_bytes offset (little_bytes 8 v.word) c)

-- the scalar of a value that an initializer stores, if it is one, and the value, if it is constant: an integer constant
-- expression or an address constant, and never a structure or union (6.7.8 paragraph 4)
abbrev pub constant_in : Pointers → Kind → Expression → Option (Scalar × Value)
constant_in ps (kind.Scalar (Integer t)) e = option_map (λ w. (Integer t, untagged w)) (constant_word e)
constant_in ps (kind.Scalar Pointer) e = option_map (λ v. (Pointer, v)) (address_of ps e)
constant_in ps kind.Void e = None
constant_in ps (kind.Structure size) e = None
constant_in ps (kind.Array size) e = None

-- the contents with a constant stored, or the line of an expression that is none
abbrev pub with_constant : (offset line : ℕ) → Option (Scalar × Value) → Contents → Result Contents ℕ
with_constant offset line None c = Err line
with_constant offset line (Some s) c = Ok (with_scalar s.0 offset s.1 c)

abbrev pub with_content : Pointers → (offset : ℕ) → Content → Contents → Result Contents ℕ
with_content ps offset (value_content e) c = with_constant offset (line_of e) (constant_in ps (kind_of e) e) c
with_content ps offset (literal_content bytes) c = Ok (with_bytes offset bytes c)

abbrev pub on_ok : Result Contents ℕ → (Contents → Result Contents ℕ) → Result Contents ℕ
on_ok (Ok c) next = next c
on_ok (Err line) next = Err line

-- the parts of an initializer are stored in their order, later ones over earlier ones
abbrev pub with_parts : Pointers → List Part → Contents → Result Contents ℕ
with_parts ps [] c = Ok c
with_parts ps (q ∷ qs) c = on_ok (with_content ps q.offset q.content c) (with_parts ps qs)

-- what a static object holds, or the line of the first expression of its initializer that is not constant
unfoldable pub initial_contents : Pointers → StaticObject → Result Contents ℕ
initial_contents ps o = with_parts ps o.parts (zero_contents (size_of_kind o.kind))

-- whether each part lies in an object of so many bytes
abbrev pub is_inside : (size : ℕ) → Part → Bool
is_inside size p = nat_le (p.offset + content_size p.content) size

abbrev pub are_inside : StaticObject → Bool
are_inside o = list_all (is_inside (size_of_kind o.kind)) o.parts

-- whether an object has at most 2^32 bytes, and each part of its initializer lies in it, as in a valid program
abbrev pub is_laid_out : StaticObject → Bool
is_laid_out o = nat_le (size_of_kind o.kind) (2 ^ 32) && are_inside o
