-- Address constants (C99 6.6 paragraph 9), and their values where static objects and functions stand.
use Rattle.std.specs.Prelude.{ℕ, ◌-◌, ◌*◌, ◌%◌, ◌^◌, List, Option, Some, None, option_map, slice_get}
use Rattle.obj_memory.specs.declared.value.Scalar.TheVariants.{Integer, Pointer}
use Rattle.obj_memory.specs.declared.value.Tag.TheVariants.{Untagged}
use Rattle.obj_memory.specs.declared.value.Value.{Value}
use Rattle.obj_memory.specs.Judgement.{moved, narrowed}
use Rattle.c_tree.specs.declared.expression.Kind.{Kind}
use Rattle.c_tree.specs.declared.expression.Kind.TheVariants as kind
use Rattle.c_tree.specs.declared.expression.OffsetForm.TheVariants.{PointerPlusIndex, IndexPlusPointer}
use Rattle.c_tree.specs.declared.expression.OffsetForm.TheVariants.{PointerMinusIndex}
use Rattle.c_tree.specs.Tree.{Expression, expression, Node, function, decay, address, parenthesized, deref_function}
use Rattle.c_tree.specs.Tree.{address_function, cast, convert, offset_by, Lvalue, lvalue, LvalueNode, static, deref}
use Rattle.c_tree.specs.Tree.{index, member, arrow, parenthesized_lvalue, kind_of}
use Rattle.c_const.specs.Integers.{constant_word}

-- pointers to the static objects and to the functions of a program, by number
pub record Pointers : Type 0 where
  pub statics : List Value
  pub functions : List Value

-- a value that points to nothing
abbrev pub untagged : (word : ℕ) → Value
untagged w = record { word = w; tag = Untagged }

-- a pointer moved forward or back by an index of elements of some bytes (6.5.6 paragraph 8)
abbrev pub forward : (size : ℕ) → (pointer : Option Value) → (index : Option ℕ) → Option Value
forward size None i = None
forward size (Some p) None = None
forward size (Some p) (Some i) = Some (moved (i * size) p)

abbrev pub back : (size : ℕ) → (pointer : Option Value) → (index : Option ℕ) → Option Value
back size None i = None
back size (Some p) None = None
back size (Some p) (Some i) = Some (moved (2 ^ 64 - (i * size) % 2 ^ 64) p)

-- a conversion to a pointer: of an integer constant, or of an address constant (6.3.2.3)
abbrev pub to_pointer : (to from : Kind) → (word : Option ℕ) → (pointer : Option Value) → Option Value
to_pointer (kind.Scalar Pointer) (kind.Scalar (Integer t)) word p = option_map untagged word
to_pointer (kind.Scalar Pointer) (kind.Scalar Pointer) word p = p
to_pointer _ _ word p = None

-- The pointer that an address constant gives: an integer constant expression as a pointer, a function's name or
-- address, `*` of an address constant where it designates a function, the address of an lvalue or an array that decays,
-- one of these plus or minus an integer constant expression, and parentheses or a conversion to a pointer around one.
-- What designates a function is converted to a pointer to it (6.3.2.1 paragraph 4), so `*` of a pointer to a function
-- gives that pointer again. There is none where an expression is no address constant.
abbrev mutual
  pub address_of : Pointers → Expression → Option Value
  address_of ps (expression kind line node) = node_address ps kind node

  pub node_address : Pointers → Kind → Node → Option Value
  node_address ps kind (function f) = slice_get ps.functions f
  node_address ps kind (decay p) = place_of ps p
  node_address ps kind (address p) = place_of ps p
  node_address ps kind (parenthesized e) = address_of ps e
  node_address ps kind (deref_function e) = address_of ps e
  node_address ps kind (address_function e) = designated ps e
  node_address ps kind (cast e) = to_pointer kind (kind_of e) (constant_word e) (address_of ps e)
  node_address ps kind (convert e) = to_pointer kind (kind_of e) (constant_word e) (address_of ps e)
  node_address ps kind (offset_by PointerPlusIndex size a b) = forward size (address_of ps a) (constant_word b)
  node_address ps kind (offset_by IndexPlusPointer size a b) = forward size (address_of ps b) (constant_word a)
  node_address ps kind (offset_by PointerMinusIndex size a b) = back size (address_of ps a) (constant_word b)
  node_address ps kind _ = None

  -- the function that an operand of `&` designates: its name, or `*` of an address constant (6.5.3.2 paragraph 3)
  pub designated : Pointers → Expression → Option Value
  designated ps (expression kind line node) = node_designated ps node

  pub node_designated : Pointers → Node → Option Value
  node_designated ps (function f) = slice_get ps.functions f
  node_designated ps (parenthesized e) = designated ps e
  node_designated ps (deref_function e) = address_of ps e
  node_designated ps _ = None

  -- the pointer to what an lvalue designates, where it is a static object or a part of one: the name of a static
  -- object,
  -- or `.m`, `[K]`, `*` or `->m` over such an lvalue or an address constant
  pub place_of : Pointers → Lvalue → Option Value
  place_of ps (lvalue kind line node) = node_place ps node

  pub node_place : Pointers → LvalueNode → Option Value
  node_place ps (static n) = slice_get ps.statics n
  node_place ps (deref e) = address_of ps e
  node_place ps (index PointerPlusIndex size a b) = forward size (address_of ps a) (constant_word b)
  node_place ps (index IndexPlusPointer size a b) = forward size (address_of ps b) (constant_word a)
  node_place ps (index PointerMinusIndex size a b) = back size (address_of ps a) (constant_word b)
  node_place ps (member p offset size) = option_map (narrowed offset size) (place_of ps p)
  node_place ps (arrow e offset size) = option_map (narrowed offset size) (address_of ps e)
  node_place ps (parenthesized_lvalue p) = place_of ps p
  node_place ps _ = None
