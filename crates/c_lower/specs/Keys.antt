-- The key of a judged lvalue: what its pointer is over plain variables and the places of named objects.
use Rattle.std.specs.Prelude.{ℕ, ◌+◌, ◌-◌, ◌*◌, ◌%◌, ◌^◌, Bool, true, false, ◌||◌, List, [], ◌∷◌, Option, Some, None}
use Rattle.std.specs.Prelude.{slice_get}
use Rattle.obj_memory.specs.declared.value.Scalar.TheVariants.{Pointer}
use Rattle.c_tree.specs.declared.expression.Kind.TheVariants.{Scalar as OfScalar}
use Rattle.c_tree.specs.declared.expression.OffsetForm.TheVariants.{PointerPlusIndex, IndexPlusPointer}
use Rattle.c_tree.specs.declared.expression.OffsetForm.TheVariants.{PointerMinusIndex}
use Rattle.c_tree.specs.Tree.{Expression, expression, Lvalue, lvalue, Node, plain, decay, address, parenthesized, cast}
use Rattle.c_tree.specs.Tree.{convert, offset_by, LvalueNode, automatic, static, deref, index, member, arrow}
use Rattle.c_tree.specs.Tree.{member_of_value, parenthesized_lvalue}
use Rattle.c_tree.specs.Walk.{assigns}
use Rattle.c_const.specs.Integers.{constant_word}
use Rattle.source_meaning.specs.Expressions.{is_judged}
use Rattle.tac_ir.specs.declared.key.Base.{Base}
use Rattle.tac_ir.specs.declared.key.Base.TheVariants.{Plain, Automatic, Static}
use Rattle.tac_ir.specs.declared.key.Scaled.{Scaled}
use Rattle.tac_ir.specs.declared.key.Member.{Member}
use Rattle.tac_ir.specs.declared.key.Key.{Key}

-- a plain integer variable, in parentheses or not
abbrev mutual
  pub variable_of : Expression → Option ℕ
  variable_of (expression kind line node) = variable_node node

  pub variable_node : Node → Option ℕ
  variable_node (plain x) = Some x
  variable_node (parenthesized a) = variable_of a
  variable_node n = None

-- what is added to a pointer
pub data Index : Type 0 where
  OfConstant : (word : ℕ) → Index
  OfVariable : (variable : ℕ) → Index
  OfOther : Index

abbrev pub index_by : (constant variable : Option ℕ) → Index
index_by (Some w) x = OfConstant w
index_by None (Some x) = OfVariable x
index_by None None = OfOther

-- an integer constant expression (C99 6.6 paragraph 6), or the name of a plain variable
abbrev pub index_of : Expression → Index
index_of e = index_by (constant_word e) (variable_of e)

-- keys

abbrev pub base_key : Base → Option Key
base_key b = Some (record { base = b; path = []; constant = 0; scaled = None })

abbrev pub moved_key : (offset : ℕ) → Key → Key
moved_key offset key = record
    { base = key.base; path = key.path; constant = (key.constant + offset) % 2 ^ 64; scaled = key.scaled }

-- the name of a static object; a string literal is one without a name (C99 6.4.5)
abbrev pub named_key : (is_literal : Option Bool) → (number : ℕ) → Option Key
named_key (Some false) n = base_key (Static n)
named_key is_literal n = None

-- at most one scaled variable is added
abbrev pub scaled_key : Option Scaled → Key → (variable size : ℕ) → Option Key
scaled_key None key x size = Some
    (record {
      base = key.base;
      path = key.path;
      constant = key.constant;
      scaled = Some
          (record { variable = x; size = size });
    })
scaled_key (Some v) key x size = None

abbrev pub key_plus : Option Key → Index → (size : ℕ) → Option Key
key_plus None i size = None
key_plus (Some key) (OfConstant w) size = Some (moved_key (w * size) key)
key_plus (Some key) (OfVariable x) size = scaled_key key.scaled key x size
key_plus (Some key) OfOther size = None

abbrev pub key_minus : Option Key → Index → (size : ℕ) → Option Key
key_minus None i size = None
key_minus (Some key) (OfConstant w) size = Some (moved_key (2 ^ 64 - w * size % 2 ^ 64) key)
key_minus (Some key) (OfVariable x) size = None
key_minus (Some key) OfOther size = None

abbrev pub member_key : Option Key → (offset size : ℕ) → Option Key
member_key None offset size = None
member_key (Some key) offset size = Some (record {
  base = key.base;
  path = record { constant = (key.constant + offset) % 2 ^ 64; scaled = key.scaled; size = size } ∷ key.path;
  constant = (key.constant + offset) % 2 ^ 64;
  scaled = key.scaled;
})

-- Of each static object of the program it is told whether it is a string literal.
abbrev mutual
  -- of a pointer's value; casts of pointers and parentheses are passed through
  pub pointer_key : (literals : List Bool) → Expression → Option Key
  pointer_key ls (expression (OfScalar Pointer) line node) = node_key ls node
  pointer_key ls (expression kind line node) = None

  pub node_key : (literals : List Bool) → Node → Option Key
  node_key ls (plain x) = base_key (Plain x)
  node_key ls (decay p) = place_key ls p
  node_key ls (address p) = place_key ls p
  node_key ls (parenthesized a) = pointer_key ls a
  node_key ls (cast a) = pointer_key ls a
  node_key ls (convert a) = pointer_key ls a
  node_key ls (offset_by PointerPlusIndex size a b) = key_plus (pointer_key ls a) (index_of b) size
  node_key ls (offset_by IndexPlusPointer size a b) = key_plus (pointer_key ls b) (index_of a) size
  node_key ls (offset_by PointerMinusIndex size a b) = key_minus (pointer_key ls a) (index_of b) size
  node_key ls n = None

  -- of an lvalue
  pub place_key : (literals : List Bool) → Lvalue → Option Key
  place_key ls (lvalue kind line node) = lvalue_key ls node

  pub lvalue_key : (literals : List Bool) → LvalueNode → Option Key
  lvalue_key ls (automatic x) = base_key (Automatic x)
  lvalue_key ls (static n) = named_key (slice_get ls n) n
  lvalue_key ls (deref a) = pointer_key ls a
  lvalue_key ls (index PointerPlusIndex size a b) = key_plus (pointer_key ls a) (index_of b) size
  lvalue_key ls (index IndexPlusPointer size a b) = key_plus (pointer_key ls b) (index_of a) size
  lvalue_key ls (index PointerMinusIndex size a b) = key_minus (pointer_key ls a) (index_of b) size
  lvalue_key ls (member p offset size) = member_key (place_key ls p) offset size
  lvalue_key ls (arrow a offset size) = member_key (pointer_key ls a) offset size
  lvalue_key ls (member_of_value a offset size) = None
  lvalue_key ls (parenthesized_lvalue p) = place_key ls p

-- whether an expression assigns a plain variable of a key

abbrev pub assigns_base : Expression → Base → Bool
assigns_base a (Plain x) = assigns x a
assigns_base a (Automatic x) = false
assigns_base a (Static n) = false

abbrev pub assigns_scaled : Expression → Option Scaled → Bool
assigns_scaled a None = false
assigns_scaled a (Some v) = assigns v.variable a

abbrev pub assigns_path : Expression → List Member → Bool
assigns_path a [] = false
assigns_path a (m ∷ ms) = assigns_scaled a m.scaled || assigns_path a ms

abbrev pub assigns_key : Expression → Key → Bool
assigns_key a key = assigns_base a key.base || assigns_scaled a key.scaled || assigns_path a key.path

abbrev pub unless : Bool → Key → Option Key
unless true key = None
unless false key = Some key

-- the left side of an assignment is judged after the right side
abbrev pub key_after : Expression → Option Key → Option Key
key_after a None = None
key_after a (Some key) = unless (assigns_key a key) key

-- only an lvalue that is judged has a key
abbrev pub key_if : (is_judged : Bool) → Option Key → Option Key
key_if true key = key
key_if false key = None

abbrev pub read_key : (literals : List Bool) → Lvalue → Option Key
read_key ls p = key_if (is_judged p) (place_key ls p)

abbrev pub write_key : (literals : List Bool) → Lvalue → Expression → Option Key
write_key ls p a = key_if (is_judged p) (key_after a (place_key ls p))
