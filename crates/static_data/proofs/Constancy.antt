-- Whether an expression is constant does not depend on where objects and functions stand (C99 6.6).
use Rattle.std.proofs.Common.{◌≡◌, ℕ, zero, suc, ◌+◌, ◌<◌, refl, sym, ap, ◌∙◌, List, [], ◌∷◌, length, map, get_or}
use Rattle.std.proofs.Common.{Option, Some, None, arith}
use Rattle.std.specs.Prelude.{is_some, option_map, replicate, slice_get, Result, Ok, Err}
use Rattle.obj_memory.specs.declared.value.Scalar.{Scalar}
use Rattle.obj_memory.specs.declared.value.Scalar.TheVariants.{Integer, Pointer}
use Rattle.obj_memory.specs.declared.value.Value.{Value}
use Rattle.obj_memory.specs.Heap.{rounded_up}
use Rattle.obj_memory.specs.Judgement.{narrowed}
use Rattle.c_tree.specs.declared.expression.Kind.{Kind}
use Rattle.c_tree.specs.declared.expression.Kind.TheVariants as kind
use Rattle.c_tree.specs.declared.expression.OffsetForm.TheVariants.{PointerPlusIndex, IndexPlusPointer}
use Rattle.c_tree.specs.declared.expression.OffsetForm.TheVariants.{PointerMinusIndex}
use Rattle.c_tree.specs.declared.program.Program.{Program as CodeProgram}
use Rattle.c_tree.specs.declared.program.StaticObject.{StaticObject as CodeObject}
use Rattle.c_tree.specs.Kinds.{size_of_kind}
use Rattle.c_tree.specs.Programs.{Program, StaticObject}
use Rattle.c_tree.specs.Statements.{Content, Part, literal_content, value_content}
use Rattle.c_tree.specs.Tree.{Expression, expression, Node, function, decay, address, parenthesized, deref_function}
use Rattle.c_tree.specs.Tree.{address_function, cast, convert, offset_by, Lvalue, lvalue, LvalueNode, static, deref}
use Rattle.c_tree.specs.Tree.{index, member, arrow, parenthesized_lvalue, kind_of, line_of}
use Rattle.c_tree.specs.View.{program_of, static_of}
use Rattle.c_const.specs.Addresses.{Pointers, address_of, back, designated, forward, node_address, node_designated}
use Rattle.c_const.specs.Addresses.{node_place, place_of, to_pointer, untagged}
use Rattle.c_const.specs.Contents.{Contents, constant_in, initial_contents, on_ok, with_constant, with_content}
use Rattle.c_const.specs.Contents.{with_parts, zero_contents}
use Rattle.c_const.specs.Initializers.{any_pointers, content_fault, first_not_constant, line_unless, or_later}
use Rattle.c_const.specs.Initializers.{parts_fault, statics_fault}
use Rattle.c_const.specs.Integers.{constant_word}
use Rattle.static_data.specs.Data.{function_pointers, program_pointers, static_pointers}

-- what is looked up in lists of one length is there in both, or in none

found_alike : (xs ys : List Value) (n : ℕ) → length xs ≡ length ys
    → is_some (slice_get xs n) ≡ is_some (slice_get ys n)
found_alike [] [] n e = refl
found_alike [] (y ∷ ys) n e = absurd (omega (arith, e))
found_alike (x ∷ xs) [] n e = absurd (omega (arith, e))
found_alike (x ∷ xs) (y ∷ ys) zero e = refl
found_alike (x ∷ xs) (y ∷ ys) (suc n) e = found_alike xs ys n (omega (arith, e))

-- a pointer that is made of another is there where the other is

mapped_alike : (f : Value → Value) (a b : Option Value) → is_some a ≡ is_some b
    → is_some (option_map f a) ≡ is_some (option_map f b)
mapped_alike f None None e = refl
mapped_alike f None (Some y) e = absurd cc
mapped_alike f (Some x) None e = absurd cc
mapped_alike f (Some x) (Some y) e = refl

forward_alike : (size : ℕ) (a b : Option Value) (i : Option ℕ) → is_some a ≡ is_some b
    → is_some (forward size a i) ≡ is_some (forward size b i)
forward_alike size None None i e = refl
forward_alike size None (Some y) i e = absurd cc
forward_alike size (Some x) None i e = absurd cc
forward_alike size (Some x) (Some y) None e = refl
forward_alike size (Some x) (Some y) (Some i) e = refl

back_alike : (size : ℕ) (a b : Option Value) (i : Option ℕ) → is_some a ≡ is_some b
    → is_some (back size a i) ≡ is_some (back size b i)
back_alike size None None i e = refl
back_alike size None (Some y) i e = absurd cc
back_alike size (Some x) None i e = absurd cc
back_alike size (Some x) (Some y) None e = refl
back_alike size (Some x) (Some y) (Some i) e = refl

to_pointer_alike : (to from : Kind) (word : Option ℕ) (a b : Option Value) → is_some a ≡ is_some b
    → is_some (to_pointer to from word a) ≡ is_some (to_pointer to from word b)
to_pointer_alike (kind.Scalar Pointer) (kind.Scalar (Integer t)) word a b e = refl
to_pointer_alike (kind.Scalar Pointer) (kind.Scalar Pointer) word a b e = e
to_pointer_alike (kind.Scalar Pointer) kind.Void word a b e = refl
to_pointer_alike (kind.Scalar Pointer) (kind.Structure n) word a b e = refl
to_pointer_alike (kind.Scalar Pointer) (kind.Array n) word a b e = refl
to_pointer_alike (kind.Scalar (Integer s)) from word a b e = refl
to_pointer_alike kind.Void from word a b e = refl
to_pointer_alike (kind.Structure n) from word a b e = refl
to_pointer_alike (kind.Array n) from word a b e = refl

-- as many pointers to objects, and as many to functions
record AreAsMany (ps qs : Pointers) : Type 0 where
  statics : length ps.statics ≡ length qs.statics
  functions : length ps.functions ≡ length qs.functions

module _ (ps qs : Pointers) (many : AreAsMany ps qs) where
  mutual
    address_alike : (e : Expression) → is_some (address_of ps e) ≡ is_some (address_of qs e)
    address_alike (expression kind line node) = node_alike kind node

    node_alike : (k : Kind) (node : Node) → is_some (node_address ps k node) ≡ is_some (node_address qs k node)
    node_alike k (function f) = found_alike ps.functions qs.functions f many.functions
    node_alike k (decay p) = place_alike p
    node_alike k (address p) = place_alike p
    node_alike k (parenthesized e) = address_alike e
    node_alike k (deref_function e) = address_alike e
    node_alike k (address_function e) = designated_alike e
    node_alike k (cast e) =
        to_pointer_alike k (kind_of e) (constant_word e) (address_of ps e) (address_of qs e) (address_alike e)
    node_alike k (convert e) =
        to_pointer_alike k (kind_of e) (constant_word e) (address_of ps e) (address_of qs e) (address_alike e)
    node_alike k (offset_by PointerPlusIndex size a b) =
        forward_alike size (address_of ps a) (address_of qs a) (constant_word b) (address_alike a)
    node_alike k (offset_by IndexPlusPointer size a b) =
        forward_alike size (address_of ps b) (address_of qs b) (constant_word a) (address_alike b)
    node_alike k (offset_by PointerMinusIndex size a b) =
        back_alike size (address_of ps a) (address_of qs a) (constant_word b) (address_alike a)
    node_alike k _ = refl

    designated_alike : (e : Expression) → is_some (designated ps e) ≡ is_some (designated qs e)
    designated_alike (expression kind line node) = node_designated_alike node

    node_designated_alike : (node : Node) → is_some (node_designated ps node) ≡ is_some (node_designated qs node)
    node_designated_alike (function f) = found_alike ps.functions qs.functions f many.functions
    node_designated_alike (parenthesized e) = designated_alike e
    node_designated_alike (deref_function e) = address_alike e
    node_designated_alike _ = refl

    place_alike : (p : Lvalue) → is_some (place_of ps p) ≡ is_some (place_of qs p)
    place_alike (lvalue kind line node) = node_place_alike node

    node_place_alike : (node : LvalueNode) → is_some (node_place ps node) ≡ is_some (node_place qs node)
    node_place_alike (static n) = found_alike ps.statics qs.statics n many.statics
    node_place_alike (deref e) = address_alike e
    node_place_alike (index PointerPlusIndex size a b) =
        forward_alike size (address_of ps a) (address_of qs a) (constant_word b) (address_alike a)
    node_place_alike (index IndexPlusPointer size a b) =
        forward_alike size (address_of ps b) (address_of qs b) (constant_word a) (address_alike b)
    node_place_alike (index PointerMinusIndex size a b) =
        back_alike size (address_of ps a) (address_of qs a) (constant_word b) (address_alike a)
    node_place_alike (member p offset size) =
        mapped_alike (narrowed offset size) (place_of ps p) (place_of qs p) (place_alike p)
    node_place_alike (arrow e offset size) =
        mapped_alike (narrowed offset size) (address_of ps e) (address_of qs e) (address_alike e)
    node_place_alike (parenthesized_lvalue p) = place_alike p
    node_place_alike _ = refl

  -- so are the initializers of static objects

  constant_alike : (k : Kind) (e : Expression) → is_some (constant_in ps k e) ≡ is_some (constant_in qs k e)
  constant_alike (kind.Scalar (Integer t)) e = refl
  constant_alike (kind.Scalar Pointer) e = stored_alike (address_of ps e) (address_of qs e) (address_alike e)
    where
      stored_alike : (a b : Option Value) → is_some a ≡ is_some b
          → is_some {T = Scalar × Value} (option_map (λ v. (Pointer, v)) a)
          ≡ is_some {T = Scalar × Value} (option_map (λ v. (Pointer, v)) b)
      stored_alike None None e = refl
      stored_alike None (Some y) e = absurd cc
      stored_alike (Some x) None e = absurd cc
      stored_alike (Some x) (Some y) e = refl
  constant_alike kind.Void e = refl
  constant_alike (kind.Structure size) e = refl
  constant_alike (kind.Array size) e = refl

  content_alike : (c : Content) → content_fault ps c ≡ content_fault qs c
  content_alike (value_content e) = ap (λ b. line_unless b (line_of e)) (constant_alike (kind_of e) e)
  content_alike (literal_content bytes) = refl

  parts_alike : (parts : List Part) → parts_fault ps parts ≡ parts_fault qs parts
  parts_alike [] = refl
  parts_alike (p ∷ parts) =
      ap (λ z. or_later z (parts_fault ps parts)) (content_alike p.content)
      ∙ ap (or_later (content_fault qs p.content)) (parts_alike parts)

  statics_alike : (os : List StaticObject) → statics_fault ps os ≡ statics_fault qs os
  statics_alike [] = refl
  statics_alike (o ∷ os) =
      ap (λ z. or_later z (statics_fault ps os)) (parts_alike o.parts)
      ∙ ap (or_later (parts_fault qs o.parts)) (statics_alike os)

-- where the objects and functions of a program stand

many_replicated : (n : ℕ) (v : Value) → length (replicate n v) ≡ n
many_replicated zero v = refl
many_replicated (suc n) v = ap suc (many_replicated n v)

many_statics : (os : List StaticObject) (n offset : ℕ) → length (static_pointers os n offset) ≡ length os
many_statics [] n offset = refl
many_statics (o ∷ os) n offset = ap suc (many_statics os (suc n) (rounded_up 16 offset + size_of_kind o.kind))

many_functions : (first n : ℕ) → length (function_pointers first n) ≡ n
many_functions first zero = refl
many_functions first (suc n) = ap suc (many_functions (suc first) n)

constant_there : (p : Program) → first_not_constant p ≡ None → statics_fault (program_pointers p) p.statics ≡ None
unfolding first_not_constant
constant_there p none =
    statics_alike (program_pointers p) (any_pointers p) (record {
      statics = many_statics p.statics 0 0 ∙ sym (many_replicated (length p.statics) (untagged 0));
      functions = many_functions 0 (length p.functions) ∙ sym (many_replicated (length p.functions) (untagged 0));
    }) p.statics
    ∙ none

pub pointers_constant : (p : CodeProgram) (ps : Pointers) (objects : List CodeObject) → objects ≡ p.statics
    → ps ≡ program_pointers (program_of p) → first_not_constant (program_of p) ≡ None
    → statics_fault ps (map static_of objects) ≡ None
pointers_constant p ps objects eo ep none =
    ap (λ z. statics_fault ps (map static_of z)) eo ∙ ap (λ z. statics_fault z (map static_of p.statics)) ep
    ∙ constant_there (program_of p) none

-- what is constant is stored

first_none : (a b : Option ℕ) → or_later a b ≡ None → (a ≡ None) × (b ≡ None)
first_none None b e = (refl, e)
first_none (Some line) b e = absurd cc

pub object_constant : (ps : Pointers) (xs : List CodeObject) (i : ℕ) (x : CodeObject) → i < length xs
    → x ≡ get_or xs i x → statics_fault ps (map static_of xs) ≡ None → parts_fault ps (static_of x).parts ≡ None
object_constant ps [] i x lt e none = absurd (omega (arith, lt))
object_constant ps (y ∷ xs) zero x lt e none =
    ap (λ z. parts_fault ps (static_of z).parts) e
    ∙ (first_none (parts_fault ps (static_of y).parts) (statics_fault ps (map static_of xs)) none).0
object_constant ps (y ∷ xs) (suc i) x lt e none =
    object_constant ps xs i x (omega (arith, lt)) e
    (first_none (parts_fault ps (static_of y).parts) (statics_fault ps (map static_of xs)) none).1

content_stored : (ps : Pointers) (offset line : ℕ) (q : Content) (c : Contents) → content_fault ps q ≡ None
    → with_content ps offset q c ≡ Err line → ⊥
content_stored ps offset line (literal_content bytes) c none e = cc
content_stored ps offset line (value_content v) c none e = by (constant_in ps (kind_of v) v) none e
  where
    by : (o : Option (Scalar × Value)) → line_unless (is_some o) (line_of v) ≡ None
        → with_constant offset (line_of v) o c ≡ Err line → ⊥
    by None none e = cc
    by (Some s) none e = cc

parts_stored : (ps : Pointers) (line : ℕ) (qs : List Part) (c : Contents) → parts_fault ps qs ≡ None
    → with_parts ps qs c ≡ Err line → ⊥
parts_stored ps line [] c none e = cc
parts_stored ps line (q ∷ qs) c none e =
    let each = first_none (content_fault ps q.content) (parts_fault ps qs) none in
    by (with_content ps q.offset q.content c) (λ on h. content_stored ps q.offset on q.content c each.0 h)
    (λ d h. parts_stored ps line qs d each.1 h) e
  where
    by : (r : Result Contents ℕ) → ((on : ℕ) → r ≡ Err on → ⊥)
        → ((d : Contents) → with_parts ps qs d ≡ Err line → ⊥) → on_ok r (with_parts ps qs) ≡ Err line → ⊥
    by (Ok d) first later e = later d e
    by (Err on) first later e = first on refl

pub never_faulty : (ps : Pointers) (o : StaticObject) (line : ℕ) → parts_fault ps o.parts ≡ None
    → initial_contents ps o ≡ Err line → ⊥
unfolding initial_contents
never_faulty ps o line none e = parts_stored ps line o.parts (zero_contents (size_of_kind o.kind)) none e
