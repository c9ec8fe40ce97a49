-- No constant names a variable.
use Rattle.std.proofs.Common.{◌≡◌, ℕ, Bool, true, false, Some, Ok, List, [], ◌∷◌, refl, ap, ◌∙◌}
use Rattle.std.specs.Prelude.{◌&&◌, ◌||◌}
use Rattle.std.proofs.lemmas.Bool.{and_parts}
use Rattle.obj_memory.specs.declared.value.Scalar.{Scalar}
use Rattle.obj_memory.specs.declared.value.Scalar.TheVariants.{Integer, Pointer}
use Rattle.obj_memory.specs.declared.value.Value.{Value}
use Rattle.obj_memory.specs.Judgement.{narrowed}
use Rattle.c_tree.specs.declared.expression.Kind.{Kind}
use Rattle.c_tree.specs.declared.expression.Kind.TheVariants as kind
use Rattle.c_tree.specs.declared.expression.OffsetForm.TheVariants.{PointerPlusIndex, IndexPlusPointer}
use Rattle.c_tree.specs.declared.expression.OffsetForm.TheVariants.{PointerMinusIndex}
use Rattle.c_tree.specs.Kinds.{is_integer}
use Rattle.c_tree.specs.Tree.{Expression, expression, Node, constant, function, decay, address, parenthesized}
use Rattle.c_tree.specs.Tree.{deref_function, address_function, cast, convert, unary, binary, offset_by, logical_and}
use Rattle.c_tree.specs.Tree.{logical_or, conditional, Lvalue, lvalue, LvalueNode, static, deref, index, member, arrow}
use Rattle.c_tree.specs.Tree.{parenthesized_lvalue, kind_of, line_of}
use Rattle.c_tree.specs.Statements.{Content, value_content, literal_content, Part}
use Rattle.c_tree.specs.Walk.{any_of, walk_lvalue, walk_operands, walk_lvalue_operands, names_made, names_itself}
use Rattle.c_tree.specs.Walk.{names_variable, visited, visited_lvalue}
use Rattle.c_tree.specs.ValidProgram.{content_names_variable, name_variables}
use Rattle.c_const.specs.Integers.{has_form, node_has_form, constant_word}
use Rattle.c_const.specs.Addresses.{Pointers, untagged, to_pointer, address_of, node_address, designated}
use Rattle.c_const.specs.Addresses.{node_designated, place_of, node_place}
use Rattle.c_const.specs.Contents.{Contents, constant_in, with_content, with_parts}
use Rattle.source_meaning.proofs.Constants.Steps.{mapped}
use Rattle.source_meaning.proofs.Constants.Integers.{constant_is}
use Rattle.source_meaning.proofs.Constants.Addresses.{moves_forward, moves_back}
use Rattle.source_meaning.proofs.Constants.Storing.{is_then, is_stored}

-- tests that fail

neither : {a b : Bool} → a ≡ false → b ≡ false → (a || b) ≡ false
neither {b = b} p q = ap (λ c. c || b) p ∙ q

one : {a : Bool} → a ≡ false → any_of (a ∷ []) ≡ false
one p = neither p refl

two : {a b : Bool} → a ≡ false → b ≡ false → any_of (a ∷ b ∷ []) ≡ false
two p q = neither p (one q)

mutual
  form_unnamed : (e : Expression) → has_form e ≡ true → names_variable e ≡ false
  form_unnamed (expression k line n) f = node_unnamed k n (and_parts (is_integer k) (node_has_form n) f).1

  node_unnamed : (k : Kind) (n : Node) → node_has_form n ≡ true
      → (names_itself (visited k n) || any_of (walk_operands names_made n)) ≡ false
  node_unnamed k (constant w) f = refl
  node_unnamed k (parenthesized e) f = one (form_unnamed e f)
  node_unnamed k (cast e) f = one (form_unnamed e f)
  node_unnamed k (convert e) f = one (form_unnamed e f)
  node_unnamed k (unary op e) f = one (form_unnamed e f)
  node_unnamed k (binary op a b) f = let fs = and_parts (has_form a) (has_form b) f in two (form_unnamed a fs.0)
      (form_unnamed b fs.1)
  node_unnamed k (logical_and a b) f = let fs = and_parts (has_form a) (has_form b) f in two (form_unnamed a fs.0)
      (form_unnamed b fs.1)
  node_unnamed k (logical_or a b) f = let fs = and_parts (has_form a) (has_form b) f in two (form_unnamed a fs.0)
      (form_unnamed b fs.1)
  node_unnamed k (conditional c a b) f =
      let fs = and_parts (has_form c) (has_form a && has_form b) f in
      let gs = and_parts (has_form a) (has_form b) fs.1 in
      neither (form_unnamed c fs.0) (two (form_unnamed a gs.0) (form_unnamed b gs.1))
  node_unnamed k n f = absurd cc

constant_unnamed : (e : Expression) (w : ℕ) → constant_word e ≡ Some w → names_variable e ≡ false
constant_unnamed e w h = form_unnamed e (constant_is e w h).0

module _ (ps : Pointers) where
  converted_unnamed : (to from : Kind) (e : Expression) (v : Value)
      → ((x : Value) → address_of ps e ≡ Some x → names_variable e ≡ false)
      → to_pointer to from (constant_word e) (address_of ps e) ≡ Some v → names_variable e ≡ false
  converted_unnamed (kind.Scalar Pointer) (kind.Scalar (Integer t)) e v ih h =
      let m = mapped untagged (constant_word e) v h in constant_unnamed e m.from m.is_from
  converted_unnamed (kind.Scalar Pointer) (kind.Scalar Pointer) e v ih h = ih v h
  converted_unnamed _ _ e v ih h = absurd cc

  mutual
    address_unnamed : (e : Expression) (v : Value) → address_of ps e ≡ Some v → names_variable e ≡ false
    address_unnamed (expression k line n) v h = node_address_unnamed k n v h

    node_address_unnamed : (k : Kind) (n : Node) (v : Value) → node_address ps k n ≡ Some v
        → (names_itself (visited k n) || any_of (walk_operands names_made n)) ≡ false
    node_address_unnamed k (function f) v h = refl
    node_address_unnamed k (decay p) v h = one (place_unnamed p v h)
    node_address_unnamed k (address p) v h = one (place_unnamed p v h)
    node_address_unnamed k (parenthesized e) v h = one (address_unnamed e v h)
    node_address_unnamed k (deref_function e) v h = one (address_unnamed e v h)
    node_address_unnamed k (address_function e) v h = one (designated_unnamed e v h)
    node_address_unnamed k (cast e) v h = one (converted_unnamed k (kind_of e) e v (λ x g. address_unnamed e x g) h)
    node_address_unnamed k (convert e) v h = one (converted_unnamed k (kind_of e) e v (λ x g. address_unnamed e x g) h)
    node_address_unnamed k (offset_by PointerPlusIndex size a b) v h =
        let m = moves_forward size (address_of ps a) (constant_word b) v h in
        two (address_unnamed a m.pointer m.is_pointer) (constant_unnamed b m.index m.is_index)
    node_address_unnamed k (offset_by IndexPlusPointer size a b) v h =
        let m = moves_forward size (address_of ps b) (constant_word a) v h in
        two (constant_unnamed a m.index m.is_index) (address_unnamed b m.pointer m.is_pointer)
    node_address_unnamed k (offset_by PointerMinusIndex size a b) v h =
        let m = moves_back size (address_of ps a) (constant_word b) v h in
        two (address_unnamed a m.pointer m.is_pointer) (constant_unnamed b m.index m.is_index)
    node_address_unnamed k n v h = absurd cc

    designated_unnamed : (e : Expression) (v : Value) → designated ps e ≡ Some v → names_variable e ≡ false
    designated_unnamed (expression k line n) v h = node_designated_unnamed k n v h

    node_designated_unnamed : (k : Kind) (n : Node) (v : Value) → node_designated ps n ≡ Some v
        → (names_itself (visited k n) || any_of (walk_operands names_made n)) ≡ false
    node_designated_unnamed k (function f) v h = refl
    node_designated_unnamed k (parenthesized e) v h = one (designated_unnamed e v h)
    node_designated_unnamed k (deref_function e) v h = one (address_unnamed e v h)
    node_designated_unnamed k n v h = absurd cc

    place_unnamed : (p : Lvalue) (v : Value) → place_of ps p ≡ Some v → walk_lvalue names_made p ≡ false
    place_unnamed (lvalue k line n) v h = node_place_unnamed k n v h

    node_place_unnamed : (k : Kind) (n : LvalueNode) (v : Value) → node_place ps n ≡ Some v
        → (names_itself (visited_lvalue k n) || any_of (walk_lvalue_operands names_made n)) ≡ false
    node_place_unnamed k (static n) v h = refl
    node_place_unnamed k (deref e) v h = one (address_unnamed e v h)
    node_place_unnamed k (index PointerPlusIndex size a b) v h =
        let m = moves_forward size (address_of ps a) (constant_word b) v h in
        two (address_unnamed a m.pointer m.is_pointer) (constant_unnamed b m.index m.is_index)
    node_place_unnamed k (index IndexPlusPointer size a b) v h =
        let m = moves_forward size (address_of ps b) (constant_word a) v h in
        two (constant_unnamed a m.index m.is_index) (address_unnamed b m.pointer m.is_pointer)
    node_place_unnamed k (index PointerMinusIndex size a b) v h =
        let m = moves_back size (address_of ps a) (constant_word b) v h in
        two (address_unnamed a m.pointer m.is_pointer) (constant_unnamed b m.index m.is_index)
    node_place_unnamed k (member p offset size) v h =
        let m = mapped (narrowed offset size) (place_of ps p) v h in one (place_unnamed p m.from m.is_from)
    node_place_unnamed k (arrow e offset size) v h =
        let m = mapped (narrowed offset size) (address_of ps e) v h in one (address_unnamed e m.from m.is_from)
    node_place_unnamed k (parenthesized_lvalue p) v h = one (place_unnamed p v h)
    node_place_unnamed k n v h = absurd cc

  value_unnamed : (k : Kind) (e : Expression) (c : Scalar × Value) → constant_in ps k e ≡ Some c
      → names_variable e ≡ false
  value_unnamed (kind.Scalar (Integer t)) e c h =
      let m = mapped (λ w. let r : Scalar × Value = (Integer t, untagged w) in r) (constant_word e) c h in
      constant_unnamed e m.from m.is_from
  value_unnamed (kind.Scalar Pointer) e c h =
      let m = mapped (λ v. let r : Scalar × Value = (Pointer, v) in r) (address_of ps e) c h in address_unnamed e
      m.from m.is_from
  value_unnamed kind.Void e c h = absurd cc
  value_unnamed (kind.Structure size) e c h = absurd cc
  value_unnamed (kind.Array size) e c h = absurd cc

  content_unnamed : (offset : ℕ) (content : Content) (c d : Contents) → with_content ps offset content c ≡ Ok d
      → content_names_variable content ≡ false
  content_unnamed offset (value_content e) c d h =
      let i = is_stored offset (line_of e) (constant_in ps (kind_of e) e) c d h in value_unnamed (kind_of e) e
      i.constant i.is_constant
  content_unnamed offset (literal_content bytes) c d h = refl

  pub parts_unnamed : (qs : List Part) (c d : Contents) → with_parts ps qs c ≡ Ok d → name_variables qs ≡ false
  parts_unnamed [] c d h = refl
  parts_unnamed (q ∷ qs) c d h =
      let t = is_then (with_content ps q.offset q.content c) (with_parts ps qs) d h in
      neither (content_unnamed q.offset q.content c t.between t.is_between) (parts_unnamed qs t.between d t.rest)
