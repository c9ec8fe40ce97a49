-- Address constants.
use Rattle.std.proofs.Common.{◌≡◌, ℕ, ◌*◌, ◌-◌, ◌%◌, ◌^◌, Option, Some, None, refl, sym, ◌⊎◌, inl, inr}
use Rattle.std.proofs.lemmas.Option.{same_Some}
use Rattle.obj_memory.specs.declared.value.Scalar.TheVariants.{Integer, Pointer}
use Rattle.obj_memory.specs.declared.value.Value.{Value}
use Rattle.obj_memory.specs.Objects.{pointer_to}
use Rattle.obj_memory.specs.Judgement.{moved, narrowed}
use Rattle.c_tree.specs.declared.expression.Kind.{Kind}
use Rattle.c_tree.specs.declared.expression.Kind.TheVariants as kind
use Rattle.c_tree.specs.declared.expression.OffsetForm.{OffsetForm}
use Rattle.c_tree.specs.declared.expression.OffsetForm.TheVariants.{PointerPlusIndex, IndexPlusPointer}
use Rattle.c_tree.specs.declared.expression.OffsetForm.TheVariants.{PointerMinusIndex}
use Rattle.c_tree.specs.Tree.{Expression, expression, Node, function, decay, address, parenthesized, deref_function}
use Rattle.c_tree.specs.Tree.{address_function, cast, convert, offset_by, Lvalue, lvalue, LvalueNode, static, deref}
use Rattle.c_tree.specs.Tree.{index, member, arrow, parenthesized_lvalue, kind_of}
use Rattle.c_const.specs.Integers.{constant_word}
use Rattle.c_const.specs.Addresses.{Pointers, untagged, forward, back, to_pointer, address_of, node_address, designated}
use Rattle.c_const.specs.Addresses.{node_designated, place_of, node_place as place_in}
use Rattle.source_meaning.specs.State.{Env, State, Rvalue, Run, ◌>>=◌}
use Rattle.source_meaning.specs.Actions.{integer, converted, offset_value}
use Rattle.source_meaning.specs.Structures.{give}
use Rattle.source_meaning.specs.Expressions.{evaluate, value, place, node_place, function_pointer}
use Rattle.source_meaning.specs.Acting.{at_work}
use Rattle.source_meaning.specs.Constants.Finding.{Finds, PointTo}
use Rattle.source_meaning.proofs.Constants.Steps.{finds_on, finds_counted, finds_give, finds_read, finds_same}
use Rattle.source_meaning.proofs.Constants.Steps.{finds_pointer}
use Rattle.source_meaning.proofs.Constants.Steps.{mapped}
use Rattle.source_meaning.proofs.Constants.Integers.{constant_finds}

-- a pointer and an index that are both known
pub record IsMoved (move : ℕ → Value → Value) (p : Option Value) (i : Option ℕ) (v : Value) : Type 0 where
  pub pointer : Value
  pub is_pointer : p ≡ Some pointer
  pub index : ℕ
  pub is_index : i ≡ Some index
  pub to : move index pointer ≡ v

pub moves_forward : (size : ℕ) (p : Option Value) (i : Option ℕ) (v : Value) → forward size p i ≡ Some v
    → IsMoved (λ k q. moved (k * size) q) p i v
moves_forward size None i v e = absurd cc
moves_forward size (Some p) None v e = absurd cc
moves_forward size (Some p) (Some i) v e =
    record { pointer = p; is_pointer = refl; index = i; is_index = refl; to = same_Some _ _ e }

pub moves_back : (size : ℕ) (p : Option Value) (i : Option ℕ) (v : Value) → back size p i ≡ Some v
    → IsMoved (λ k q. moved (2 ^ 64 - (k * size) % 2 ^ 64) q) p i v
moves_back size None i v e = absurd cc
moves_back size (Some p) None v e = absurd cc
moves_back size (Some p) (Some i) v e =
    record { pointer = p; is_pointer = refl; index = i; is_index = refl; to = same_Some _ _ e }

-- what is converted to a pointer: a constant's word or a pointer
record IsPointer (k : Kind) (w : Option ℕ) (p : Option Value) (v : Value) : Type 0 where
  from : Value
  is_from : ((n : ℕ) × (w ≡ Some n) × (integer n ≡ from)) ⊎ (p ≡ Some from)
  to : converted k from ≡ v

is_pointer : (to from : Kind) (w : Option ℕ) (p : Option Value) (v : Value) → to_pointer to from w p ≡ Some v
    → IsPointer to w p v
is_pointer (kind.Scalar Pointer) (kind.Scalar (Integer t)) w p v e =
    let m = mapped untagged w v e in record { from = v; is_from = inl (m.from, m.is_from, m.to); to = refl }
is_pointer (kind.Scalar Pointer) (kind.Scalar Pointer) w p v e = record { from = v; is_from = inr e; to = refl }
is_pointer _ _ w p v e = absurd cc

module _ (env : Env) (ps : Pointers) where
  -- what is known of an operand
  abbrev Found : State → Expression → Type 0
  Found s e = (v : Value) → address_of ps e ≡ Some v → Finds (evaluate env e) v s

  -- a conversion
  converts : (k : Kind) (e : Expression) (v : Value) (s : State) → Found s e
      → to_pointer k (kind_of e) (constant_word e) (address_of ps e) ≡ Some v
      → Finds (evaluate env e >>= (λ x. give (converted k x.value))) v s
  converts k e v s ih h =
      let p = is_pointer k (kind_of e) (constant_word e) (address_of ps e) v h in
      let found : Finds (evaluate env e) p.from s = elim p.is_from as (λ _. Finds (evaluate env e) p.from s) [
        | inl n ↦ finds_same n.2 (constant_finds env e n.0 s n.1)
        | inr q ↦ ih p.from q
      ] in
      finds_on _ found (finds_same p.to (finds_give (converted k p.from) _))

  -- a pointer and an index in the order of their form
  abbrev offset_run : OffsetForm → (size : ℕ) → (a b : Expression) → Run Rvalue
  offset_run form size a b = evaluate env a
      >>= (λ x. evaluate env b >>= (λ y. give (offset_value form size x.value y.value)))

  pointer_first : (size : ℕ) (a b : Expression) (v : Value) (s : State) → Found s a
      → forward size (address_of ps a) (constant_word b) ≡ Some v → Finds (offset_run PointerPlusIndex size a b) v s
  pointer_first size a b v s ih h =
      let m = moves_forward size (address_of ps a) (constant_word b) v h in
      finds_on _ (ih m.pointer m.is_pointer)
      (finds_on _ (constant_finds env b m.index _ m.is_index) (finds_same m.to (finds_give _ _)))

  pointer_second : (size : ℕ) (a b : Expression) (v : Value) (s : State) → ((k : ℕ) → Found (at_work k s) b)
      → forward size (address_of ps b) (constant_word a) ≡ Some v → Finds (offset_run IndexPlusPointer size a b) v s
  pointer_second size a b v s ih h =
      let m = moves_forward size (address_of ps b) (constant_word a) v h in
      let first = constant_finds env a m.index s m.is_index in
      finds_on _ first (finds_on _ (ih first.work m.pointer m.is_pointer) (finds_same m.to (finds_give _ _)))

  pointer_minus : (size : ℕ) (a b : Expression) (v : Value) (s : State) → Found s a
      → back size (address_of ps a) (constant_word b) ≡ Some v → Finds (offset_run PointerMinusIndex size a b) v s
  pointer_minus size a b v s ih h =
      let m = moves_back size (address_of ps a) (constant_word b) v h in
      finds_on _ (ih m.pointer m.is_pointer)
      (finds_on _ (constant_finds env b m.index _ m.is_index) (finds_same m.to (finds_give _ _)))

  mutual
    pub address_finds : (e : Expression) (v : Value) (s : State) → PointTo ps s.objects → address_of ps e ≡ Some v
        → Finds (evaluate env e) v s
    address_finds (expression k line n) v s t h = node_finds k line n v s t h

    node_finds : (k : Kind) (line : ℕ) (n : Node) (v : Value) (s : State) → PointTo ps s.objects
        → node_address ps k n ≡ Some v
        → Finds (value env n k line) v s
    node_finds k line (function f) v s t h = finds_counted
        (finds_same (sym (t.functions f v h)) (finds_give (function_pointer f) _))
    node_finds k line (decay p) v s t h = finds_pointer (place_finds p v s t h)
    node_finds k line (address p) v s t h = finds_counted (finds_pointer (place_finds p v _ t h))
    node_finds k line (parenthesized e) v s t h = finds_counted (address_finds e v _ t h)
    node_finds k line (deref_function e) v s t h = finds_counted (finds_pointer (address_finds e v _ t h))
    node_finds k line (address_function e) v s t h = finds_counted (finds_pointer (designated_finds e v _ t h))
    node_finds k line (cast e) v s t h = finds_counted (converts k e v _ (λ x g. address_finds e x _ t g) h)
    node_finds k line (convert e) v s t h = converts k e v s (λ x g. address_finds e x s t g) h
    node_finds k line (offset_by PointerPlusIndex size a b) v s t h =
        finds_counted (pointer_first size a b v _ (λ x g. address_finds a x _ t g) h)
    node_finds k line (offset_by IndexPlusPointer size a b) v s t h =
        finds_counted (pointer_second size a b v _ (λ k x g. address_finds b x _ t g) h)
    node_finds k line (offset_by PointerMinusIndex size a b) v s t h =
        finds_counted (pointer_minus size a b v _ (λ x g. address_finds a x _ t g) h)
    node_finds k line n v s t h = absurd cc

    designated_finds : (e : Expression) (v : Value) (s : State) → PointTo ps s.objects → designated ps e ≡ Some v
        → Finds (evaluate env e) v s
    designated_finds (expression k line n) v s t h = node_designated_finds k line n v s t h

    node_designated_finds : (k : Kind) (line : ℕ) (n : Node) (v : Value) (s : State) → PointTo ps s.objects
        → node_designated ps n ≡ Some v → Finds (value env n k line) v s
    node_designated_finds k line (function f) v s t h =
        finds_counted (finds_same (sym (t.functions f v h)) (finds_give (function_pointer f) _))
    node_designated_finds k line (parenthesized e) v s t h = finds_counted (designated_finds e v _ t h)
    node_designated_finds k line (deref_function e) v s t h = finds_counted (finds_pointer (address_finds e v _ t h))
    node_designated_finds k line n v s t h = absurd cc

    place_finds : (p : Lvalue) (v : Value) (s : State) → PointTo ps s.objects → place_of ps p ≡ Some v
        → Finds (place env p) v s
    place_finds (lvalue k line n) v s t h = node_place_finds n v s t h

    node_place_finds : (n : LvalueNode) (v : Value) (s : State) → PointTo ps s.objects → place_in ps n ≡ Some v
        → Finds (node_place env n) v s
    node_place_finds (static n) v s t h = finds_counted
        (finds_same (sym (t.statics n v h)) (finds_read (λ s. pointer_to n s.objects) _))
    node_place_finds (deref e) v s t h = finds_counted (finds_pointer (address_finds e v _ t h))
    node_place_finds (index PointerPlusIndex size a b) v s t h =
        finds_counted (pointer_first size a b v _ (λ x g. address_finds a x _ t g) h)
    node_place_finds (index IndexPlusPointer size a b) v s t h =
        finds_counted (pointer_second size a b v _ (λ k x g. address_finds b x _ t g) h)
    node_place_finds (index PointerMinusIndex size a b) v s t h =
        finds_counted (pointer_minus size a b v _ (λ x g. address_finds a x _ t g) h)
    node_place_finds (member p offset size) v s t h =
        let m = mapped (narrowed offset size) (place_of ps p) v h in
        finds_counted (finds_on _ (place_finds p m.from _ t m.is_from) (finds_same m.to (finds_give _ _)))
    node_place_finds (arrow e offset size) v s t h =
        let m = mapped (narrowed offset size) (address_of ps e) v h in
        finds_counted (finds_on _ (address_finds e m.from _ t m.is_from) (finds_same m.to (finds_give _ _)))
    node_place_finds (parenthesized_lvalue p) v s t h = finds_counted (place_finds p v _ t h)
    node_place_finds n v s t h = absurd cc
