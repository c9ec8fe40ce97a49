-- What the operators on lvalues and functions give is valid where their operands are.
use Rattle.std.proofs.Common.{◌≡◌, ℕ, ◌+◌, Bool, true, false, Option, Some, None, List, [], ◌∷◌, refl, ap, sym}
use Rattle.std.proofs.Common.{◌∙◌, subst}
use Rattle.std.specs.Prelude.{not, nat_le, if◌then◌else◌, is_none, Ok}
use Rattle.std.proofs.lemmas.Bool.{eq-eqb}
use Rattle.c_tree.specs.declared.c_type.TypeWord.{TypeWord}
use Rattle.c_tree.specs.declared.c_type.TypeWord.TheVariants as word
use Rattle.c_tree.specs.declared.expression.Kind.{Kind}
use Rattle.c_tree.specs.declared.expression.Kind.TheVariants as kind
use Rattle.c_tree.specs.declared.expression.OffsetForm.TheVariants.{PointerPlusIndex, IndexPlusPointer}
use Rattle.c_tree.specs.Extents.{TypeExtent, extent_of, structure_extent}
use Rattle.c_tree.specs.Kinds.{integer, pointer, is_kind, is_size, is_array, is_value, size_of_kind, has_member}
use Rattle.c_tree.specs.Kinds.{are_offset}
use Rattle.c_tree.specs.Tree.{kind_of, lvalue_kind, lvalue_line, deref, LvalueNode}
use Rattle.c_tree.specs.TypesAgree.{kind_of_type, structure_kind}
use Rattle.c_tree.specs.Valid.{Scope, is_lvalue, is_valid_lvalue_node, is_member}
use Rattle.c_rules.specs.declared.class.Class.{Class}
use Rattle.c_rules.specs.declared.class.Class.TheVariants as class
use Rattle.c_rules.specs.declared.class.Target.{Target}
use Rattle.c_rules.specs.declared.class.Target.TheVariants as target
use Rattle.c_faults.specs.declared.fault.Rule.TheVariants.{ArrayOfValue, NoAddress}
use Rattle.c_faults.specs.Answer.{violates, ◌>>=◌}
use Rattle.c_rules.specs.Types.{class_of, object_of, target_of, unqualified}
use Rattle.c_rules.specs.Values.{Value}
use Rattle.c_rules.specs.Fine.{IsFine, IfFine}
use Rattle.c_rules.proofs.TypeKinds.{HasKind, HasSize, class_kind}
use Rattle.c_rules.proofs.FineBinary.{all}
use Rattle.c_rules.proofs.FineUnary.{same_kind}
use Rattle.c_rules.proofs.FineConversions.{unqualified_kind}
use Rattle.c_place_rules.specs.Targets.{pointee_of, object_kind, is_const, qualified}
use Rattle.c_place_rules.specs.Operands.{Place, Operand, a_value, a_place, a_variable, a_function, element_of}
use Rattle.c_place_rules.specs.Operands.{decayed_to, loaded_as, read_value, value_in, enclosed}
use Rattle.c_place_rules.specs.Places.{object_at, dereferenced, dereferenced_as, address, address_to, subscript}
use Rattle.c_place_rules.specs.Places.{element_as, element_at, indexed, Member, structure_of, type_in, selected}
use Rattle.c_place_rules.specs.Places.{member_of_value, member_of_place, member_behind, arrow, size_in, size_of}
use Rattle.c_place_laws.specs.FinePlaces.{IsFinePlace, IsFineOperand, IfFinePlace}
use Rattle.c_place_laws.specs.FinePlaces.{IfFineOperand, IsMemberOf, IsFound, IsFoundBehind, IsReadable, IsSized}
use Rattle.c_place_laws.specs.FinePlaces.{complete, unsized, is_incomplete_structure, is_unsized}
use Rattle.c_place_laws.proofs.Sizes.{Complete, complete as completes, target_size, kind_bytes, qualified_target}
use Rattle.c_place_laws.proofs.Sizes.{pointee_target, structure_kind_at, structure_target, structure_object, size_fits}

some_kind : (j k : Kind) → Some j ≡ Some k → k ≡ j
some_kind j k e = cc

some_extent : (e g : TypeExtent) → Some e ≡ Some g → e ≡ g
some_extent e g h = cc

none_or : {P : Type 0} (e : TypeExtent) (o : Option TypeExtent) → o ≡ Some e → is_none o ≡ true → P
none_or e None is n = absurd cc
none_or e (Some g) is n = absurd cc

never : {P : Type 0} (b : Bool) → b ≡ true → b ≡ false → P
never b e f = absurd cc

object_is : (e : TypeExtent) → is_size e.size ≡ true → object_of (Some e) ≡ target.Object e.size
object_is e h = ap (λ b. if b then target.Object e.size else target.Incomplete) h

same_size : (m n : ℕ) → target.Object m ≡ target.Object n → m ≡ n
same_size m n e = cc

-- a structure that is complete has its bytes where it is named
whole_bytes : (structures : List (Option TypeExtent)) (ws : List TypeWord) (n size : ℕ) (whole : TypeExtent)
    → structure_of ws ≡ Some n → structure_extent structures n ≡ Some whole → is_size whole.size ≡ true
    → IsSized structures ws size → whole.size ≡ size
whole_bytes structures ws n size whole e there object (complete s) =
    same_size whole.size size
    (sym (object_is whole object) ∙ ap object_of (sym there) ∙ sym (structure_target structures ws n e) ∙ s)
whole_bytes structures ws n size whole e there object (unsized u z) = unsized_whole ws e u
  where
    same_number : (m k : ℕ) → Some m ≡ Some k → m ≡ k
    same_number m k h = cc

    unsized_whole : (ws : List TypeWord) → structure_of ws ≡ Some n → is_unsized structures ws ≡ true
        → whole.size ≡ size
    unsized_whole [] e u = absurd cc
    unsized_whole (word.Structure m ∷ behind) e u =
        none_or whole (structure_extent structures m) (ap (structure_extent structures) (same_number m n e) ∙ there) u
    unsized_whole (word.Const ∷ behind) e u = unsized_whole behind e u
    unsized_whole (w ∷ behind) e u = absurd cc

module _ (scope : Scope) (structures : List (Option TypeExtent)) where
  -- values

  -- whether an array has an address
  decayed_cases : (b : Bool) (p : Place) → is_lvalue p.tree ≡ b → IsFinePlace scope structures p
      → is_array (lvalue_kind p.tree) ≡ true
      → IfFine scope structures ((if b then Ok (word.Pointer ∷ element_of p.type)
      else violates ArrayOfValue (lvalue_line p.tree)) >>= λ type. Ok (decayed_to type p.tree))
  decayed_cases true p e fp array =
      record { valid = all (all (all fp.valid e) array) refl; kind = refl; bare = refl }
  decayed_cases false p e fp array = tt

  read_fine : (p : Place) → IsFinePlace scope structures p
      → kind_of_type structures (unqualified p.type) ≡ Some (lvalue_kind p.tree) → is_value (lvalue_kind p.tree) ≡ true
      → IfFine scope structures (read_value p)
  read_fine p fp same value = record {
    valid = all (all fp.valid (same_kind (lvalue_kind p.tree))) value;
    kind = same;
    bare = refl;
  }

  read_structure : (p : Place) → IsFinePlace scope structures p → (m : ℕ) (behind : List TypeWord) (k : Kind)
      → lvalue_kind p.tree ≡ k → k ≡ kind.Structure (size_of_kind k)
      → kind_of_type structures (unqualified p.type) ≡ structure_kind (structure_extent structures m)
      → IsSized structures (word.Structure m ∷ behind) (size_of_kind k)
      → is_none (structure_extent structures m) ≡ false → IfFine scope structures (read_value p)
  unfolding extent_of
  read_structure p fp m behind k l e t (complete s) i =
      let c : Complete (structure_extent structures m) (size_of_kind k) =
      completes (structure_extent structures m) (size_of_kind k) s in
      let there : structure_kind (structure_extent structures m) ≡ Some (kind.Structure (size_of_kind k)) =
      ap structure_kind c.there ∙ ap (λ n. Some (kind.Structure n)) c.bytes in
      read_fine p fp (t ∙ there ∙ ap Some (sym (l ∙ e))) (ap is_value (l ∙ e))
  read_structure p fp m behind k l e t (unsized u z) i =
      never (is_none (structure_extent structures m)) u i

  -- by the words of its type
  loaded_cases : (p : Place) → IsFinePlace scope structures p → (ws : List TypeWord) (k : Kind)
      → lvalue_kind p.tree ≡ k
      → kind_of_type structures (unqualified p.type) ≡ kind_of_type structures ws
      → IsSized structures ws (size_of_kind k) → k ≡ object_kind (size_of_kind k) ws
      → is_incomplete_structure structures ws ≡ false → IfFine scope structures (loaded_as (unqualified ws) p)
  unfolding extent_of
  loaded_cases p fp [] k l t (complete s) e i = absurd cc
  loaded_cases p fp [] k l t (unsized u z) e i = absurd cc
  loaded_cases p fp (word.Void ∷ behind) k l t (complete s) e i = absurd cc
  loaded_cases p fp (word.Void ∷ behind) k l t (unsized u z) e i = absurd cc
  loaded_cases p fp (word.Integer z ∷ behind) k l t s e i =
      read_fine p fp (t ∙ ap Some (sym (l ∙ e))) (ap is_value (l ∙ e))
  loaded_cases p fp (word.Enumeration m ∷ behind) k l t s e i =
      read_fine p fp (t ∙ ap Some (sym (l ∙ e))) (ap is_value (l ∙ e))
  loaded_cases p fp (word.Pointer ∷ behind) k l t s e i =
      read_fine p fp (t ∙ ap Some (sym (l ∙ e))) (ap is_value (l ∙ e))
  loaded_cases p fp (word.Array count bytes ∷ behind) k l t s e i =
      decayed_cases (is_lvalue p.tree) p refl fp (ap is_array (l ∙ e))
  loaded_cases p fp (word.OpenArray ∷ behind) k l t s e i =
      decayed_cases (is_lvalue p.tree) p refl fp (ap is_array (l ∙ e))
  loaded_cases p fp (word.Structure m ∷ behind) k l t s e i = read_structure p fp m behind k l e t s i
  loaded_cases p fp (word.Const ∷ behind) k l t (complete s) e i = loaded_cases p fp behind k l t (complete s) e i
  loaded_cases p fp (word.Const ∷ behind) k l t (unsized u z) e i = loaded_cases p fp behind k l t (unsized u z) e i
  loaded_cases p fp (word.Takes ∷ behind) k l t (complete s) e i = absurd cc
  loaded_cases p fp (word.Takes ∷ behind) k l t (unsized u z) e i = absurd cc
  loaded_cases p fp (word.Gives ∷ behind) k l t (complete s) e i = absurd cc
  loaded_cases p fp (word.Gives ∷ behind) k l t (unsized u z) e i = absurd cc

  pub value_fine : (o : Operand) → IsFineOperand scope structures o → IsReadable structures o
      → IfFine scope structures (value_in o)
  value_fine (a_value v) fo r = fo
  value_fine (a_place p) fo r =
      loaded_cases p fo p.type (lvalue_kind p.tree) refl (unqualified_kind structures p.type) fo.sized fo.kind r
  value_fine (a_variable x) fo r = fo.value
  value_fine (a_function f) fo r = record { valid = fo.valid; kind = ap Some (sym fo.kind); bare = fo.bare }

  -- parentheses
  pub enclosed_fine : (line : ℕ) (o : Operand) → IsFineOperand scope structures o
      → IfFineOperand scope structures (enclosed line o)
  enclosed_fine line (a_value v) fo =
      record { valid = all fo.valid (same_kind (kind_of v.tree)); kind = fo.kind; bare = refl }
  enclosed_fine line (a_place p) fo =
      record { valid = all fo.valid (same_kind (lvalue_kind p.tree)); sized = fo.sized; kind = fo.kind }
  enclosed_fine line (a_variable x) fo = record {
    value = record {
      valid = all fo.value.valid (same_kind (kind_of x.tree));
      kind = fo.value.kind;
      bare = refl;
    };
    plain = fo.plain;
  }
  enclosed_fine line (a_function f) fo =
      record { valid = all fo.valid (same_kind (kind_of f.tree)); kind = fo.kind; bare = refl }

  -- an object of a complete type
  object_fine : (type : List TypeWord) (size line : ℕ) (node : LvalueNode)
      → target_of structures type ≡ target.Object size
      → is_valid_lvalue_node scope node (object_kind size type) ≡ true
      → IsFinePlace scope structures (object_at type size line node)
  object_fine type size line node sized valid =
      let bytes : size_of_kind (object_kind size type) ≡ size = kind_bytes structures type size sized in
      record {
        valid = valid;
        sized = complete (sized ∙ ap target.Object (sym bytes));
        kind = ap (λ n. object_kind n type) (sym bytes);
      }

  -- `*`
  dereferenced_cases : (line : ℕ) (a : Value) → IsFine scope structures a → (c : Class)
      → class_of structures a.type ≡ c → HasKind c (kind_of a.tree)
      → IfFineOperand scope structures (dereferenced_as line c a)
  dereferenced_cases line a fa (class.Integer t) e h = tt
  dereferenced_cases line a fa (class.Pointer (target.Object size)) e h =
      let type = pointee_of a.type in
      let sized : target_of structures type ≡ target.Object size = pointee_target structures a.type
      (target.Object size) e in
      object_fine type size line (deref a.tree) sized
      (all (all fa.valid (ap (λ k. is_kind k pointer) h.0))
      (ap is_size (kind_bytes structures type size sized) ∙ h.1))
  dereferenced_cases line a fa (class.Pointer target.Incomplete) e h = tt
  dereferenced_cases line a fa (class.Pointer target.Void) e h = tt
  dereferenced_cases line a fa (class.Pointer target.Function) e h = record {
    valid = all (all fa.valid (ap (λ k. is_kind k pointer) h.0)) refl;
    kind = refl;
    bare = refl;
  }
  dereferenced_cases line a fa class.Other e h = tt

  pub dereferenced_fine : (line : ℕ) (a : Value) → IsFine scope structures a
      → IfFineOperand scope structures (dereferenced structures line a)
  unfolding dereferenced
  dereferenced_fine line a fa = dereferenced_cases line a fa (class_of structures a.type) refl
      (class_kind structures a.type (kind_of a.tree) fa.kind)

  -- `&`
  address_cases : (b : Bool) (line : ℕ) (p : Place) → is_lvalue p.tree ≡ b → IsFinePlace scope structures p
      → IfFine scope structures ((if b then Ok (word.Pointer ∷ p.type) else violates NoAddress line)
      >>= λ type. Ok (address_to line type p.tree))
  address_cases true line p e fp = record { valid = all (all fp.valid e) refl; kind = refl; bare = refl }
  address_cases false line p e fp = tt

  pub address_fine : (line : ℕ) (o : Operand) → IsFineOperand scope structures o
      → IfFine scope structures (address line o)
  address_fine line (a_value v) fo = tt
  address_fine line (a_place p) fo = address_cases (is_lvalue p.tree) line p refl fo
  address_fine line (a_variable x) fo = tt
  address_fine line (a_function f) fo = record {
    valid = all (all fo.valid (ap (λ k. is_kind k pointer) fo.kind)) refl;
    kind = refl;
    bare = refl;
  }

  -- `[]`
  indexed_cases : (line : ℕ) (a b : Value) → IsFine scope structures a → IsFine scope structures b → (c d : Class)
      → class_of structures a.type ≡ c → class_of structures b.type ≡ d → HasKind c (kind_of a.tree)
      → HasKind d (kind_of b.tree)
      → IfFinePlace scope structures (element_as line (subscript c d) a b >>= λ e. Ok (element_at line a b e))
  indexed_cases line a b fa fb (class.Pointer (target.Object size)) (class.Integer k) ea eb ha hb =
      let P : Kind → Kind → Type 0 = λ x y. are_offset PointerPlusIndex x y ≡ true in
      let fits = subst (λ x. P x (kind_of b.tree)) (sym ha.0) (subst (P pointer) (sym hb) refl) in
      let type = pointee_of a.type in
      let sized : target_of structures type ≡ target.Object size = pointee_target structures a.type
      (target.Object size) ea in
      object_fine type size line _ sized
      (all (all (all (all (all (all fa.valid fb.valid) fits) (ap not fb.bare)) refl)
      (eq-eqb _ _ (kind_bytes structures type size sized))) ha.1)
  indexed_cases line a b fa fb (class.Integer k) (class.Pointer (target.Object size)) ea eb ha hb =
      let P : Kind → Kind → Type 0 = λ x y. are_offset IndexPlusPointer x y ≡ true in
      let fits = subst (λ x. P x (kind_of b.tree)) (sym ha) (subst (P (integer k)) (sym hb.0) refl) in
      let type = pointee_of b.type in
      let sized : target_of structures type ≡ target.Object size = pointee_target structures b.type
      (target.Object size) eb in
      object_fine type size line _ sized
      (all (all (all (all (all (all fa.valid fb.valid) fits) (ap not fa.bare)) refl)
      (eq-eqb _ _ (kind_bytes structures type size sized))) hb.1)
  indexed_cases line a b fa fb _ _ ea eb ha hb = tt

  pub indexed_fine : (line : ℕ) (a b : Value) → IsFine scope structures a → IsFine scope structures b
      → IfFinePlace scope structures (indexed structures line a b)
  unfolding indexed
  indexed_fine line a b fa fb =
      indexed_cases line a b fa fb (class_of structures a.type) (class_of structures b.type) refl refl
      (class_kind structures a.type (kind_of a.tree) fa.kind) (class_kind structures b.type (kind_of b.tree) fb.kind)

  -- `.`, `->`

  -- a member has its kind and its place
  member_node : (b : Bool) (n : ℕ) (m : Member) → IsMemberOf structures n m
      → is_member (object_kind m.size (qualified b m.type)) m.offset m.size ≡ true
  member_node b n m h =
      let sized : target_of structures (qualified b m.type) ≡ target.Object m.size =
      qualified_target structures b m.type ∙ h.sized in
      all (all (eq-eqb _ _ (kind_bytes structures (qualified b m.type) m.size sized))
      (target_size structures m.type m.size h.sized)) h.small

  of_value : (line n : ℕ) (m : Member) (v : Value) → IsFine scope structures v → IsMemberOf structures n m
      → (o : Option TypeExtent) → structure_extent structures n ≡ o → structure_kind o ≡ Some (kind_of v.tree)
      → IsFinePlace scope structures (member_of_value line m v)
  of_value line n m v fv h None e s = absurd cc
  of_value line n m v fv h (Some whole) e s =
      let lies : has_member (kind_of v.tree) m.offset m.size ≡ true =
      ap (λ k. has_member k m.offset m.size) (some_kind (kind.Structure whole.size) (kind_of v.tree) s)
      ∙ ap (λ x. nat_le (m.offset + m.size) x.size) (some_extent whole h.whole (sym e ∙ h.complete)) ∙ h.inside in
      object_fine m.type m.size line _ h.sized (all (all fv.valid lies) (member_node false n m h))

  of_place : (line n : ℕ) (m : Member) (p : Place) → IsFinePlace scope structures p → IsMemberOf structures n m
      → structure_of p.type ≡ Some n → IsFinePlace scope structures (member_of_place line m p)
  of_place line n m p fp h e =
      let size = size_of_kind (lvalue_kind p.tree) in
      let bytes : h.whole.size ≡ size =
      whole_bytes structures p.type n size h.whole e h.complete h.object fp.sized in
      let lies : has_member (lvalue_kind p.tree) m.offset m.size ≡ true =
      ap (λ k. has_member k m.offset m.size) (fp.kind ∙ structure_object p.type n size e)
      ∙ ap (nat_le (m.offset + m.size)) (sym bytes) ∙ h.inside in
      object_fine (qualified (is_const p.type) m.type) m.size line _
      (qualified_target structures (is_const p.type) m.type ∙ h.sized)
      (all (all fp.valid lies) (member_node (is_const p.type) n m h))

  selected_value : (line : ℕ) (m : Member) (v : Value) → IsFine scope structures v → (n : Option ℕ)
      → structure_of v.type ≡ n → IsFound structures n (Some m)
      → IsFinePlace scope structures (member_of_value line m v)
  selected_value line m v fv None e h = absurd cc
  selected_value line m v fv (Some n) e h =
      of_value line n m v fv h (structure_extent structures n) refl
      (sym (structure_kind_at structures v.type n e) ∙ fv.kind)

  selected_place : (line : ℕ) (m : Member) (p : Place) → IsFinePlace scope structures p → (n : Option ℕ)
      → structure_of p.type ≡ n → IsFound structures n (Some m)
      → IsFinePlace scope structures (member_of_place line m p)
  selected_place line m p fp None e h = absurd cc
  selected_place line m p fp (Some n) e h = of_place line n m p fp h e

  pub selected_fine : (line : ℕ) (found : Option Member) (o : Operand) → IsFineOperand scope structures o
      → IsFound structures (structure_of (type_in o)) found → IfFinePlace scope structures (selected line found o)
  selected_fine line None o fo h = tt
  selected_fine line (Some m) (a_value v) fo h = selected_value line m v fo (structure_of v.type) refl h
  selected_fine line (Some m) (a_place p) fo h = selected_place line m p fo (structure_of p.type) refl h
  selected_fine line (Some m) (a_variable x) fo h = tt
  selected_fine line (Some m) (a_function f) fo h = tt

  behind_cases : (line : ℕ) (m : Member) (a : Value) → IsFine scope structures a → kind_of a.tree ≡ pointer
      → (n : Option ℕ) → IsFound structures n (Some m) → IsFinePlace scope structures (member_behind line m a)
  behind_cases line m a fa k None h = absurd cc
  behind_cases line m a fa k (Some n) h =
      let const = is_const (pointee_of a.type) in
      object_fine (qualified const m.type) m.size line _ (qualified_target structures const m.type ∙ h.sized)
      (all (all fa.valid (ap (λ x. is_kind x pointer) k)) (member_node const n m h))

  pub arrow_fine : (line : ℕ) (found : Option Member) (a : Value) → IsFine scope structures a
      → IsFoundBehind structures a.type found → IfFinePlace scope structures (arrow line found a)
  arrow_fine line None a fa h = tt
  arrow_fine line (Some m) a fa h =
      behind_cases line m a fa (some_kind pointer (kind_of a.tree) (sym h.0 ∙ fa.kind))
      (structure_of (pointee_of a.type)) h.1

  -- `sizeof`
  size_cases : (line : ℕ) (t : Target) → HasSize t → IfFine scope structures (size_in line t)
  size_cases line (target.Object size) h = record { valid = size_fits size h; kind = refl; bare = refl }
  size_cases line target.Incomplete h = tt
  size_cases line target.Void h = tt
  size_cases line target.Function h = tt

  pub size_fine : (line : ℕ) (type : List TypeWord) → IfFine scope structures (size_of structures line type)
  unfolding size_of
  size_fine line type = size_cases line (target_of structures type)
      (class_kind structures (word.Pointer ∷ type) pointer refl).1
