-- What `?:` gives, conditions and values of switches are valid where their operands are.
use Rattle.std.proofs.Common.{◌≡◌, ℕ, Bool, true, false, Option, Some, List, [], ◌∷◌, refl, ap, sym, ◌∙◌}
use Rattle.std.specs.Prelude.{◌||◌, ◌&&◌, if◌then◌else◌, Ok}
use Rattle.obj_memory.specs.Integers.{common_type, promoted}
use Rattle.c_tree.specs.declared.c_type.TypeWord.{TypeWord}
use Rattle.c_tree.specs.declared.c_type.TypeWord.TheVariants as word
use Rattle.c_tree.specs.declared.expression.Kind.{Kind}
use Rattle.c_tree.specs.declared.expression.Kind.TheVariants as kind
use Rattle.c_tree.specs.Extents.{TypeExtent}
use Rattle.c_tree.specs.Kinds.{integer, pointer, is_kind, is_promoted, is_scalar as is_scalar_kind}
use Rattle.c_tree.specs.Tree.{Expression, expression, convert, kind_of, line_of}
use Rattle.c_tree.specs.TypesAgree.{kind_of_type, same_words}
use Rattle.c_tree.specs.Valid.{Scope, is_valid}
use Rattle.c_rules.specs.declared.class.Class.{Class}
use Rattle.c_rules.specs.declared.class.Class.TheVariants as class
use Rattle.c_rules.specs.declared.row.Pair.{Pair}
use Rattle.c_faults.specs.declared.fault.Rule.TheVariants.{Operands, NoCondition}
use Rattle.c_faults.specs.Answer.{violates, ◌>>=◌}
use Rattle.c_rules.specs.Types.{class_of}
use Rattle.c_rules.specs.Values.{Value, converted}
use Rattle.c_rules.specs.Rows.{may_meet}
use Rattle.c_rules.specs.Unary.{is_scalar}
use Rattle.c_rules.specs.Binary.{pair_of}
use Rattle.c_rules.specs.Conversions.{is_structure_type, is_void_type, are_one_structure}
use Rattle.c_rules.specs.Fine.{IsFine, IfFine}
use Rattle.c_rules.proofs.TypeKinds.{HasKind, class_kind, promotes}
use Rattle.c_rules.proofs.SameTypes.{both_true, words_are}
use Rattle.c_rules.proofs.FineBinary.{all, Converts, integer_converts, from_integer, from_pointer}
use Rattle.c_rules.proofs.FineUnary.{same_kind, scalar_value}
use Rattle.c_condition_rules.specs.declared.choice.Meeting.{Meeting}
use Rattle.c_condition_rules.specs.declared.choice.Meeting.TheVariants as meeting
use Rattle.c_condition_rules.specs.Conditions.{pointers_meet, where_met, meeting_of, are_same, shape_of, meeting_in}
use Rattle.c_condition_rules.specs.Conditions.{chosen, conditional, condition, switched, switch_value}
use Rattle.c_condition_rules.specs.Controlling.{IfCondition, IfSwitchValue}

some_kind : (j k : Kind) → Some j ≡ Some k → j ≡ k
some_kind j k e = cc

void_kind : (structures : List (Option TypeExtent)) (ws : List TypeWord) → is_void_type ws ≡ true
    → kind_of_type structures ws ≡ Some kind.Void
void_kind structures [] e = absurd cc
void_kind structures (word.Void ∷ behind) e = refl
void_kind structures (w ∷ behind) e = absurd cc

-- operands of the same void or structure type have one kind
same_cases : (structures : List (Option TypeExtent)) (s t : List TypeWord) (b : Bool) → are_one_structure s t ≡ b
    → are_same s t ≡ true → kind_of_type structures s ≡ kind_of_type structures t
same_cases structures s t true e h =
    ap (kind_of_type structures) (words_are s t (both_true (is_structure_type s) (same_words s t) e).1)
same_cases structures s t false e h =
    let voids : (is_void_type s && is_void_type t) ≡ true =
    sym (ap (λ x. x || (is_void_type s && is_void_type t)) e) ∙ h in
    let both = both_true (is_void_type s) (is_void_type t) voids in
    void_kind structures s both.0 ∙ sym (void_kind structures t both.1)

stays : (scope : Scope) (k : Kind) (e : Expression) → kind_of e ≡ k → is_valid scope e ≡ true → Converts scope k e
stays scope k e h valid =
    let same : is_kind k (kind_of e) ≡ true = ap (is_kind k) h ∙ same_kind k in
    let kept : converted k e ≡ e = ap (λ c. if c then e else expression k (line_of e) (convert e)) same in
    record { valid = ap (is_valid scope) kept ∙ valid; kind = ap kind_of kept ∙ h }

module _ (scope : Scope) (structures : List (Option TypeExtent)) (line : ℕ) (c a b : Value)
    (fc : IsFine scope structures c) (fa : IsFine scope structures a) (fb : IsFine scope structures b)
    (tested : is_scalar_kind (kind_of c.tree) ≡ true) where
  -- what a meeting gives
  abbrev Met : Meeting → Type 0
  Met m = IfFine scope structures
      (shape_of m line a b >>= λ s. Ok (record { type = s.type; tree = chosen line s.kind c.tree a.tree b.tree }))

  chosen_fine : (k : Kind) (type : List TypeWord) → Converts scope k a.tree → Converts scope k b.tree
      → kind_of_type structures type ≡ Some k
      → IsFine scope structures (record { type = type; tree = chosen line k c.tree a.tree b.tree })
  chosen_fine k type ca cb e = record {
    valid = all (all (all (all (all fc.valid tested) ca.valid) cb.valid) (ap (is_kind k) ca.kind ∙ same_kind k))
        (ap (is_kind k) cb.kind ∙ same_kind k);
    kind = e;
    bare = refl;
  }

  met_as_left : Converts scope pointer a.tree → Converts scope pointer b.tree → kind_of a.tree ≡ pointer
      → Met meeting.AsLeft
  met_as_left ca cb e = chosen_fine pointer a.type ca cb (fa.kind ∙ ap Some e)

  met_as_right : Converts scope pointer a.tree → Converts scope pointer b.tree → kind_of b.tree ≡ pointer
      → Met meeting.AsRight
  met_as_right ca cb e = chosen_fine pointer b.type ca cb (fb.kind ∙ ap Some e)

  pointer_meetings : (same right_null left_null void : Bool) → Converts scope pointer a.tree
      → Converts scope pointer b.tree → kind_of a.tree ≡ pointer → kind_of b.tree ≡ pointer
      → Met (if same then meeting.SamePointee else if right_null then meeting.AsLeft
      else if left_null then meeting.AsRight else if void then meeting.ToVoid else meeting.NoMeeting)
  pointer_meetings true r l v ca cb ea eb = chosen_fine pointer _ ca cb refl
  pointer_meetings false true l v ca cb ea eb = met_as_left ca cb ea
  pointer_meetings false false true v ca cb ea eb = met_as_right ca cb eb
  pointer_meetings false false false true ca cb ea eb = chosen_fine pointer _ ca cb refl
  pointer_meetings false false false false ca cb ea eb = tt

  where_met_fine : (x : Bool) (m : Meeting) → (x ≡ true → Met m) → Met (where_met x m)
  where_met_fine true m h = h refl
  where_met_fine false m h = tt

  meetings : (p : Pair) (same : Bool) (s t : Class) → HasKind s (kind_of a.tree) → HasKind t (kind_of b.tree)
      → (same ≡ true → kind_of b.tree ≡ kind_of a.tree) → Met (meeting_of p same s t)
  meetings p same (class.Integer i) (class.Integer j) ha hb e =
      chosen_fine (integer (common_type i j)) _ (integer_converts scope structures (common_type i j) i a fa ha)
      (integer_converts scope structures (common_type i j) j b fb hb) refl
  meetings p same (class.Pointer s) (class.Pointer t) ha hb e =
      pointer_meetings p.same_pointee p.right_is_null p.left_is_null (may_meet false s t)
      (from_pointer scope structures a fa ha.0) (from_pointer scope structures b fb hb.0) ha.0 hb.0
  meetings p same (class.Pointer s) (class.Integer j) ha hb e =
      where_met_fine p.right_is_null meeting.AsLeft (λ x. met_as_left (from_pointer scope structures a fa ha.0)
      (from_integer scope structures j b fb hb) ha.0)
  meetings p same (class.Integer i) (class.Pointer t) ha hb e =
      where_met_fine p.left_is_null meeting.AsRight (λ x. met_as_right (from_integer scope structures i a fa ha)
      (from_pointer scope structures b fb hb.0) hb.0)
  meetings p same class.Other class.Other ha hb e =
      where_met_fine same meeting.AsTheyAre (λ x. chosen_fine (kind_of a.tree) a.type
      (stays scope (kind_of a.tree) a.tree refl fa.valid) (stays scope (kind_of a.tree) b.tree (e x) fb.valid) fa.kind)
  meetings p same _ _ ha hb e = tt

  pub met : Met (meeting_in structures a b)
  met = meetings (pair_of a b) (are_same a.type b.type) (class_of structures a.type) (class_of structures b.type)
      (class_kind structures a.type (kind_of a.tree) fa.kind) (class_kind structures b.type (kind_of b.tree) fb.kind)
      (λ e. some_kind (kind_of b.tree) (kind_of a.tree) (sym fb.kind
      ∙ sym (same_cases structures a.type b.type (are_one_structure a.type b.type) refl e) ∙ fa.kind))

module _ (scope : Scope) (structures : List (Option TypeExtent)) (line : ℕ) where
  where_tested : (x : Bool) (c a b : Value) → is_scalar (class_of structures c.type) ≡ x → IsFine scope structures c
      → IsFine scope structures a → IsFine scope structures b
      → IfFine scope structures
      ((if x then shape_of (meeting_in structures a b) line a b else violates Operands line) >>= λ s.
      Ok (record { type = s.type; tree = chosen line s.kind c.tree a.tree b.tree }))
  where_tested true c a b e fc fa fb = met scope structures line c a b fc fa fb (scalar_value scope structures c fc e)
  where_tested false c a b e fc fa fb = tt

  pub conditional_fine : (c a b : Value) → IsFine scope structures c → IsFine scope structures a
      → IsFine scope structures b → IfFine scope structures (conditional structures line c a b)
  unfolding conditional
  conditional_fine c a b fc fa fb = where_tested (is_scalar (class_of structures c.type)) c a b refl fc fa fb

  condition_cases : (x : Bool) (a : Value) → is_scalar (class_of structures a.type) ≡ x → IsFine scope structures a
      → IfCondition scope (if x then Ok a.tree else violates NoCondition line)
  condition_cases true a e fa = all fa.valid (scalar_value scope structures a fa e)
  condition_cases false a e fa = tt

  pub condition_fine : (a : Value) → IsFine scope structures a → IfCondition scope (condition structures line a)
  unfolding condition
  condition_fine a fa = condition_cases (is_scalar (class_of structures a.type)) a refl fa

  switch_cases : (c : Class) (a : Value) → HasKind c (kind_of a.tree) → IsFine scope structures a
      → IfSwitchValue scope structures (switched c line a)
  switch_cases (class.Integer t) a h fa =
      let v : Converts scope (integer (promoted t)) a.tree = integer_converts scope structures (promoted t) t a fa h in
      record { valid = all v.valid (ap is_promoted v.kind ∙ promotes t); kind = ap Some (sym v.kind) }
  switch_cases (class.Pointer to) a h fa = tt
  switch_cases class.Other a h fa = tt

  pub switch_fine : (a : Value) → IsFine scope structures a
      → IfSwitchValue scope structures (switch_value structures line a)
  unfolding switch_value
  switch_fine a fa = switch_cases (class_of structures a.type) a
      (class_kind structures a.type (kind_of a.tree) fa.kind) fa
