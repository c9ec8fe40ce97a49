-- What `=`, the compound assignments, `++` and `--` give is valid where their operands are.
use Rattle.std.proofs.Common.{◌≡◌, ℕ, Bool, true, false, Option, Some, None, List, [], ◌∷◌, refl, ap, sym, ◌∙◌, subst}
use Rattle.std.specs.Prelude.{◌||◌, not, if◌then◌else◌, Ok, Err}
use Rattle.obj_memory.specs.declared.int_type.IntType.{IntType}
use Rattle.obj_memory.specs.declared.int_type.IntType.TheVariants.{Int}
use Rattle.obj_memory.specs.declared.operator.BinaryOperator.{BinaryOperator}
use Rattle.obj_memory.specs.declared.operator.BinaryOperator.TheVariants.{Add, Subtract, Multiply, Divide, Remainder}
use Rattle.obj_memory.specs.declared.operator.BinaryOperator.TheVariants.{ShiftLeft, ShiftRight, BitAnd, BitXor, BitOr}
use Rattle.obj_memory.specs.declared.operator.BinaryOperator.TheVariants.{Less, Greater, LessOrEqual, GreaterOrEqual}
use Rattle.obj_memory.specs.declared.operator.BinaryOperator.TheVariants.{Equal, NotEqual}
use Rattle.obj_memory.specs.Integers.{common_type, promoted}
use Rattle.c_tree.specs.declared.c_type.TypeWord.{TypeWord}
use Rattle.c_tree.specs.declared.c_type.TypeWord.TheVariants as word
use Rattle.c_tree.specs.declared.expression.Kind.{Kind}
use Rattle.c_tree.specs.declared.expression.Kind.TheVariants as kind
use Rattle.c_tree.specs.declared.expression.Fixity.{Fixity}
use Rattle.c_tree.specs.declared.expression.Update.TheVariants as update
use Rattle.c_tree.specs.Extents.{TypeExtent, extent_of, structure_extent}
use Rattle.c_tree.specs.Kinds.{integer, pointer, is_kind, is_size, is_integer, is_promoted, is_promoted_type, is_value}
use Rattle.c_tree.specs.Kinds.{size_of_kind, Arithmetic, Shift, class_of}
use Rattle.c_tree.specs.Tree.{Expression, kind_of, lvalue_kind}
use Rattle.c_tree.specs.TypesAgree.{kind_of_type, structure_kind}
use Rattle.c_tree.specs.Valid.{Scope, is_valid, is_lvalue, is_plain, is_update, is_right_of, is_step}
use Rattle.c_rules.specs.declared.class.Class.{Class}
use Rattle.c_rules.specs.declared.class.Class.TheVariants as class
use Rattle.c_rules.specs.declared.class.Target.TheVariants as target
use Rattle.c_faults.specs.declared.fault.Rule.TheVariants as rule
use Rattle.c_rules.specs.declared.row.Row.TheVariants as row
use Rattle.c_faults.specs.Answer.{Answer, ◌>>=◌}
use Rattle.c_rules.specs.Types.{class_of as class_of_type, target_of, unqualified}
use Rattle.c_rules.specs.Values.{Value, converted}
use Rattle.c_rules.specs.Rows.{row_of, sum_row, difference_row, integer_row, shift_row, comparison_row, may_meet}
use Rattle.c_rules.specs.Conversions.{assigned}
use Rattle.c_rules.specs.Fine.{IsFine, IfFine, IfFineAs}
use Rattle.c_rules.proofs.TypeKinds.{HasKind, class_kind, same_number, common_promoted, promotes}
use Rattle.c_rules.proofs.FineBinary.{all, Converts, integer_converts}
use Rattle.c_rules.proofs.FineUnary.{same_kind}
use Rattle.c_rules.proofs.FineConversions.{unqualified_kind, assigned_fine}
use Rattle.c_place_rules.specs.Targets.{object_kind}
use Rattle.c_place_rules.specs.Operands.{Place, Variable, Operand, a_value, a_place, a_variable, a_function}
use Rattle.c_place_laws.specs.FinePlaces.{IsEarlierPlace, IsFineVariable, IsEarlierOperand, WasSized, complete_as}
use Rattle.c_place_laws.specs.FinePlaces.{is_unsized_kind, unsized_as}
use Rattle.c_place_laws.proofs.Sizes.{Complete, complete}
use Rattle.c_assignment_rules.specs.declared.operators.Change.{Change}
use Rattle.c_assignment_rules.specs.declared.operators.StepOperator.{StepOperator}
use Rattle.c_assignment_rules.specs.declared.operators.StepOperator.TheVariants.{Increment, Decrement}
use Rattle.c_assignment_rules.specs.Assignable.{has_const, is_array_type, is_unsized_structure, lowest, where_none}
use Rattle.c_assignment_rules.specs.Assignable.{assignable}
use Rattle.c_assignment_rules.specs.Writing.{Writing, set, change, step_by, written}
use Rattle.c_assignment_rules.specs.Assignments.{assignment, no_pair, change_of, change_between, converted_if}
use Rattle.c_assignment_rules.specs.Assignments.{change_to, compound, operator_of, step_to, stepped}

some_kind : (j k : Kind) → Some j ≡ Some k → j ≡ k
some_kind j k e = cc

-- the object of a type that is no array holds a value of that type
record Holds (structures : List (Option TypeExtent)) (type : List TypeWord) (k : Kind) : Type 0 where
  kind : kind_of_type structures type ≡ Some k
  value : is_value k ≡ true

holds_complete : (structures : List (Option TypeExtent)) (ws : List TypeWord) (k : Kind) → is_array_type ws ≡ false
    → target_of structures ws ≡ target.Object (size_of_kind k) → k ≡ object_kind (size_of_kind k) ws
    → Holds structures ws k
unfolding extent_of
holds_complete structures [] k a s e = absurd cc
holds_complete structures (word.Void ∷ behind) k a s e = absurd cc
holds_complete structures (word.Integer t ∷ behind) k a s e = record { kind = ap Some (sym e); value = ap is_value e }
holds_complete structures (word.Enumeration m ∷ behind) k a s e =
    record { kind = ap Some (sym e); value = ap is_value e }
holds_complete structures (word.Pointer ∷ behind) k a s e = record { kind = ap Some (sym e); value = ap is_value e }
holds_complete structures (word.Array count bytes ∷ behind) k a s e = absurd cc
holds_complete structures (word.OpenArray ∷ behind) k a s e = absurd cc
holds_complete structures (word.Structure m ∷ behind) k a s e =
    let c : Complete (structure_extent structures m) (size_of_kind k) =
    complete (structure_extent structures m) (size_of_kind k) s in
    let there : structure_kind (structure_extent structures m) ≡ Some (kind.Structure (size_of_kind k)) =
    ap structure_kind c.there ∙ ap (λ n. Some (kind.Structure n)) c.bytes in
    record { kind = there ∙ ap Some (sym e); value = ap is_value e }
holds_complete structures (word.Const ∷ behind) k a s e =
    let h : Holds structures behind k = holds_complete structures behind k a s e in
    record { kind = h.kind; value = h.value }
holds_complete structures (word.Takes ∷ behind) k a s e = absurd cc
holds_complete structures (word.Gives ∷ behind) k a s e = absurd cc

-- what is no array, and counts bytes if it is a structure, has a size where it is named
never_unsized : {P : Type 0} (ws : List TypeWord) (k : Kind) (n : ℕ) → k ≡ object_kind n ws → is_array_type ws ≡ false
    → is_unsized_structure k ≡ false → is_unsized_kind k ≡ true → P
never_unsized [] k n e a i u = absurd cc
never_unsized (word.Void ∷ behind) k n e a i u = absurd cc
never_unsized (word.Integer t ∷ behind) k n e a i u = absurd cc
never_unsized (word.Enumeration m ∷ behind) k n e a i u = absurd cc
never_unsized (word.Pointer ∷ behind) k n e a i u = absurd cc
never_unsized (word.Array count bytes ∷ behind) k n e a i u = absurd cc
never_unsized (word.OpenArray ∷ behind) k n e a i u = absurd cc
never_unsized (word.Structure m ∷ behind) k n e a i u = absurd cc
never_unsized (word.Const ∷ behind) k n e a i u = never_unsized behind k n e a i u
never_unsized (word.Takes ∷ behind) k n e a i u = absurd cc
never_unsized (word.Gives ∷ behind) k n e a i u = absurd cc

holds_cases : (structures : List (Option TypeExtent)) (ws : List TypeWord) (k : Kind) → is_array_type ws ≡ false
    → is_unsized_structure k ≡ false → WasSized structures ws k → k ≡ object_kind (size_of_kind k) ws
    → Holds structures ws k
holds_cases structures ws k a i (complete_as s) e = holds_complete structures ws k a s e
holds_cases structures ws k a i (unsized_as u) e = never_unsized ws k (size_of_kind k) e a i u

module _ (scope : Scope) (structures : List (Option TypeExtent)) where
  -- what may be written is an lvalue and no array, or a variable

  place_cases : (incomplete reached array const : Bool) (line : ℕ) (o : Operand) (next : Operand → Answer Value)
      → (incomplete ≡ false → reached ≡ true → array ≡ false → IfFine scope structures (next o))
      → IfFine scope structures (where_none
      (lowest ((rule.Incomplete, incomplete) ∷ (rule.NotAssignable, not reached || (array || const)) ∷ [])) line o
      >>= next)
  place_cases true reached array const line o next h = tt
  place_cases false false array const line o next h = tt
  place_cases false true true const line o next h = tt
  place_cases false true false true line o next h = tt
  place_cases false true false false line o next h = h refl refl refl

  variable_cases : (const : Bool) (line : ℕ) (o : Operand) (next : Operand → Answer Value)
      → IfFine scope structures (next o)
      → IfFine scope structures (where_none (lowest ((rule.NotAssignable, const) ∷ [])) line o >>= next)
  variable_cases true line o next h = tt
  variable_cases false line o next h = h

  assignable_fine : (with_const : List Bool) (line : ℕ) (o : Operand) (next : Operand → Answer Value)
      → IsEarlierOperand scope structures o
      → ((p : Place) → IsEarlierPlace scope structures p → is_lvalue p.tree ≡ true
      → Holds structures p.type (lvalue_kind p.tree) → IfFine scope structures (next (a_place p)))
      → ((x : Variable) → IsFineVariable scope structures x → IfFine scope structures (next (a_variable x)))
      → IfFine scope structures (assignable with_const line o >>= next)
  assignable_fine with_const line (a_value v) next fo hp hx = tt
  assignable_fine with_const line (a_place p) next fo hp hx =
      place_cases (is_unsized_structure (lvalue_kind p.tree)) (is_lvalue p.tree) (is_array_type p.type)
      (has_const with_const p.type) line (a_place p) next
      (λ i l a. hp p fo l (holds_cases structures p.type (lvalue_kind p.tree) a i fo.sized fo.kind))
  assignable_fine with_const line (a_variable x) next fo hp hx =
      variable_cases (has_const with_const x.type) line (a_variable x) next (hx x fo)
  assignable_fine with_const line (a_function f) next fo hp hx = tt

  variable_kind : (x : Variable) → IsFineVariable scope structures x
      → kind_of_type structures x.type ≡ Some (kind_of x.tree)
  variable_kind x fx = sym (unqualified_kind structures x.type) ∙ fx.value.kind

  -- `=`

  set_place : (line : ℕ) (p : Place) → IsEarlierPlace scope structures p → is_lvalue p.tree ≡ true
      → Holds structures p.type (lvalue_kind p.tree) → (r : Answer Expression) → IfFineAs scope structures p.type r
      → IfFine scope structures (r >>= λ e. written line (a_place p) (set e))
  set_place line p fp l h (Ok e) fe =
      let k = lvalue_kind p.tree in
      let same : kind_of e ≡ k = some_kind (kind_of e) k (sym fe.kind ∙ h.kind) in
      record {
        valid = all (all (all (all (all fp.valid l) fe.valid) (ap (is_kind k) same ∙ same_kind k)) (same_kind k))
            h.value;
        kind = unqualified_kind structures p.type ∙ h.kind;
        bare = refl;
      }
  set_place line p fp l h (Err f) fe = tt

  set_variable : (line : ℕ) (x : Variable) → IsFineVariable scope structures x → (r : Answer Expression)
      → IfFineAs scope structures x.type r → IfFine scope structures (r >>= λ e. written line (a_variable x) (set e))
  set_variable line x fx (Ok e) fe =
      let k = kind_of x.tree in
      let same : kind_of e ≡ k = some_kind (kind_of e) k (sym fe.kind ∙ variable_kind x fx) in
      record {
        valid = all (all fe.valid (ap (is_plain scope x.name.variable) same ∙ fx.plain))
            (ap (is_kind k) same ∙ same_kind k);
        kind = fx.value.kind;
        bare = refl;
      }
  set_variable line x fx (Err f) fe = tt

  pub assignment_fine : (with_const : List Bool) (line : ℕ) (o : Operand) (a : Value)
      → IsEarlierOperand scope structures o → IsFine scope structures a
      → IfFine scope structures (assignment structures with_const line o a)
  unfolding assignment
  assignment_fine with_const line o a fo fa =
      assignable_fine with_const line o _ fo
      (λ p fp l h. set_place line p fp l h (assigned structures line p.type a)
      (assigned_fine scope structures line p.type a fa))
      (λ x fx. set_variable line x fx (assigned structures line x.type a)
      (assigned_fine scope structures line x.type a fa))

  -- an update fits what is updated and its right operand

  abbrev Fits : Kind → Value → Option Change → Type 0
  Fits k a None = Unit {0}
  Fits k a (Some c) = (is_valid scope (converted_if c.operand a.tree) ≡ true)
      × (is_update c.update k (kind_of (converted_if c.operand a.tree)) ≡ true)

  module _ (k : Kind) (a : Value) (fa : IsFine scope structures a) where
    arithmetic_fits : (op : BinaryOperator) → class_of op ≡ Arithmetic → (i j : IntType) → k ≡ integer i
        → kind_of a.tree ≡ integer j → Fits k a (change_of op (row.Arithmetic (common_type i j)))
    arithmetic_fits op c i j hk ha =
        let t = common_type i j in
        let v : Converts scope (integer t) a.tree = integer_converts scope structures t j a fa ha in (
          v.valid,
          all (all (ap is_integer hk) (common_promoted i j))
              (ap (λ x. is_right_of x t (kind_of (converted (integer t) a.tree))) c
              ∙ ap (λ x. is_kind x (integer t)) v.kind ∙ same_number t),
        )

    shift_fits : (op : BinaryOperator) → class_of op ≡ Shift → (i j : IntType) → k ≡ integer i
        → kind_of a.tree ≡ integer j → Fits k a (change_of op (row.Shift (promoted i) (promoted j)))
    shift_fits op c i j hk ha =
        let t = promoted i in
        let u = promoted j in
        let v : Converts scope (integer u) a.tree = integer_converts scope structures u j a fa ha in (
          v.valid,
          all (all (ap is_integer hk) (promotes i))
              (ap (λ x. is_right_of x t (kind_of (converted (integer u) a.tree))) c ∙ ap is_promoted v.kind
              ∙ promotes j),
        )

    moves : (size : ℕ) (j : IntType) → k ≡ pointer → is_size size ≡ true → kind_of a.tree ≡ integer j
        → (is_valid scope a.tree ≡ true)
        × (is_update (update.Forward size) k (kind_of a.tree) ≡ true)
    moves size j hk s ha = (fa.valid, all (all (ap (λ x. is_kind x pointer) hk) (ap is_integer ha)) s)

    integers_fit : (op : BinaryOperator) → class_of op ≡ Arithmetic → (c d : Class) → HasKind c k
        → HasKind d (kind_of a.tree) → Fits k a (change_of op (integer_row c d))
    integers_fit op e (class.Integer i) (class.Integer j) hk ha = arithmetic_fits op e i j hk ha
    integers_fit op e _ _ hk ha = tt

    shifts_fit : (op : BinaryOperator) → class_of op ≡ Shift → (c d : Class) → HasKind c k
        → HasKind d (kind_of a.tree) → Fits k a (change_of op (shift_row c d))
    shifts_fit op e (class.Integer i) (class.Integer j) hk ha = shift_fits op e i j hk ha
    shifts_fit op e _ _ hk ha = tt

    sum_fits : (c d : Class) → HasKind c k → HasKind d (kind_of a.tree) → Fits k a (change_of Add (sum_row c d))
    sum_fits (class.Integer i) (class.Integer j) hk ha = arithmetic_fits Add refl i j hk ha
    sum_fits (class.Pointer (target.Object size)) (class.Integer j) hk ha = moves size j hk.0 hk.1 ha
    sum_fits (class.Integer i) (class.Pointer (target.Object size)) hk ha = tt
    sum_fits _ _ hk ha = tt

    difference_fits : (c d : Class) → HasKind c k → HasKind d (kind_of a.tree)
        → Fits k a (change_of Subtract (difference_row false c d))
    difference_fits (class.Integer i) (class.Integer j) hk ha = arithmetic_fits Subtract refl i j hk ha
    difference_fits (class.Pointer (target.Object size)) (class.Integer j) hk ha = moves size j hk.0 hk.1 ha
    difference_fits _ _ hk ha = tt

    no_change : (op : BinaryOperator) (b : Bool)
        → Fits k a (change_of op (if b then row.PointerComparison else row.NoRow))
    no_change op true = tt
    no_change op false = tt

    comparisons_fit : (op : BinaryOperator) (c d : Class) → Fits k a (change_of op (comparison_row no_pair c d))
    comparisons_fit op (class.Integer i) (class.Integer j) = tt
    comparisons_fit op (class.Pointer s) (class.Pointer t) = no_change op _
    comparisons_fit op _ _ = tt

    changes_fit : (op : BinaryOperator) (c d : Class) → HasKind c k → HasKind d (kind_of a.tree)
        → Fits k a (change_between op c d)
    unfolding row_of
    changes_fit Add c d hk ha = sum_fits c d hk ha
    changes_fit Subtract c d hk ha = difference_fits c d hk ha
    changes_fit Multiply c d hk ha = integers_fit Multiply refl c d hk ha
    changes_fit Divide c d hk ha = integers_fit Divide refl c d hk ha
    changes_fit Remainder c d hk ha = integers_fit Remainder refl c d hk ha
    changes_fit ShiftLeft c d hk ha = shifts_fit ShiftLeft refl c d hk ha
    changes_fit ShiftRight c d hk ha = shifts_fit ShiftRight refl c d hk ha
    changes_fit BitAnd c d hk ha = integers_fit BitAnd refl c d hk ha
    changes_fit BitXor c d hk ha = integers_fit BitXor refl c d hk ha
    changes_fit BitOr c d hk ha = integers_fit BitOr refl c d hk ha
    changes_fit Less c d hk ha = comparisons_fit Less c d
    changes_fit Greater c d hk ha = comparisons_fit Greater c d
    changes_fit LessOrEqual c d hk ha = comparisons_fit LessOrEqual c d
    changes_fit GreaterOrEqual c d hk ha = comparisons_fit GreaterOrEqual c d
    changes_fit Equal c d hk ha = comparisons_fit Equal c d
    changes_fit NotEqual c d hk ha = comparisons_fit NotEqual c d

  -- the compound assignments

  change_place : (line : ℕ) (p : Place) (a : Value) → IsEarlierPlace scope structures p → is_lvalue p.tree ≡ true
      → Holds structures p.type (lvalue_kind p.tree) → (c : Option Change) → Fits (lvalue_kind p.tree) a c
      → IfFine scope structures (change_to line c a >>= λ w. written line (a_place p) w)
  change_place line p a fp l h None f = tt
  change_place line p a fp l h (Some c) f = record {
    valid = all (all (all (all fp.valid l) f.0) f.1) (same_kind (lvalue_kind p.tree));
    kind = unqualified_kind structures p.type ∙ h.kind;
    bare = refl;
  }

  change_variable : (line : ℕ) (x : Variable) (a : Value) → IsFineVariable scope structures x → (c : Option Change)
      → Fits (kind_of x.tree) a c
      → IfFine scope structures (change_to line c a >>= λ w. written line (a_variable x) w)
  change_variable line x a fx None f = tt
  change_variable line x a fx (Some c) f =
      record { valid = all (all f.0 fx.plain) f.1; kind = fx.value.kind; bare = refl }

  pub compound_fine : (with_const : List Bool) (op : BinaryOperator) (line : ℕ) (o : Operand) (a : Value)
      → IsEarlierOperand scope structures o → IsFine scope structures a
      → IfFine scope structures (compound structures with_const op line o a)
  unfolding compound
  compound_fine with_const op line o a fo fa =
      let d = class_of_type structures a.type in
      let ha : HasKind d (kind_of a.tree) = class_kind structures a.type (kind_of a.tree) fa.kind in
      assignable_fine with_const line o _ fo
      (λ p fp l h. change_place line p a fp l h (change_between op (class_of_type structures p.type) d)
      (changes_fit (lvalue_kind p.tree) a fa op (class_of_type structures p.type) d
      (class_kind structures p.type (lvalue_kind p.tree) h.kind) ha))
      (λ x fx. change_variable line x a fx (change_between op (class_of_type structures x.type) d)
      (changes_fit (kind_of x.tree) a fa op (class_of_type structures x.type) d
      (class_kind structures x.type (kind_of x.tree) (variable_kind x fx)) ha))

  -- `++`, `--`

  abbrev Steps : Kind → Option Change → Type 0
  Steps k None = Unit {0}
  Steps k (Some c) = is_step c.update k ≡ true

  steps_fit : (k : Kind) (op : StepOperator) (c : Class) → HasKind c k
      → Steps k (change_between (operator_of op) c (class.Integer Int))
  unfolding row_of
  steps_fit k Increment (class.Integer i) h =
      all (all (ap is_integer h) (common_promoted i Int)) (same_number (common_type i Int))
  steps_fit k Increment (class.Pointer (target.Object size)) h =
      all (all (ap (λ x. is_kind x pointer) h.0) refl) h.1
  steps_fit k Increment (class.Pointer target.Incomplete) h = tt
  steps_fit k Increment (class.Pointer target.Void) h = tt
  steps_fit k Increment (class.Pointer target.Function) h = tt
  steps_fit k Increment class.Other h = tt
  steps_fit k Decrement (class.Integer i) h =
      all (all (ap is_integer h) (common_promoted i Int)) (same_number (common_type i Int))
  steps_fit k Decrement (class.Pointer (target.Object size)) h =
      all (all (ap (λ x. is_kind x pointer) h.0) refl) h.1
  steps_fit k Decrement (class.Pointer target.Incomplete) h = tt
  steps_fit k Decrement (class.Pointer target.Void) h = tt
  steps_fit k Decrement (class.Pointer target.Function) h = tt
  steps_fit k Decrement class.Other h = tt

  step_place : (line : ℕ) (fixity : Fixity) (p : Place) → IsEarlierPlace scope structures p → is_lvalue p.tree ≡ true
      → Holds structures p.type (lvalue_kind p.tree) → (c : Option Change) → Steps (lvalue_kind p.tree) c
      → IfFine scope structures (step_to line fixity c >>= λ w. written line (a_place p) w)
  step_place line fixity p fp l h None f = tt
  step_place line fixity p fp l h (Some c) f = record {
    valid = all (all (all fp.valid l) f) (same_kind (lvalue_kind p.tree));
    kind = unqualified_kind structures p.type ∙ h.kind;
    bare = refl;
  }

  step_variable : (line : ℕ) (fixity : Fixity) (x : Variable) → IsFineVariable scope structures x
      → (c : Option Change) → Steps (kind_of x.tree) c
      → IfFine scope structures (step_to line fixity c >>= λ w. written line (a_variable x) w)
  step_variable line fixity x fx None f = tt
  step_variable line fixity x fx (Some c) f =
      record { valid = all fx.plain f; kind = fx.value.kind; bare = refl }

  pub stepped_fine : (with_const : List Bool) (op : StepOperator) (fixity : Fixity) (line : ℕ) (o : Operand)
      → IsEarlierOperand scope structures o → IfFine scope structures (stepped structures with_const op fixity line o)
  unfolding stepped
  stepped_fine with_const op fixity line o fo =
      assignable_fine with_const line o _ fo
      (λ p fp l h. step_place line fixity p fp l h
      (change_between (operator_of op) (class_of_type structures p.type) (class.Integer Int))
      (steps_fit (lvalue_kind p.tree) op (class_of_type structures p.type)
      (class_kind structures p.type (lvalue_kind p.tree) h.kind)))
      (λ x fx. step_variable line fixity x fx
      (change_between (operator_of op) (class_of_type structures x.type) (class.Integer Int))
      (steps_fit (kind_of x.tree) op (class_of_type structures x.type)
      (class_kind structures x.type (kind_of x.tree) (variable_kind x fx))))
