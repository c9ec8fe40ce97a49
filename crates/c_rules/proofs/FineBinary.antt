-- What the operators between two operands give is valid where their operands are.
use Rattle.std.proofs.Common.{◌≡◌, ℕ, Bool, true, false, Option, Some, List, refl, ap, sym, subst, ◌∙◌}
use Rattle.std.specs.Prelude.{◌&&◌, ◌||◌, not, if◌then◌else◌}
use Rattle.obj_memory.specs.declared.int_type.IntType.{IntType}
use Rattle.obj_memory.specs.declared.int_type.IntType.TheVariants.{Int}
use Rattle.obj_memory.specs.declared.operator.BinaryOperator.{BinaryOperator}
use Rattle.obj_memory.specs.declared.operator.BinaryOperator.TheVariants.{Add, Subtract, Multiply, Divide, Remainder}
use Rattle.obj_memory.specs.declared.operator.BinaryOperator.TheVariants.{ShiftLeft, ShiftRight, BitAnd, BitXor, BitOr}
use Rattle.obj_memory.specs.declared.operator.BinaryOperator.TheVariants.{Less, Greater, LessOrEqual, GreaterOrEqual}
use Rattle.obj_memory.specs.declared.operator.BinaryOperator.TheVariants.{Equal, NotEqual}
use Rattle.obj_memory.specs.Integers.{common_type, promoted}
use Rattle.c_tree.specs.declared.expression.Kind.{Kind}
use Rattle.c_tree.specs.declared.expression.OffsetForm.TheVariants.{PointerPlusIndex, IndexPlusPointer}
use Rattle.c_tree.specs.declared.expression.OffsetForm.TheVariants.{PointerMinusIndex}
use Rattle.c_tree.specs.Extents.{TypeExtent}
use Rattle.c_tree.specs.Kinds.{integer, pointer, is_kind, is_size, are_operands, are_offset, Arithmetic, Shift}
use Rattle.c_tree.specs.Kinds.{Comparison, class_of}
use Rattle.c_tree.specs.Tree.{Expression, expression, convert, kind_of, line_of}
use Rattle.c_tree.specs.Valid.{Scope, is_valid, is_converted, is_conversion}
use Rattle.c_rules.specs.declared.class.Class.{Class}
use Rattle.c_rules.specs.declared.class.Class.TheVariants as class
use Rattle.c_rules.specs.declared.class.Target.TheVariants as target
use Rattle.c_rules.specs.declared.row.Row.TheVariants as row
use Rattle.c_rules.specs.declared.row.Pair.{Pair}
use Rattle.c_rules.specs.Types.{class_of as class_of_type}
use Rattle.c_rules.specs.Values.{Value, converted}
use Rattle.c_rules.specs.Rows.{row_of, sum_row, difference_row, integer_row, shift_row, comparison_row}
use Rattle.c_rules.specs.Binary.{binary, built, operated, pair_of}
use Rattle.c_rules.specs.Fine.{IsFine, IfFine}
use Rattle.c_rules.proofs.TypeKinds.{HasKind, class_kind, same_int, same_number, common_promoted, promotes}

-- tests that hold

pub all : {a b : Bool} → a ≡ true → b ≡ true → (a && b) ≡ true
all {b = b} p q = ap (λ c. c && b) p ∙ q

-- an operand converted to a kind is valid and has that kind
pub record Converts (scope : Scope) (k : Kind) (e : Expression) : Type 0 where
  pub valid : is_valid scope (converted k e) ≡ true
  pub kind : kind_of (converted k e) ≡ k

converts_by : (b : Bool) (scope : Scope) (k : Kind) (e : Expression) → is_kind k (kind_of e) ≡ b
    → (b ≡ true → kind_of e ≡ k)
    → is_valid scope e ≡ true → is_converted e ≡ false → is_conversion (kind_of e) k ≡ true → Converts scope k e
converts_by true scope k e same equal valid bare can =
    let chosen : converted k e ≡ e = ap (λ c. if c then e else expression k (line_of e) (convert e)) same in
    record { valid = ap (is_valid scope) chosen ∙ valid; kind = ap kind_of chosen ∙ equal refl }
converts_by false scope k e same equal valid bare can =
    let chosen : converted k e ≡ expression k (line_of e) (convert e) = ap
    (λ c. if c then e else expression k (line_of e) (convert e)) same in
    record {
      valid = ap (is_valid scope) chosen ∙ all (all valid can) (ap not bare);
      kind = ap kind_of chosen;
    }

-- an integer converts to any integer type, an integer or a pointer to a pointer
pub integer_converts : (scope : Scope) (structures : List (Option TypeExtent)) (t j : IntType) (v : Value)
    → IsFine scope structures v
    → kind_of v.tree ≡ integer j → Converts scope (integer t) v.tree
integer_converts scope structures t j v f e =
    converts_by (is_kind (integer t) (kind_of v.tree)) scope (integer t) v.tree refl
    (λ h. e ∙ ap integer (sym (same_int t j (sym (ap (is_kind (integer t)) e) ∙ h))))
    f.valid f.bare (ap (λ k. is_conversion k (integer t)) e)

pub from_integer : (scope : Scope) (structures : List (Option TypeExtent)) (j : IntType) (v : Value)
    → IsFine scope structures v
    → kind_of v.tree ≡ integer j → Converts scope pointer v.tree
from_integer scope structures j v f e =
    converts_by (is_kind pointer (kind_of v.tree)) scope pointer v.tree refl
    (λ h. absurd (let n : false ≡ true = sym (ap (is_kind pointer) e) ∙ h in cc))
    f.valid f.bare (ap (λ k. is_conversion k pointer) e)

pub from_pointer : (scope : Scope) (structures : List (Option TypeExtent)) (v : Value) → IsFine scope structures v
    → kind_of v.tree ≡ pointer → Converts scope pointer v.tree
from_pointer scope structures v f e =
    converts_by (is_kind pointer (kind_of v.tree)) scope pointer v.tree refl (λ h. e) f.valid f.bare
    (ap (λ k. is_conversion k pointer) e)

-- an operator on operands of the kinds that it wants
operated_fine : (scope : Scope) (structures : List (Option TypeExtent)) (op : BinaryOperator) (line : ℕ) (t : IntType)
    (k l : Kind) (a b : Value)
    → Converts scope k a.tree → Converts scope l b.tree → are_operands (class_of op) k l (integer t) ≡ true
    → IfFine scope structures (operated op line t k l a b)
operated_fine scope structures op line t k l a b ca cb h =
    let P : Kind → Kind → Type 0 = λ x y. are_operands (class_of op) x y (integer t) ≡ true in
    record {
      valid = all (all ca.valid cb.valid)
          (subst (λ x. P x (kind_of (converted l b.tree))) (sym ca.kind) (subst (P k) (sym cb.kind) h));
      kind = refl;
      bare = refl;
    }

module _ (scope : Scope) (structures : List (Option TypeExtent)) (line : ℕ) (a b : Value)
    (fa : IsFine scope structures a) (fb : IsFine scope structures b) where
  arithmetic_fine : (op : BinaryOperator) → class_of op ≡ Arithmetic → (j k : IntType) → kind_of a.tree ≡ integer j
      → kind_of b.tree ≡ integer k
      → IfFine scope structures (built (row.Arithmetic (common_type j k)) op line a b)
  arithmetic_fine op c j k ka kb =
      let t = common_type j k in
      operated_fine scope structures op line t (integer t) (integer t) a b
      (integer_converts scope structures t j a fa ka) (integer_converts scope structures t k b fb kb)
      (ap (λ x. are_operands x (integer t) (integer t) (integer t)) c
      ∙ all (all (common_promoted j k) (same_number t)) (same_number t))

  shift_fine : (op : BinaryOperator) → class_of op ≡ Shift → (j k : IntType) → kind_of a.tree ≡ integer j
      → kind_of b.tree ≡ integer k
      → IfFine scope structures (built (row.Shift (promoted j) (promoted k)) op line a b)
  shift_fine op c j k ka kb =
      let t = promoted j in
      let u = promoted k in
      operated_fine scope structures op line t (integer t) (integer u) a b
      (integer_converts scope structures t j a fa ka) (integer_converts scope structures u k b fb kb)
      (ap (λ x. are_operands x (integer t) (integer u) (integer t)) c
      ∙ all (all (promotes j) (promotes k)) (same_number t))

  comparison_fine : (op : BinaryOperator) → class_of op ≡ Comparison → (j k : IntType) → kind_of a.tree ≡ integer j
      → kind_of b.tree ≡ integer k
      → IfFine scope structures (built (row.Comparison (common_type j k)) op line a b)
  comparison_fine op c j k ka kb =
      let t = common_type j k in
      operated_fine scope structures op line Int (integer t) (integer t) a b
      (integer_converts scope structures t j a fa ka) (integer_converts scope structures t k b fb kb)
      (ap (λ x. are_operands x (integer t) (integer t) (integer Int)) c
      ∙ all (all (ap (λ d. d || is_kind (integer t) pointer) (common_promoted j k)) (same_number t)) refl)

  pointers_fine : (op : BinaryOperator) → class_of op ≡ Comparison → Converts scope pointer a.tree
      → Converts scope pointer b.tree
      → IfFine scope structures (built row.PointerComparison op line a b)
  pointers_fine op c ca cb =
      operated_fine scope structures op line Int pointer pointer a b ca cb
      (ap (λ x. are_operands x pointer pointer (integer Int)) c)

  -- a pointer and an index
  first_fine : (op : BinaryOperator) (size : ℕ) (k : IntType) → kind_of a.tree ≡ pointer → is_size size ≡ true
      → kind_of b.tree ≡ integer k
      → IfFine scope structures (built (row.Offset PointerPlusIndex size) op line a b)
  first_fine op size k ka sized kb =
      let P : Kind → Kind → Type 0 = λ x y. are_offset PointerPlusIndex x y ≡ true in
      let fits = subst (λ x. P x (kind_of b.tree)) (sym ka) (subst (P pointer) (sym kb) refl) in
      record {
        valid = all (all (all (all (all fa.valid fb.valid) fits) (ap not fb.bare)) sized) refl;
        kind = fa.kind ∙ ap Some ka;
        bare = refl;
      }

  minus_fine : (op : BinaryOperator) (size : ℕ) (k : IntType) → kind_of a.tree ≡ pointer → is_size size ≡ true
      → kind_of b.tree ≡ integer k
      → IfFine scope structures (built (row.Offset PointerMinusIndex size) op line a b)
  minus_fine op size k ka sized kb =
      let P : Kind → Kind → Type 0 = λ x y. are_offset PointerMinusIndex x y ≡ true in
      let fits = subst (λ x. P x (kind_of b.tree)) (sym ka) (subst (P pointer) (sym kb) refl) in
      record {
        valid = all (all (all (all (all fa.valid fb.valid) fits) (ap not fb.bare)) sized) refl;
        kind = fa.kind ∙ ap Some ka;
        bare = refl;
      }

  second_fine : (op : BinaryOperator) (size : ℕ) (j : IntType) → kind_of a.tree ≡ integer j → kind_of b.tree ≡ pointer
      → is_size size ≡ true
      → IfFine scope structures (built (row.Offset IndexPlusPointer size) op line a b)
  second_fine op size j ka kb sized =
      let P : Kind → Kind → Type 0 = λ x y. are_offset IndexPlusPointer x y ≡ true in
      let fits = subst (λ x. P x (kind_of b.tree)) (sym ka) (subst (P (integer j)) (sym kb) refl) in
      record {
        valid = all (all (all (all (all fa.valid fb.valid) fits) (ap not fa.bare)) sized) refl;
        kind = fb.kind ∙ ap Some kb;
        bare = refl;
      }

  counted_fine : (op : BinaryOperator) (size : ℕ) → kind_of a.tree ≡ pointer → kind_of b.tree ≡ pointer
      → is_size size ≡ true
      → IfFine scope structures (built (row.Difference size) op line a b)
  counted_fine op size ka kb sized = record {
    valid = all (all (all (all (all fa.valid fb.valid) (ap (λ x. is_kind x pointer) ka))
        (ap (λ x. is_kind x pointer) kb)) sized) refl;
    kind = refl;
    bare = refl;
  }

  -- the tables

  integers_fine : (op : BinaryOperator) → class_of op ≡ Arithmetic → (c d : Class) → HasKind c (kind_of a.tree)
      → HasKind d (kind_of b.tree)
      → IfFine scope structures (built (integer_row c d) op line a b)
  integers_fine op e (class.Integer j) (class.Integer k) ha hb = arithmetic_fine op e j k ha hb
  integers_fine op e _ _ ha hb = tt

  shifts_fine : (op : BinaryOperator) → class_of op ≡ Shift → (c d : Class) → HasKind c (kind_of a.tree)
      → HasKind d (kind_of b.tree)
      → IfFine scope structures (built (shift_row c d) op line a b)
  shifts_fine op e (class.Integer j) (class.Integer k) ha hb = shift_fine op e j k ha hb
  shifts_fine op e _ _ ha hb = tt

  sum_fine : (c d : Class) → HasKind c (kind_of a.tree) → HasKind d (kind_of b.tree)
      → IfFine scope structures (built (sum_row c d) Add line a b)
  sum_fine (class.Integer j) (class.Integer k) ha hb = arithmetic_fine Add refl j k ha hb
  sum_fine (class.Pointer (target.Object size)) (class.Integer k) ha hb = first_fine Add size k ha.0 ha.1 hb
  sum_fine (class.Integer j) (class.Pointer (target.Object size)) ha hb = second_fine Add size j ha hb.0 hb.1
  sum_fine _ _ ha hb = tt

  difference_fine : (same : Bool) (c d : Class) → HasKind c (kind_of a.tree) → HasKind d (kind_of b.tree)
      → IfFine scope structures (built (difference_row same c d) Subtract line a b)
  difference_fine same (class.Integer j) (class.Integer k) ha hb = arithmetic_fine Subtract refl j k ha hb
  difference_fine same (class.Pointer (target.Object size)) (class.Integer k) ha hb = minus_fine Subtract size k ha.0
      ha.1 hb
  difference_fine true (class.Pointer (target.Object size)) (class.Pointer to) ha hb = counted_fine Subtract size ha.0
      hb.0 ha.1
  difference_fine _ _ _ ha hb = tt

  where_compared : (op : BinaryOperator) (holds : Bool)
      → IfFine scope structures (built row.PointerComparison op line a b)
      → IfFine scope structures (built (if holds then row.PointerComparison else row.NoRow) op line a b)
  where_compared op true h = h
  where_compared op false h = tt

  comparisons_fine : (op : BinaryOperator) → class_of op ≡ Comparison → (p : Pair) (c d : Class)
      → HasKind c (kind_of a.tree) → HasKind d (kind_of b.tree)
      → IfFine scope structures (built (comparison_row p c d) op line a b)
  comparisons_fine op e p (class.Integer j) (class.Integer k) ha hb = comparison_fine op e j k ha hb
  comparisons_fine op e p (class.Pointer s) (class.Pointer t) ha hb =
      where_compared op _ (pointers_fine op e (from_pointer scope structures a fa ha.0)
      (from_pointer scope structures b fb hb.0))
  comparisons_fine op e p (class.Pointer s) (class.Integer k) ha hb =
      where_compared op _ (pointers_fine op e (from_pointer scope structures a fa ha.0)
      (from_integer scope structures k b fb hb))
  comparisons_fine op e p (class.Integer j) (class.Pointer t) ha hb =
      where_compared op _ (pointers_fine op e (from_integer scope structures j a fa ha)
      (from_pointer scope structures b fb hb.0))
  comparisons_fine op e p _ _ ha hb = tt

  rows_fine : (op : BinaryOperator) (p : Pair) (c d : Class) → HasKind c (kind_of a.tree) → HasKind d (kind_of b.tree)
      → IfFine scope structures (built (row_of op p c d) op line a b)
  unfolding row_of
  rows_fine Add p c d ha hb = sum_fine c d ha hb
  rows_fine Subtract p c d ha hb = difference_fine p.same_pointee c d ha hb
  rows_fine Multiply p c d ha hb = integers_fine Multiply refl c d ha hb
  rows_fine Divide p c d ha hb = integers_fine Divide refl c d ha hb
  rows_fine Remainder p c d ha hb = integers_fine Remainder refl c d ha hb
  rows_fine ShiftLeft p c d ha hb = shifts_fine ShiftLeft refl c d ha hb
  rows_fine ShiftRight p c d ha hb = shifts_fine ShiftRight refl c d ha hb
  rows_fine BitAnd p c d ha hb = integers_fine BitAnd refl c d ha hb
  rows_fine BitXor p c d ha hb = integers_fine BitXor refl c d ha hb
  rows_fine BitOr p c d ha hb = integers_fine BitOr refl c d ha hb
  rows_fine Less p c d ha hb = comparisons_fine Less refl p c d ha hb
  rows_fine Greater p c d ha hb = comparisons_fine Greater refl p c d ha hb
  rows_fine LessOrEqual p c d ha hb = comparisons_fine LessOrEqual refl p c d ha hb
  rows_fine GreaterOrEqual p c d ha hb = comparisons_fine GreaterOrEqual refl p c d ha hb
  rows_fine Equal p c d ha hb = comparisons_fine Equal refl p c d ha hb
  rows_fine NotEqual p c d ha hb = comparisons_fine NotEqual refl p c d ha hb

pub binary_fine : (scope : Scope) (structures : List (Option TypeExtent)) (op : BinaryOperator) (line : ℕ) (a b : Value)
    → IsFine scope structures a → IsFine scope structures b → IfFine scope structures (binary structures op line a b)
unfolding binary
binary_fine scope structures op line a b fa fb =
    rows_fine scope structures line a b fa fb op (pair_of a b) (class_of_type structures a.type)
    (class_of_type structures b.type)
    (class_kind structures a.type (kind_of a.tree) fa.kind) (class_kind structures b.type (kind_of b.tree) fb.kind)
