-- What unary operators, `&&`, `||`, `,`, casts and conversions give is valid where their operands are.
use Rattle.std.proofs.Common.{◌≡◌, ℕ, Bool, true, false, Option, List, refl, ap, sym, subst, ◌∙◌}
use Rattle.std.specs.Prelude.{◌&&◌}
use Rattle.std.proofs.lemmas.Bool.{eq-eqb}
use Rattle.obj_memory.specs.declared.operator.UnaryOperator.{UnaryOperator}
use Rattle.obj_memory.specs.declared.operator.UnaryOperator.TheVariants.{Plus, Negate, Complement, Not}
use Rattle.obj_memory.specs.declared.value.Scalar.TheVariants as scalar
use Rattle.obj_memory.specs.Integers.{promoted}
use Rattle.c_tree.specs.declared.expression.Kind.{Kind}
use Rattle.c_tree.specs.declared.expression.Kind.TheVariants as kind
use Rattle.c_tree.specs.Extents.{TypeExtent}
use Rattle.c_tree.specs.Kinds.{integer, is_kind, is_promoted, is_scalar as is_scalar_kind}
use Rattle.c_tree.specs.Tree.{kind_of}
use Rattle.c_tree.specs.Valid.{Scope, is_operand}
use Rattle.c_rules.specs.declared.class.Class.{Class}
use Rattle.c_rules.specs.declared.class.Class.TheVariants as class
use Rattle.c_rules.specs.declared.unary.LogicalOperator.{LogicalOperator}
use Rattle.c_rules.specs.declared.unary.LogicalOperator.TheVariants as logical
use Rattle.c_rules.specs.Types.{class_of}
use Rattle.c_rules.specs.Values.{Value}
use Rattle.c_rules.specs.Unary.{is_scalar, promoting, negating, unary_of, unary, logical_of, combined, comma}
use Rattle.c_rules.specs.Fine.{IsFine, IfFine}
use Rattle.c_rules.proofs.TypeKinds.{HasKind, class_kind, same_number, promotes}
use Rattle.c_rules.proofs.SameTypes.{both_true}
use Rattle.c_rules.proofs.FineBinary.{all, integer_converts}

pub same_kind : (k : Kind) → is_kind k k ≡ true
same_kind kind.Void = refl
same_kind (kind.Scalar (scalar.Integer t)) = same_number t
same_kind (kind.Scalar scalar.Pointer) = refl
same_kind (kind.Structure n) = eq-eqb n n refl
same_kind (kind.Array n) = eq-eqb n n refl

-- a value of a class that is scalar has a scalar kind
scalar_kind : (c : Class) (k : Kind) → HasKind c k → is_scalar c ≡ true → is_scalar_kind k ≡ true
scalar_kind (class.Integer t) k h e = ap is_scalar_kind h
scalar_kind (class.Pointer to) k h e = ap is_scalar_kind h.0
scalar_kind class.Other k h e = absurd cc

pub scalar_value : (scope : Scope) (structures : List (Option TypeExtent)) (v : Value) → IsFine scope structures v
    → is_scalar (class_of structures v.type) ≡ true → is_scalar_kind (kind_of v.tree) ≡ true
scalar_value scope structures v f e =
    scalar_kind (class_of structures v.type) (kind_of v.tree) (class_kind structures v.type (kind_of v.tree) f.kind) e

module _ (scope : Scope) (structures : List (Option TypeExtent)) (line : ℕ) where
  -- the kind of a promoted operand is what the operator wants
  promoting_fine : (op : UnaryOperator) → ((k : Kind) → is_operand op k k ≡ (is_promoted k && is_kind k k))
      → (c : Class) (a : Value)
      → IsFine scope structures a → HasKind c (kind_of a.tree) → IfFine scope structures (promoting op line c a)
  promoting_fine op wants (class.Integer j) a fa ha =
      let t = promoted j in
      let c = integer_converts scope structures t j a fa ha in
      let P : Kind → Type 0 = λ k. is_operand op k (integer t) ≡ true in
      record {
        valid = all c.valid (subst P (sym c.kind) (wants (integer t) ∙ all (promotes j) (same_kind (integer t))));
        kind = refl;
        bare = refl;
      }
  promoting_fine op wants (class.Pointer to) a fa ha = tt
  promoting_fine op wants class.Other a fa ha = tt

  negating_fine : (b : Bool) (a : Value) → IsFine scope structures a
      → (b ≡ true → is_scalar_kind (kind_of a.tree) ≡ true)
      → IfFine scope structures (negating line b a)
  negating_fine true a fa h = record { valid = all fa.valid (all (h refl) refl); kind = refl; bare = refl }
  negating_fine false a fa h = tt

  unary_cases : (op : UnaryOperator) (a : Value) → IsFine scope structures a
      → IfFine scope structures (unary_of op line (class_of structures a.type) a)
  unary_cases Plus a fa = promoting_fine Plus (λ k. refl) (class_of structures a.type) a fa
      (class_kind structures a.type (kind_of a.tree) fa.kind)
  unary_cases Negate a fa = promoting_fine Negate (λ k. refl) (class_of structures a.type) a fa
      (class_kind structures a.type (kind_of a.tree) fa.kind)
  unary_cases Complement a fa = promoting_fine Complement (λ k. refl) (class_of structures a.type) a fa
      (class_kind structures a.type (kind_of a.tree) fa.kind)
  unary_cases Not a fa = negating_fine (is_scalar (class_of structures a.type)) a fa
      (scalar_value scope structures a fa)

  logical_cases : (op : LogicalOperator) (b : Bool) (x y : Value) → IsFine scope structures x
      → IsFine scope structures y
      → (b ≡ true → (is_scalar_kind (kind_of x.tree) ≡ true) × (is_scalar_kind (kind_of y.tree) ≡ true))
      → IfFine scope structures (logical_of op line b x y)
  logical_cases logical.And true x y fx fy h = record {
    valid = all (all (all (all fx.valid fy.valid) (h refl).0) (h refl).1) refl;
    kind = refl;
    bare = refl;
  }
  logical_cases logical.Or true x y fx fy h = record {
    valid = all (all (all (all fx.valid fy.valid) (h refl).0) (h refl).1) refl;
    kind = refl;
    bare = refl;
  }
  logical_cases op false x y fx fy h = tt

pub unary_fine : (scope : Scope) (structures : List (Option TypeExtent)) (op : UnaryOperator) (line : ℕ) (a : Value)
    → IsFine scope structures a → IfFine scope structures (unary structures op line a)
unfolding unary
unary_fine scope structures op line a fa = unary_cases scope structures line op a fa

pub logical_fine : (scope : Scope) (structures : List (Option TypeExtent)) (op : LogicalOperator) (line : ℕ)
    (a b : Value)
    → IsFine scope structures a → IsFine scope structures b → IfFine scope structures (combined structures op line a b)
unfolding combined
logical_fine scope structures op line a b fa fb =
    let c = is_scalar (class_of structures a.type) in
    let d = is_scalar (class_of structures b.type) in
    logical_cases scope structures line op (c && d) a b fa fb (λ e. let s = both_true c d e in
    (scalar_value scope structures a fa s.0, scalar_value scope structures b fb s.1))

pub comma_fine : (scope : Scope) (structures : List (Option TypeExtent)) (line : ℕ) (a b : Value)
    → IsFine scope structures a → IsFine scope structures b → IfFine scope structures (comma line a b)
unfolding comma
comma_fine scope structures line a b fa fb = record {
  valid = all (all fa.valid fb.valid) (same_kind (kind_of b.tree));
  kind = fb.kind;
  bare = refl;
}
