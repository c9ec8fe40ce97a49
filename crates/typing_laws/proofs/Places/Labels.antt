-- Labels of a switch.
use Rattle.std.proofs.Common.{◌≡◌, ℕ, Bool, true, false, ◌||◌, ◌==◌, refl, sym, ap, ◌∙◌, List, [], ◌∷◌, ◌++◌}
use Rattle.std.proofs.Common.{Option, Some, None, if◌then◌else◌}
use Rattle.std.specs.Prelude.{Ok, Err, not}
use Rattle.std.specs.List.{list_all, list_any}
use Rattle.std.proofs.lemmas.Bool.{and_from, eq-eqb, eqb-true, not-true}
use Rattle.std.proofs.lemmas.List.{append_assoc}
use Rattle.obj_memory.specs.declared.int_type.IntType.{IntType}
use Rattle.obj_memory.specs.declared.value.Scalar.TheVariants as scalar
use Rattle.obj_memory.specs.Integers.{fit, promoted}
use Rattle.obj_memory.proofs.Words.{fit_twice}
use Rattle.c_tree.specs.declared.expression.Kind.{Kind}
use Rattle.c_tree.specs.declared.expression.Kind.TheVariants as kind
use Rattle.c_tree.specs.declared.statement.CaseLabel.{CaseLabel}
use Rattle.c_tree.specs.declared.statement.CaseLabel.TheVariants.{Case, Default}
use Rattle.c_tree.specs.Extents.{TypeExtent}
use Rattle.c_tree.specs.Kinds.{integer, is_integer, is_kind}
use Rattle.c_tree.specs.Tree.{Expression, convert, expression, kind_of, line_of}
use Rattle.c_tree.specs.ValidProgram.{are_different, is_label, same_label}
use Rattle.c_const.specs.Integers.{type_of}
use Rattle.c_rules.specs.declared.class.Class.{Class}
use Rattle.c_rules.specs.declared.class.Class.TheVariants as class
use Rattle.c_faults.specs.declared.fault.Rule.TheVariants.{MisplacedLabel}
use Rattle.c_faults.specs.Answer.{Answer, violates}
use Rattle.c_rules.specs.Types.{class_of}
use Rattle.c_rules.specs.Values.{Value}
use Rattle.c_condition_rules.specs.Conditions.{switch_value, switched}
use Rattle.c_unit_typing.specs.Constructs.{Labels, added, case_on, case_with, default_on}
use Rattle.typing_laws.proofs.Validity.Common.{first as left_true, neither_left, neither_right, second as right_true}
use Rattle.typing_laws.specs.Places.Placed.{AreFine, are_labels_of}

same_number : (v w : ℕ) → (v == w) ≡ (w == v)
same_number v w = by (v == w) (w == v) refl refl
  where
    by : (a b : Bool) → (v == w) ≡ a → (w == v) ≡ b → a ≡ b
    by true true e g = refl
    by false false e g = refl
    by true false e g = sym (eq-eqb w v (sym (eqb-true v w e))) ∙ g
    by false true e g = sym e ∙ eq-eqb v w (sym (eqb-true w v g))

same_label_back : (l m : CaseLabel) → same_label l m ≡ same_label m l
same_label_back (Case v) (Case w) = same_number v w
same_label_back (Case v) Default = refl
same_label_back Default (Case w) = refl
same_label_back Default Default = refl

none_among : (l : CaseLabel) (xs : List CaseLabel) (m : CaseLabel) → list_any (same_label l) xs ≡ false
    → same_label l m ≡ false → list_any (same_label l) (xs ++ m ∷ []) ≡ false
none_among l [] m e g = one (same_label l m) g
  where
    one : (b : Bool) → b ≡ false → (b || false) ≡ false
    one true e = e
    one false e = refl
none_among l (x ∷ xs) m e g =
    by (same_label l x) (list_any (same_label l) xs) e
    (none_among l xs m (neither_right (same_label l x) (list_any (same_label l) xs) e) g)
  where
    by : (a b : Bool) → (a || b) ≡ false → list_any (same_label l) (xs ++ m ∷ []) ≡ false
        → (a || list_any (same_label l) (xs ++ m ∷ [])) ≡ false
    by true b e h = absurd cc
    by false b e h = h

more_different : (xs : List CaseLabel) (l : CaseLabel) → are_different xs ≡ true → list_any (same_label l) xs ≡ false
    → are_different (xs ++ l ∷ []) ≡ true
more_different [] l e g = refl
more_different (x ∷ xs) l e g =
    and_from (not (list_any (same_label x) (xs ++ l ∷ []))) (are_different (xs ++ l ∷ []))
    (ap not (none_among x xs l (not-true (list_any (same_label x) xs) (left_true _ _ e))
    (same_label_back x l ∙ neither_left (same_label l x) (list_any (same_label l) xs) g)))
    (more_different xs l (right_true _ _ e) (neither_right (same_label l x) (list_any (same_label l) xs) g))

pub all_append : {A : Type 0} (p : A → Bool) (xs ys : List A) → list_all p xs ≡ true → list_all p ys ≡ true
    → list_all p (xs ++ ys) ≡ true
all_append p [] ys e g = g
all_append p (x ∷ xs) ys e g =
    and_from (p x) (list_all p (xs ++ ys)) (left_true (p x) (list_all p xs) e)
    (all_append p xs ys (right_true (p x) (list_all p xs) e) g)

fit_append : (o : Option IntType) (xs ys : List CaseLabel) → are_labels_of o xs ≡ true → are_labels_of o ys ≡ true
    → are_labels_of o (xs ++ ys) ≡ true
fit_append None xs ys e g = refl
fit_append (Some type) xs ys e g = all_append (is_label (integer type)) xs ys e g

-- a label is added where it is another

abbrev pub IfLabels : Answer Labels → Labels → Type 0
IfLabels (Ok new) ls = (new.switch ≡ ls.switch) × (new.earlier ≡ ls.earlier) × AreFine ls new.own
IfLabels (Err f) ls = Unit {0}

added_by : (line : ℕ) (l : CaseLabel) (ls : Labels) → AreFine ls ls.own → are_labels_of ls.switch (l ∷ []) ≡ true
    → (b : Bool) → list_any (same_label l) (ls.earlier ++ ls.own) ≡ b
    → IfLabels (if b then violates MisplacedLabel line else Ok (record ls { own = ls.own ++ l ∷ [] })) ls
added_by line l ls h is true e = tt
added_by line l ls h is false e = (
  refl,
  refl,
  record {
    different = ap are_different (sym (append_assoc ls.earlier ls.own (l ∷ [])))
        ∙ more_different (ls.earlier ++ ls.own) l h.different e;
    fit = fit_append ls.switch ls.own (l ∷ []) h.fit is;
  },
)

added_fine : (line : ℕ) (l : CaseLabel) (ls : Labels) → AreFine ls ls.own → are_labels_of ls.switch (l ∷ []) ≡ true
    → IfLabels (added line l ls) ls
added_fine line l ls h is = added_by line l ls h is (list_any (same_label l) (ls.earlier ++ ls.own)) refl

case_fits : (type : IntType) (w : ℕ) → are_labels_of (Some type) (Case (fit type w) ∷ []) ≡ true
case_fits type w = and_from (fit type (fit type w) == fit type w) true (eq-eqb _ _ (fit_twice type w)) refl

case_by : (line w : ℕ) (ls : Labels) → AreFine ls ls.own → (o : Option IntType) → ls.switch ≡ o
    → IfLabels (case_on line w ls o) ls
case_by line w ls h None e = tt
case_by line w ls h (Some type) e =
    added_fine line (Case (fit type w)) ls h (ap (λ o. are_labels_of o (Case (fit type w) ∷ [])) e ∙ case_fits type w)

pub case_fine : (line : ℕ) (o : Option ℕ) (ls : Labels) → AreFine ls ls.own → IfLabels (case_with line o ls) ls
case_fine line None ls h = tt
case_fine line (Some w) ls h = case_by line w ls h ls.switch refl

default_by : (line : ℕ) (ls : Labels) → AreFine ls ls.own → (o : Option IntType) → ls.switch ≡ o
    → IfLabels (default_on line ls o) ls
default_by line ls h None e = tt
default_by line ls h (Some type) e = added_fine line Default ls h (ap (λ o. are_labels_of o (Default ∷ [])) e)

pub default_fine : (line : ℕ) (ls : Labels) → AreFine ls ls.own → IfLabels (default_on line ls ls.switch) ls
default_fine line ls h = default_by line ls h ls.switch refl

-- the value of a switch is an integer

kind_by : (t : IntType) (j : Kind) → is_kind (integer t) j ≡ true → is_integer j ≡ true
kind_by t kind.Void e = absurd cc
kind_by t (kind.Scalar (scalar.Integer u)) e = refl
kind_by t (kind.Scalar scalar.Pointer) e = absurd cc
kind_by t (kind.Structure n) e = absurd cc
kind_by t (kind.Array n) e = absurd cc

converted_by : (t : IntType) (e : Expression) (b : Bool) → is_kind (integer t) (kind_of e) ≡ b
    → is_integer (kind_of (if b then e else expression (integer t) (line_of e) (convert e))) ≡ true
converted_by t e true is = kind_by t (kind_of e) is
converted_by t e false is = refl

abbrev pub IfInteger : Answer Value → Type 0
IfInteger (Ok v) = is_integer (kind_of v.tree) ≡ true
IfInteger (Err f) = Unit {0}

switched_by : (c : Class) (line : ℕ) (v : Value) → IfInteger (switched c line v)
switched_by (class.Integer t) line v =
    converted_by (promoted t) v.tree (is_kind (integer (promoted t)) (kind_of v.tree)) refl
switched_by (class.Pointer t) line v = tt
switched_by class.Other line v = tt

pub switch_integer : (es : List (Option TypeExtent)) (line : ℕ) (v : Value) → IfInteger (switch_value es line v)
unfolding switch_value
switch_integer es line v = switched_by (class_of es v.type) line v

pub integer_is : (k : Kind) → is_integer k ≡ true → k ≡ integer (type_of k)
integer_is kind.Void e = absurd cc
integer_is (kind.Scalar (scalar.Integer u)) e = refl
integer_is (kind.Scalar scalar.Pointer) e = absurd cc
integer_is (kind.Structure n) e = absurd cc
integer_is (kind.Array n) e = absurd cc
