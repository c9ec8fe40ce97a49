-- Integer constant expressions.
use Rattle.std.proofs.Common.{◌≡◌, ℕ, Bool, true, false, Option, Some, None, refl, ap, sym, ◌∙◌}
use Rattle.std.specs.Prelude.{◌&&◌, ◌==◌, not, if◌then◌else◌}
use Rattle.std.proofs.lemmas.Option.{same_Some}
use Rattle.std.proofs.lemmas.Bool.{and_parts}
use Rattle.obj_memory.specs.declared.value.Scalar.TheVariants.{Integer, Pointer}
use Rattle.obj_memory.specs.Integers.{fit}
use Rattle.obj_memory.specs.Operators.{one_if, unary_value, binary_value}
use Rattle.c_tree.specs.declared.expression.Kind.{Kind}
use Rattle.c_tree.specs.declared.expression.Kind.TheVariants as kind
use Rattle.c_tree.specs.Kinds.{is_integer}
use Rattle.c_tree.specs.Tree.{Expression, expression, Node, constant, parenthesized, cast, convert, unary, binary}
use Rattle.c_tree.specs.Tree.{logical_and, logical_or, conditional, kind_of}
use Rattle.c_const.specs.Integers.{type_of, has_form, node_has_form, with_value, truth, value_of, node_value}
use Rattle.c_const.specs.Integers.{constant_word}
use Rattle.source_meaning.specs.State.{Env, State, Rvalue, Run, ◌>>=◌, choose}
use Rattle.source_meaning.specs.Actions.{integer, is_zero, scalar_of, integer_type, converted}
use Rattle.source_meaning.specs.Structures.{give}
use Rattle.source_meaning.specs.Expressions.{evaluate, value}
use Rattle.source_meaning.specs.Acting.{at_work}
use Rattle.source_meaning.specs.Constants.Finding.{Finds}
use Rattle.source_meaning.proofs.Constants.Steps.{finds_on, finds_counted, finds_give, finds_same, finds_quotient}
use Rattle.source_meaning.proofs.Constants.Steps.{follows, mapped}

-- operators see an operand at the same type
same_type : (k : Kind) → type_of k ≡ integer_type (scalar_of k)
same_type kind.Void = refl
same_type (kind.Scalar (Integer t)) = refl
same_type (kind.Scalar Pointer) = refl
same_type (kind.Structure n) = refl
same_type (kind.Array n) = refl

converts : (k : Kind) (w : ℕ) → is_integer k ≡ true → converted k (integer w) ≡ integer (fit (type_of k) w)
converts kind.Void w e = absurd cc
converts (kind.Scalar (Integer t)) w e = refl
converts (kind.Scalar Pointer) w e = absurd cc
converts (kind.Structure n) w e = absurd cc
converts (kind.Array n) w e = absurd cc

-- what an expression gives as one that is true or false
abbrev tested : Env → Expression → Run Rvalue
tested env e = evaluate env e >>= (λ y. give (integer (one_if (not (is_zero y.value)))))

-- what is known of an operand
abbrev IsFound : Env → Expression → Type 0
IsFound env e = (w : ℕ) (s : State) → value_of e ≡ Some w → Finds (evaluate env e) (integer w) s

record IsTruth (o : Option ℕ) (w : ℕ) : Type 0 where
  from : ℕ
  is_from : o ≡ Some from
  to : (if from == 0 then 0 else 1) ≡ w

is_truth : (o : Option ℕ) (w : ℕ) → truth o ≡ Some w → IsTruth o w
is_truth None w e = absurd cc
is_truth (Some x) w e = record { from = x; is_from = refl; to = same_Some _ _ e }

one_if_not : (b : Bool) → one_if (not b) ≡ (if b then 0 else 1)
one_if_not true = refl
one_if_not false = refl

tested_finds : (env : Env) (e : Expression) (w : ℕ) (s : State) → IsFound env e → truth (value_of e) ≡ Some w
    → Finds (tested env e) (integer w) s
tested_finds env e w s ih h =
    let t = is_truth (value_of e) w h in
    let found = ih t.from s t.is_from in
    finds_on _ found (finds_same (ap integer (one_if_not (t.from == 0) ∙ t.to)) (finds_give _ (at_work found.work s)))

and_finds : (b : Bool) (env : Env) (e : Expression) (w : ℕ) (s : State) → IsFound env e
    → (if b then Some 0 else truth (value_of e)) ≡ Some w
    → Finds (choose b (give (integer 0)) (tested env e)) (integer w) s
and_finds true env e w s ih h = finds_same (ap integer (same_Some _ _ h)) (finds_give (integer 0) s)
and_finds false env e w s ih h = tested_finds env e w s ih h

or_finds : (b : Bool) (env : Env) (e : Expression) (w : ℕ) (s : State) → IsFound env e
    → (if b then truth (value_of e) else Some 1) ≡ Some w
    → Finds (choose b (tested env e) (give (integer 1))) (integer w) s
or_finds true env e w s ih h = tested_finds env e w s ih h
or_finds false env e w s ih h = finds_same (ap integer (same_Some _ _ h)) (finds_give (integer 1) s)

either_finds : (b : Bool) (env : Env) (first second : Expression) (w : ℕ) (s : State) → IsFound env first
    → IsFound env second
    → (if b then value_of second else value_of first) ≡ Some w
    → Finds (choose b (evaluate env second) (evaluate env first)) (integer w) s
either_finds true env first second w s ih ih' h = ih' w s h
either_finds false env first second w s ih ih' h = ih w s h

mutual
  form_finds : (env : Env) (e : Expression) → has_form e ≡ true → IsFound env e
  form_finds env (expression k line n) f w s v =
      let fs = and_parts (is_integer k) (node_has_form n) f in node_finds env k line n fs.0 fs.1 w s v

  node_finds : (env : Env) (k : Kind) (line : ℕ) (n : Node) → is_integer k ≡ true → node_has_form n ≡ true
      → (w : ℕ) (s : State) → node_value k n ≡ Some w → Finds (value env n k line) (integer w) s
  node_finds env k line (constant x) i f w s v = finds_counted
      (finds_same (ap integer (same_Some _ _ v)) (finds_give (integer x) _))
  node_finds env k line (parenthesized e) i f w s v = finds_counted (form_finds env e f w _ v)
  node_finds env k line (cast e) i f w s v =
      let m = mapped (fit (type_of k)) (value_of e) w v in
      finds_counted (finds_on _ (form_finds env e f m.from _ m.is_from)
      (finds_same (converts k m.from i ∙ ap integer m.to) (finds_give _ _)))
  node_finds env k line (convert e) i f w s v =
      let m = mapped (fit (type_of k)) (value_of e) w v in
      finds_on _ (form_finds env e f m.from _ m.is_from)
      (finds_same (converts k m.from i ∙ ap integer m.to) (finds_give _ _))
  node_finds env k line (unary op e) i f w s v =
      let m = mapped (unary_value op (type_of (kind_of e))) (value_of e) w v in
      let same = ap (λ t. unary_value op t m.from) (sym (same_type (kind_of e))) in
      finds_counted (finds_on _ (form_finds env e f m.from _ m.is_from)
      (finds_same (ap integer (same ∙ m.to)) (finds_give _ _)))
  node_finds env k line (binary op a b) i f w s v =
      let fs = and_parts (has_form a) (has_form b) f in
      let t = type_of (kind_of a) in
      let x = follows (value_of a) (λ x. with_value (value_of b) (binary_value op t x)) w v in
      let y = follows (value_of b) (binary_value op t x.first) w x.then in
      let same = ap (λ t. binary_value op t x.first y.first) (sym (same_type (kind_of a))) in
      finds_counted (finds_on _ (form_finds env a fs.0 x.first _ x.is_first)
      (finds_on _ (form_finds env b fs.1 y.first _ y.is_first)
      (finds_quotient (binary_value op (integer_type (scalar_of (kind_of a))) x.first y.first) w line _
      (same ∙ y.then))))
  node_finds env k line (logical_and a b) i f w s v =
      let fs = and_parts (has_form a) (has_form b) f in
      let x = follows (value_of a) (λ x. if x == 0 then Some 0 else truth (value_of b)) w v in
      finds_counted (finds_on _ (form_finds env a fs.0 x.first _ x.is_first)
      (and_finds (x.first == 0) env b w _ (form_finds env b fs.1) x.then))
  node_finds env k line (logical_or a b) i f w s v =
      let fs = and_parts (has_form a) (has_form b) f in
      let x = follows (value_of a) (λ x. if x == 0 then truth (value_of b) else Some 1) w v in
      finds_counted (finds_on _ (form_finds env a fs.0 x.first _ x.is_first)
      (or_finds (x.first == 0) env b w _ (form_finds env b fs.1) x.then))
  node_finds env k line (conditional c a b) i f w s v =
      let fs = and_parts (has_form c) (has_form a && has_form b) f in
      let gs = and_parts (has_form a) (has_form b) fs.1 in
      let x = follows (value_of c) (λ x. if x == 0 then value_of b else value_of a) w v in
      finds_counted (finds_on _ (form_finds env c fs.0 x.first _ x.is_first)
      (either_finds (x.first == 0) env a b w _ (form_finds env a gs.0) (form_finds env b gs.1) x.then))
  node_finds env k line n i f w s v = absurd cc

constant_cases : (b : Bool) (o : Option ℕ) (w : ℕ) → (if b then o else None) ≡ Some w → (b ≡ true) × (o ≡ Some w)
constant_cases true o w h = (refl, h)
constant_cases false o w h = absurd cc

pub constant_is : (e : Expression) (w : ℕ) → constant_word e ≡ Some w → (has_form e ≡ true) × (value_of e ≡ Some w)
unfolding constant_word
constant_is e w h = constant_cases (has_form e) (value_of e) w h

pub constant_finds : (env : Env) (e : Expression) (w : ℕ) (s : State) → constant_word e ≡ Some w
    → Finds (evaluate env e) (integer w) s
constant_finds env e w s h = let c = constant_is e w h in form_finds env e c.0 w s c.1
