-- An expression that does not assign a plain variable leaves it as it was, and keeps all homes.
use Rattle.source_meaning.specs.Staying.{KeepsBy, IsKeptAt, KeptBy, Stays}
use Rattle.std.proofs.Common.{◌≡◌, ℕ, zero, suc, ◌+◌, List, [], ◌∷◌, Bool, true, false, ◌||◌, ◌==◌, Option, Some, None}
use Rattle.std.proofs.Common.{get_or, refl, sym, ap, ◌∙◌, nat_lt}
use Rattle.std.proofs.lemmas.Bool.{eqb-false}
use Rattle.std.proofs.lemmas.List.{get_or-set_other}
use Rattle.std.specs.Prelude.{not}
use Rattle.obj_memory.specs.declared.value.Value.{Value}
use Rattle.obj_memory.specs.Objects.{pointer_to}
use Rattle.obj_memory.specs.Judgement.{narrowed}
use Rattle.obj_memory.specs.Operators.{one_if, unary_value}
use Rattle.c_tree.specs.declared.expression.Fixity.{Fixity}
use Rattle.c_tree.specs.declared.expression.Fixity.TheVariants.{Prefix}
use Rattle.c_tree.specs.declared.expression.Update.{Update}
use Rattle.c_tree.specs.declared.expression.Kind.{Kind}
use Rattle.obj_memory.specs.declared.value.Scalar.{Scalar}
use Rattle.c_tree.specs.Tree.{Expression, expression, Expressions, no_expressions, expressions, Lvalue, lvalue, Node}
use Rattle.c_tree.specs.Tree.{constant, function, plain, read, decay, address, parenthesized, deref_function}
use Rattle.c_tree.specs.Tree.{address_function, cast, convert, unary, binary, offset_by, difference, logical_and}
use Rattle.c_tree.specs.Tree.{logical_or, comma, conditional, assign, assign_plain, compound, change_plain, step}
use Rattle.c_tree.specs.Tree.{step_plain, call, call_through, library, printf, LvalueNode, automatic, static, deref}
use Rattle.c_tree.specs.Tree.{index, member, arrow, member_of_value, parenthesized_lvalue, kind_of, line_of}
use Rattle.c_tree.specs.Tree.{lvalue_kind, lvalue_line}
use Rattle.c_tree.specs.declared.program.Variable.{Variable}
use Rattle.c_tree.specs.Programs.{Function}
use Rattle.source_meaning.specs.Statements.{Completion}
use Rattle.source_meaning.specs.State.{State, Rvalue, Outcome, Gives, Ended, Paused, Run, on, ◌>>=◌, ◌>>◌, done, pause}
use Rattle.source_meaning.specs.State.{choose, read_state, change, Setting, Env}
use Rattle.source_meaning.specs.Actions.{integer, is_zero, scalar_of, integer_type, converted, offset_value}
use Rattle.source_meaning.specs.Actions.{difference_value, updated, plain_value, set_plain, update_plain, given}
use Rattle.source_meaning.specs.Actions.{home_pointer, each_value, begin_turn}
use Rattle.source_meaning.specs.Structures.{rvalue, give, as_rvalue, as_pointer, values_of, member_of}
use Rattle.source_meaning.specs.Expressions.{counted_as, counted, nodes_of, function_pointer, is_judged, evaluate}
use Rattle.source_meaning.specs.Expressions.{value, place, node_place, values}
use Rattle.source_meaning.specs.Statements.{in_order, each_of}
use Rattle.c_tree.specs.Blocks.{all_of}
use Rattle.source_meaning.specs.Calls.{header_of, set_up, caller, back_to, returned_by, result_of, enter_found}
use Rattle.source_meaning.specs.Calls.{function_at, calls, env_of}
use Rattle.c_tree.specs.Walk.{assigns, lvalue_assigns, any_assigns}
use Rattle.source_meaning.proofs.Local.{IsLocal, local_tally}
use Rattle.source_meaning.proofs.ActionsAct.{local_operate, local_updated, local_update, local_read_rvalue}
use Rattle.source_meaning.proofs.ActionsAct.{local_write_rvalue, local_take_value, local_callee}
use Rattle.source_meaning.proofs.LibraryActs.{local_routine, local_print}

from_by : {A : Type 0} (y : ℕ) (s s1 : State) (o : Outcome A) → IsKeptAt y s s1 → KeptBy y s1 o → KeptBy y s o
from_by y s s1 (Gives a s') p q = record { plain = q.plain ∙ p.plain; frame = q.frame ∙ p.frame }
from_by y s s1 (Ended e s') p q = tt
from_by y s s1 (Paused s') p q = tt

on_by : {A B : Type 0} (y : ℕ) (s : State) (o : Outcome A) (f : A → Run B) → KeptBy y s o → ((a : A) → Stays y (f a))
    → KeptBy y s (on o f)
on_by y s (Gives a s') f p g = from_by y s s' (f a s') p ((g a).stays s')
on_by y s (Ended e s') f p g = tt
on_by y s (Paused s') f p g = tt

local_by : {A : Type 0} (y : ℕ) (s : State) (o : Outcome A) → KeepsBy s o → KeptBy y s o
local_by y s (Gives a s') h = record { plain = ap (λ vs. get_or vs y (integer 0)) h.plain; frame = h.frame }
local_by y s (Ended e s') h = tt
local_by y s (Paused s') h = tt

module _ {y : ℕ} where
  pub stays_on : {A B : Type 0} {r : Run A} {f : A → Run B} → Stays y r → ((a : A) → Stays y (f a)) → Stays y (r >>= f)
  stays_on {r = r} {f = f} h g = record { stays = λ s. on_by y s (r s) f (h.stays s) g }

  pub stays_local : {A : Type 0} {r : Run A} → IsLocal r → Stays y r
  stays_local {r = r} h = record { stays = λ s. local_by y s (r s) (h.keeps s) }

  pub stays_done : {A : Type 0} {a : A} → Stays y (done a)
  stays_done = record { stays = λ s. record { plain = refl; frame = refl } }

  pub stays_read : {A : Type 0} {f : State → A} → Stays y (read_state f)
  stays_read = record { stays = λ s. record { plain = refl; frame = refl } }

  give_stays : {v : Value} → Stays y (give v)
  give_stays {v = v} = stays_done {a = rvalue v}

  as_stays : {r : Run Value} → Stays y r → Stays y (as_rvalue r)
  as_stays h = stays_on h (λ v. give_stays {v = v})

  pointer_stays : {r : Run Rvalue} → Stays y r → Stays y (as_pointer r)
  pointer_stays h = stays_on h (λ v. give_stays {v = v.value})

  stays_counted_as : {A : Type 0} {r : Run A} (n : ℕ) → Stays y r → Stays y (counted_as n r)
  stays_counted_as n h = stays_on (stays_local (local_tally n)) (λ _. h)

  pub stays_counted : {A : Type 0} {r : Run A} → Stays y r → Stays y (counted r)
  stays_counted h = stays_on (stays_local (local_tally 1)) (λ _. h)

  pub stays_choose : {A : Type 0} (b : Bool) {r q : Run A} → Stays y r → Stays y q → Stays y (choose b r q)
  stays_choose true h g = h
  stays_choose false h g = g

pub stays_set : (x y : ℕ) (v : Value) → (x == y) ≡ false → Stays y (set_plain x v)
stays_set x y v other = record {
  stays = λ s. record
      { plain = get_or-set_other s.plain x y v (integer 0) (λ e. eqb-false x y other (sym e)); frame = refl };
}

stays_update : (x y : ℕ) → (x == y) ≡ false → (u : Update) (k : Scalar) (right : Value) (at : ℕ) (f : Fixity)
    → Stays y (update_plain x (updated u k right at) f)
stays_update x y other u k right at f =
    stays_on (stays_read {f = plain_value x})
    (λ old. stays_on (stays_local (local_updated u k right at old))
    (λ new. stays_on (stays_set x y new other) (λ _. stays_done {a = given f old new})))

pub neither : (a b : Bool) → (a || b) ≡ false → (a ≡ false) × (b ≡ false)
neither true b e = absurd (cc)
neither false b e = (refl, e)

only : (a : Bool) → (a || false) ≡ false → a ≡ false
only a e = (neither a false e).0

either : (a b : Bool) → (a || (b || false)) ≡ false → (a ≡ false) × (b ≡ false)
either a b e = let p = neither a (b || false) e in (p.0, only b p.1)

none_of : (a b c : Bool) → (a || (b || (c || false))) ≡ false → (a ≡ false) × (b ≡ false) × (c ≡ false)
none_of a b c e = let p = neither a (b || (c || false)) e in let q = either b c p.1 in (p.0, q.0, q.1)

module _ (env : Env) (y : ℕ) (call_stays : (f : ℕ) (vs : List Rvalue) (line : ℕ) → Stays y (env.call f vs line)) where
  mutual
    pub evaluate_stays : (e : Expression) → assigns y e ≡ false → Stays y (evaluate env e)
    evaluate_stays (expression kind line node) e = value_stays node kind line e

    pub value_stays : (n : Node) (kind : Kind) (line : ℕ) → assigns y (expression kind line n) ≡ false
        → Stays y (value env n kind line)
    value_stays (constant w) kind line e = stays_counted (give_stays {v = integer w})
    value_stays (function f) kind line e = stays_counted (give_stays {v = function_pointer f})
    value_stays (plain x) kind line e = stays_counted (as_stays (stays_read {f = plain_value x}))
    value_stays (read p) kind line e = stays_on (place_stays p (only _ e))
        (λ q. stays_local (local_read_rvalue (lvalue_kind p) (is_judged p) q (lvalue_line p)))
    value_stays (decay p) kind line e = pointer_stays (place_stays p (only _ e))
    value_stays (address p) kind line e = stays_counted (pointer_stays (place_stays p (only _ e)))
    value_stays (parenthesized a) kind line e = stays_counted (evaluate_stays a (only _ e))
    value_stays (deref_function a) kind line e = stays_counted (pointer_stays (evaluate_stays a (only _ e)))
    value_stays (address_function a) kind line e = stays_counted (pointer_stays (evaluate_stays a (only _ e)))
    value_stays (cast a) kind line e = stays_counted
        (stays_on (evaluate_stays a (only _ e)) (λ v. give_stays {v = converted kind v.value}))
    value_stays (convert a) kind line e = stays_on (evaluate_stays a (only _ e))
        (λ v. give_stays {v = converted kind v.value})
    value_stays (unary op a) kind line e =
        stays_counted (stays_on (evaluate_stays a (only _ e))
        (λ v. give_stays {v = integer (unary_value op (integer_type (scalar_of (kind_of a))) v.value.word)}))
    value_stays (binary op a b) kind line e =
        let h = either (assigns y a) (assigns y b) e in
        stays_counted (stays_on (evaluate_stays a h.0)
        (λ v. stays_on (evaluate_stays b h.1)
        (λ w. as_stays (stays_local
        (local_operate op (integer_type (scalar_of (kind_of a))) v.value w.value line)))))
    value_stays (offset_by form size a b) kind line e =
        let h = either (assigns y a) (assigns y b) e in
        stays_counted (stays_on (evaluate_stays a h.0)
        (λ v. stays_on (evaluate_stays b h.1) (λ w. give_stays {v = offset_value form size v.value w.value})))
    value_stays (difference size a b) kind line e =
        let h = either (assigns y a) (assigns y b) e in
        stays_counted (stays_on (evaluate_stays a h.0)
        (λ v. stays_on (evaluate_stays b h.1) (λ w. give_stays {v = difference_value size v.value w.value})))
    value_stays (logical_and a b) kind line e =
        let h = either (assigns y a) (assigns y b) e in
        stays_counted (stays_on (evaluate_stays a h.0)
        (λ v. stays_choose (is_zero v.value) (give_stays {v = integer 0})
        (stays_on (evaluate_stays b h.1) (λ w. give_stays {v = integer (one_if (not (is_zero w.value)))}))))
    value_stays (logical_or a b) kind line e =
        let h = either (assigns y a) (assigns y b) e in
        stays_counted (stays_on (evaluate_stays a h.0)
        (λ v. stays_choose (is_zero v.value)
        (stays_on (evaluate_stays b h.1) (λ w. give_stays {v = integer (one_if (not (is_zero w.value)))}))
        (give_stays {v = integer 1})))
    value_stays (comma a b) kind line e =
        let h = either (assigns y a) (assigns y b) e in stays_counted
        (stays_on (evaluate_stays a h.0) (λ v. evaluate_stays b h.1))
    value_stays (conditional a b c) kind line e =
        let h = none_of (assigns y a) (assigns y b) (assigns y c) e in
        stays_counted (stays_on (evaluate_stays a h.0)
        (λ v. stays_choose (is_zero v.value) (evaluate_stays c h.2) (evaluate_stays b h.1)))
    value_stays (assign p a) kind line e =
        let h = either (lvalue_assigns y p) (assigns y a) e in
        stays_counted (stays_on (place_stays p h.0)
        (λ q. stays_on (evaluate_stays a h.1)
        (λ v. stays_local (local_write_rvalue (lvalue_kind p) (is_judged p) q.value (lvalue_line p) v))))
    value_stays (assign_plain x a) kind line e =
        let h = either (x.variable == y) (assigns y a) e in
        stays_counted_as (nodes_of x)
        (stays_on (evaluate_stays a h.1)
        (λ v. stays_on (stays_set x.variable y v.value h.0) (λ _. give_stays {v = v.value})))
    value_stays (compound u p a) kind line e =
        let h = either (lvalue_assigns y p) (assigns y a) e in
        stays_counted (stays_on (place_stays p h.0) (λ q. stays_on (evaluate_stays a h.1) (λ v.
        as_stays (stays_local
        (local_update (scalar_of (lvalue_kind p)) (is_judged p) q.value (lvalue_line p)
        (updated u (scalar_of (lvalue_kind p)) v.value line) Prefix
        (local_updated u (scalar_of (lvalue_kind p)) v.value line))))))
    value_stays (change_plain u x a) kind line e =
        let h = either (x.variable == y) (assigns y a) e in
        stays_counted_as (nodes_of x)
        (stays_on (evaluate_stays a h.1)
        (λ v. as_stays (stays_update x.variable y h.0 u (scalar_of kind) v.value line Prefix)))
    value_stays (step u fixity p) kind line e =
        stays_counted (stays_on (place_stays p (only _ e)) (λ q.
        as_stays (stays_local
        (local_update (scalar_of (lvalue_kind p)) (is_judged p) q.value (lvalue_line p)
        (updated u (scalar_of (lvalue_kind p)) (integer 1) line) fixity
        (local_updated u (scalar_of (lvalue_kind p)) (integer 1) line)))))
    value_stays (step_plain u fixity x) kind line e = stays_counted_as (nodes_of x)
        (as_stays (stays_update x.variable y (only _ e) u (scalar_of kind) (integer 1) line fixity))
    value_stays (call f args) kind line e = stays_counted (stays_on (values_stay args e) (λ vs. call_stays f vs line))
    value_stays (call_through type_number a args) kind line e =
        let h = neither (assigns y a) (any_assigns y args) e in
        stays_counted (stays_on (evaluate_stays a h.0) (λ v. stays_on (values_stay args h.1) (λ vs.
        stays_on (stays_local (local_callee env.setting.functions type_number v.value line))
        (λ f. call_stays f vs line))))
    value_stays (library name args) kind line e =
        stays_counted (stays_on (values_stay args e)
        (λ vs. stays_on (stays_local (local_tally 1))
        (λ _. as_stays (stays_local (local_routine env.setting name (values_of vs) line)))))
    value_stays (printf format args) kind line e =
        stays_counted (stays_on (stays_local (local_tally 1))
        (λ _. stays_on (values_stay args e)
        (λ vs. stays_on (stays_local (local_tally 1))
        (λ _. as_stays (stays_local (local_print format (values_of vs) line))))))

    pub place_stays : (p : Lvalue) → lvalue_assigns y p ≡ false → Stays y (place env p)
    place_stays (lvalue kind line node) e = node_stays node kind line e

    node_stays : (n : LvalueNode) (kind : Kind) (line : ℕ) → lvalue_assigns y (lvalue kind line n) ≡ false
        → Stays y (node_place env n)
    node_stays (automatic x) kind line e = stays_counted (as_stays (stays_read {f = home_pointer x}))
    node_stays (static n) kind line e = stays_counted (as_stays (stays_read {f = λ s. pointer_to n s.objects}))
    node_stays (deref a) kind line e = stays_counted (pointer_stays (evaluate_stays a (only _ e)))
    node_stays (index form size a b) kind line e =
        let h = either (assigns y a) (assigns y b) e in
        stays_counted (stays_on (evaluate_stays a h.0)
        (λ v. stays_on (evaluate_stays b h.1) (λ w. give_stays {v = offset_value form size v.value w.value})))
    node_stays (member p offset size) kind line e = stays_counted
        (stays_on (place_stays p (only _ e)) (λ q. stays_done {a = member_of offset size q}))
    node_stays (arrow a offset size) kind line e = stays_counted
        (stays_on (evaluate_stays a (only _ e)) (λ v. give_stays {v = narrowed offset size v.value}))
    node_stays (member_of_value a offset size) kind line e = stays_counted
        (stays_on (evaluate_stays a (only _ e)) (λ v. stays_done {a = member_of offset size v}))
    node_stays (parenthesized_lvalue p) kind line e = stays_counted (place_stays p (only _ e))

    values_stay : (es : Expressions) → any_assigns y es ≡ false → Stays y (each_value (values env es))
    values_stay no_expressions e = stays_done
    values_stay (expressions a es) e =
        let h = neither (assigns y a) (any_assigns y es) e in stays_on
        (stays_on (evaluate_stays a h.0) (λ v. stays_local (local_take_value (kind_of a) (line_of a) v)))
        (λ v. stays_on (values_stay es h.1) (λ vs. stays_done {a = v ∷ vs}))

-- a call gives the caller its variables back

module _ (y : ℕ) (result : Kind) (s : State) where
  given_kept : (o : Outcome Rvalue) → KeptBy y s (on o (λ v. change (back_to (caller s)) >> done v))
  given_kept (Gives v s') = record { plain = refl; frame = refl }
  given_kept (Ended e s') = tt
  given_kept (Paused s') = tt

  back_kept : (o : Outcome Completion)
      → KeptBy y s (on o (λ completion. returned_by result completion >>= (λ v. change (back_to (caller s)) >> done v)))
  back_kept (Gives completion s') = given_kept (returned_by result completion s')
  back_kept (Ended e s') = tt
  back_kept (Paused s') = tt

  entered_kept : (o : Outcome (Unit {0})) (r : Run Completion)
      → KeptBy y s (on o (λ _. r >>=
      (λ completion. returned_by result completion >>= (λ v. change (back_to (caller s)) >> done v))))
  entered_kept (Gives a s') r = back_kept (r s')
  entered_kept (Ended e s') r = tt
  entered_kept (Paused s') r = tt

turn_stays : (y : ℕ) (b : Bool) → Stays y (choose b (change (λ s. record s { turns = s.turns + 1 })) pause)
turn_stays y true = record { stays = λ s. record { plain = refl; frame = refl } }
turn_stays y false = record { stays = λ s. tt }

pub begin_stays : (y limit : ℕ) → Stays y (begin_turn limit)
begin_stays y limit = record { stays = λ s. (turn_stays y (nat_lt s.turns limit)).stays s }

enter_stays : (y : ℕ) (env : Env) (o : Option Function) (vs : List Rvalue) (line : ℕ)
    → Stays y (enter_found env o vs line)
enter_stays y env None vs line = record { stays = λ s. tt }
enter_stays y env (Some f) vs line =
    stays_on (begin_stays y env.limit)
    (λ _. record {
      stays = λ s. entered_kept y (result_of env.setting f.type_number) s
          (set_up env.setting (header_of f) vs line s)
          (counted (in_order (each_of (record env { variables = all_of f }) f.body)));
    })

pub calls_stay : (y : ℕ) (functions : List Function) (g : Setting) (limit n f : ℕ) (vs : List Rvalue) (line : ℕ)
    → Stays y (calls functions g limit n f vs line)
calls_stay y functions g limit zero f vs line = record { stays = λ s. tt }
calls_stay y functions g limit (suc n) f vs line =
    enter_stays y (record
    { setting = g; variables = []; limit = limit; depth = suc n; call = calls functions g limit n })
    (function_at functions f) vs line

-- in the body of a function
pub expression_stays : (functions : List Function) (g : Setting) (limit n : ℕ) (variables : List Variable) (y : ℕ)
    (e : Expression) → assigns y e ≡ false → Stays y (evaluate (env_of functions g limit n variables) e)
expression_stays functions g limit n variables y e = evaluate_stays (env_of functions g limit n variables) y
    (calls_stay y functions g limit n) e

pub lvalue_stays : (functions : List Function) (g : Setting) (limit n : ℕ) (variables : List Variable) (y : ℕ)
    (p : Lvalue) → lvalue_assigns y p ≡ false → Stays y (place (env_of functions g limit n variables) p)
lvalue_stays functions g limit n variables y p = place_stays (env_of functions g limit n variables) y
    (calls_stay y functions g limit n) p
