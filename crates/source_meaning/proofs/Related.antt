-- A relation between the runs of two environments that holds of their actions, turns, loops and calls holds of
-- expressions,
-- lvalues and initializers.
use Rattle.c_tree.specs.declared.program.Variable.{Variable}
use Rattle.std.proofs.Common.{◌≡◌, ℕ, ◌+◌, length, Option, Some, None, List, [], ◌∷◌, Bool, true, false, refl}
use Rattle.std.specs.Prelude.{not}
use Rattle.obj_memory.specs.declared.value.Value.{Value}
use Rattle.obj_memory.specs.Objects.{pointer_to}
use Rattle.obj_memory.specs.Judgement.{narrowed}
use Rattle.obj_memory.specs.Operators.{one_if, unary_value}
use Rattle.c_tree.specs.declared.expression.Fixity.TheVariants.{Prefix}
use Rattle.c_tree.specs.declared.expression.Kind.{Kind}
use Rattle.c_tree.specs.Tree.{Expression, expression, Expressions, no_expressions, expressions, Lvalue, lvalue, Node}
use Rattle.c_tree.specs.Tree.{constant, function, plain, read, decay, address, parenthesized, deref_function}
use Rattle.c_tree.specs.Tree.{address_function, cast, convert, unary, binary, offset_by, difference, logical_and}
use Rattle.c_tree.specs.Tree.{logical_or, comma, conditional, assign, assign_plain, compound, change_plain, step}
use Rattle.c_tree.specs.Tree.{step_plain, call, call_through, library, printf, LvalueNode, automatic, static, deref}
use Rattle.c_tree.specs.Tree.{index, member, arrow, member_of_value, parenthesized_lvalue, kind_of, line_of}
use Rattle.c_tree.specs.Tree.{lvalue_kind, lvalue_line}
use Rattle.c_tree.specs.Statements.{Part, Content, value_content, literal_content, Initializer, of_plain, of_object}
use Rattle.c_tree.specs.Statements.{DeclaredVariable}
use Rattle.source_meaning.specs.Statements.{Completion}
use Rattle.source_meaning.specs.State.{State, Rvalue, Run, ◌>>=◌, done, choose, read_state, Setting, Env}
use Rattle.c_tree.specs.Kinds.{size_of_kind}
use Rattle.source_meaning.specs.Actions.{integer, is_zero, scalar_of, integer_type, converted, offset_value}
use Rattle.source_meaning.specs.Actions.{difference_value, updated, plain_value, home_pointer, each_value, begin_turn}
use Rattle.source_meaning.specs.Structures.{rvalue, give, as_rvalue, as_pointer, values_of, member_of}
use Rattle.source_meaning.specs.Expressions.{argument, counted_as, counted, nodes_of, function_pointer, is_judged}
use Rattle.source_meaning.specs.Expressions.{value, place, values, evaluate, node_place}
use Rattle.source_meaning.specs.Initializers.{store_content, store_parts, initialize, initialize_all}
use Rattle.source_meaning.specs.Statements.{turns, turns_before}
use Rattle.source_meaning.specs.Acting.{at_work, IsAction}
use Rattle.source_meaning.proofs.Acting.{acts_done, acts_skip, acts_read, acts_tally}
use Rattle.source_meaning.proofs.ActionsAct.{acts_operate, acts_updated, acts_set_plain, acts_update_plain, acts_update}
use Rattle.source_meaning.proofs.ActionsAct.{acts_read_rvalue, acts_write_rvalue, acts_take_value, acts_callee}
use Rattle.source_meaning.proofs.ActionsAct.{acts_zero_variable, acts_store_bytes}
use Rattle.source_meaning.proofs.LibraryActs.{acts_routine, acts_print}

pub record Related (env env' : Env) (R : (A : Type 0) → Run A → Run A → Type 0) : Type 1 where
  pub on : {A B : Type 0} {r r' : Run A} {k k' : A → Run B} → R _ r r' → ((a : A) → R _ (k a) (k' a))
      → R _ (r >>= k) (r' >>= k')
  pub action : {A : Type 0} {r : Run A} → IsAction r → R _ r r
  pub turn : R _ (begin_turn env.limit) (begin_turn env'.limit)
  pub call : (f : ℕ) (vs : List Rvalue) (line : ℕ) → R _ (env.call f vs line) (env'.call f vs line)
  pub loop : {condition condition' : Run Bool} {body body' : Run Completion} {step step' : Run (Unit {0})}
      → R _ condition condition' → R _ body body' → R _ step step'
      → R _ (turns env.depth env.limit condition body step) (turns env'.depth env'.limit condition' body' step')
  pub loop_before : {condition condition' : Run Bool} {body body' : Run Completion} → R _ condition condition'
      → R _ body body'
      → R _ (turns_before env.depth env.limit condition body) (turns_before env'.depth env'.limit condition' body')

module _ (g : Setting) (variables : List Variable) (limit limit' depth depth' : ℕ)
    (runs runs' : ℕ → List Rvalue → ℕ → Run Rvalue)
    (R : (A : Type 0) → Run A → Run A → Type 0)
    (h : Related (record { setting = g; variables = variables; limit = limit; depth = depth; call = runs })
    (record { setting = g; variables = variables; limit = limit'; depth = depth'; call = runs' }) R) where
  abbrev env : Env
  env = record { setting = g; variables = variables; limit = limit; depth = depth; call = runs }

  abbrev env' : Env
  env' = record { setting = g; variables = variables; limit = limit'; depth = depth'; call = runs' }

  choose_related : {A : Type 0} (b : Bool) {r r' q q' : Run A} → R _ r q → R _ r' q'
      → R _ (choose b r r') (choose b q q')
  choose_related true p q = p
  choose_related false p q = q

  counted_as_related : {A : Type 0} (n : ℕ) {r r' : Run A} → R _ r r' → R _ (counted_as n r) (counted_as n r')
  counted_as_related n p = h.on (h.action (acts_tally n)) (λ _. p)

  counted_related : {A : Type 0} {r r' : Run A} → R _ r r' → R _ (counted r) (counted r')
  counted_related p = counted_as_related 1 p

  done_related : {A : Type 0} (a : A) → R _ (done a) (done a)
  done_related a = h.action acts_done

  read_related : {A : Type 0} (f : State → A) → ((k : ℕ) (s : State) → f (at_work k s) ≡ f s)
      → R _ (read_state f) (read_state f)
  read_related f e = h.action (acts_read e)

  give_related : (v : Value) → R _ (give v) (give v)
  give_related v = done_related (rvalue v)

  as_related : {r r' : Run Value} → R _ r r' → R _ (as_rvalue r) (as_rvalue r')
  as_related p = h.on p (λ v. give_related v)

  pointer_related : {r r' : Run Rvalue} → R _ r r' → R _ (as_pointer r) (as_pointer r')
  pointer_related p = h.on p (λ v. give_related v.value)

  mutual
    pub evaluate_related : (e : Expression) → R _ (evaluate env e) (evaluate env' e)
    evaluate_related (expression kind line node) = value_related node kind line

    pub value_related : (n : Node) (kind : Kind) (line : ℕ) → R _ (value env n kind line) (value env' n kind line)
    value_related (constant w) kind line = counted_related (give_related (integer w))
    value_related (function f) kind line = counted_related (give_related (function_pointer f))
    value_related (plain x) kind line = counted_related (as_related (read_related (plain_value x) (λ k s. refl)))
    value_related (read p) kind line = h.on (place_related p)
        (λ q. h.action (acts_read_rvalue (lvalue_kind p) (is_judged p) q (lvalue_line p)))
    value_related (decay p) kind line = pointer_related (place_related p)
    value_related (address p) kind line = counted_related (pointer_related (place_related p))
    value_related (parenthesized a) kind line = counted_related (evaluate_related a)
    value_related (deref_function a) kind line = counted_related (pointer_related (evaluate_related a))
    value_related (address_function a) kind line = counted_related (pointer_related (evaluate_related a))
    value_related (cast a) kind line = counted_related
        (h.on (evaluate_related a) (λ v. give_related (converted kind v.value)))
    value_related (convert a) kind line = h.on (evaluate_related a) (λ v. give_related (converted kind v.value))
    value_related (unary op a) kind line =
        counted_related (h.on (evaluate_related a)
        (λ v. give_related (integer (unary_value op (integer_type (scalar_of (kind_of a))) v.value.word))))
    value_related (binary op a b) kind line =
        counted_related (h.on (evaluate_related a)
        (λ x. h.on (evaluate_related b)
        (λ y. as_related (h.action (acts_operate op (integer_type (scalar_of (kind_of a))) x.value y.value line)))))
    value_related (offset_by form size a b) kind line =
        counted_related (h.on (evaluate_related a)
        (λ x. h.on (evaluate_related b) (λ y. give_related (offset_value form size x.value y.value))))
    value_related (difference size a b) kind line =
        counted_related (h.on (evaluate_related a)
        (λ x. h.on (evaluate_related b) (λ y. give_related (difference_value size x.value y.value))))
    value_related (logical_and a b) kind line =
        counted_related (h.on (evaluate_related a)
        (λ x. choose_related (is_zero x.value) (give_related (integer 0))
        (h.on (evaluate_related b) (λ y. give_related (integer (one_if (not (is_zero y.value))))))))
    value_related (logical_or a b) kind line =
        counted_related (h.on (evaluate_related a)
        (λ x. choose_related (is_zero x.value)
        (h.on (evaluate_related b) (λ y. give_related (integer (one_if (not (is_zero y.value))))))
        (give_related (integer 1))))
    value_related (comma a b) kind line = counted_related (h.on (evaluate_related a) (λ _. evaluate_related b))
    value_related (conditional a b c) kind line =
        counted_related (h.on (evaluate_related a)
        (λ x. choose_related (is_zero x.value) (evaluate_related c) (evaluate_related b)))
    value_related (assign p a) kind line =
        counted_related (h.on (place_related p)
        (λ q. h.on (evaluate_related a)
        (λ v. h.action (acts_write_rvalue (lvalue_kind p) (is_judged p) q.value (lvalue_line p) v))))
    value_related (assign_plain x a) kind line =
        counted_as_related (nodes_of x)
        (h.on (evaluate_related a)
        (λ v. h.on (h.action (acts_set_plain x.variable v.value)) (λ _. give_related v.value)))
    value_related (compound u p a) kind line =
        counted_related (h.on (place_related p) (λ q. h.on (evaluate_related a) (λ y.
        as_related (h.action (acts_update (scalar_of (lvalue_kind p)) (is_judged p) q.value (lvalue_line p) u y.value
        line Prefix)))))
    value_related (change_plain u x a) kind line =
        counted_as_related (nodes_of x) (h.on (evaluate_related a) (λ y.
        as_related (h.action (acts_update_plain x.variable (updated u (scalar_of kind) y.value line) Prefix
        (acts_updated u (scalar_of kind) y.value line)))))
    value_related (step u fixity p) kind line =
        counted_related (h.on (place_related p) (λ q.
        as_related (h.action (acts_update (scalar_of (lvalue_kind p)) (is_judged p) q.value (lvalue_line p) u
        (integer 1) line fixity))))
    value_related (step_plain u fixity x) kind line =
        counted_as_related (nodes_of x)
        (as_related (h.action
        (acts_update_plain x.variable (updated u (scalar_of kind) (integer 1) line) fixity
        (acts_updated u (scalar_of kind) (integer 1) line))))
    value_related (call f args) kind line = counted_related (h.on (values_related args) (λ vs. h.call f vs line))
    value_related (call_through type_number a args) kind line =
        counted_related (h.on (evaluate_related a)
        (λ v. h.on (values_related args)
        (λ vs. h.on (h.action (acts_callee g.functions type_number v.value line)) (λ f. h.call f vs line))))
    value_related (library name args) kind line =
        counted_related (h.on (values_related args)
        (λ vs. h.on (h.action (acts_tally 1))
        (λ _. as_related (h.action (acts_routine g name (values_of vs) line)))))
    value_related (printf format args) kind line =
        counted_related (h.on (h.action (acts_tally 1))
        (λ _. h.on (values_related args)
        (λ vs. h.on (h.action (acts_tally 1))
        (λ _. as_related (h.action (acts_print format (values_of vs) line))))))

    pub place_related : (p : Lvalue) → R _ (place env p) (place env' p)
    place_related (lvalue kind line node) = node_related node

    node_related : (n : LvalueNode) → R _ (node_place env n) (node_place env' n)
    node_related (automatic x) = counted_related (as_related (read_related (home_pointer x) (λ k s. refl)))
    node_related (static n) = counted_related (as_related (read_related (λ s. pointer_to n s.objects) (λ k s. refl)))
    node_related (deref a) = counted_related (pointer_related (evaluate_related a))
    node_related (index form size a b) =
        counted_related (h.on (evaluate_related a)
        (λ x. h.on (evaluate_related b) (λ y. give_related (offset_value form size x.value y.value))))
    node_related (member p offset size) = counted_related
        (h.on (place_related p) (λ q. done_related (member_of offset size q)))
    node_related (arrow a offset size) = counted_related
        (h.on (evaluate_related a) (λ v. give_related (narrowed offset size v.value)))
    node_related (member_of_value a offset size) = counted_related
        (h.on (evaluate_related a) (λ v. done_related (member_of offset size v)))
    node_related (parenthesized_lvalue p) = counted_related (place_related p)

    values_related : (es : Expressions) → R _ (each_value (values env es)) (each_value (values env' es))
    values_related no_expressions = done_related []
    values_related (expressions e es) = h.on
        (h.on (evaluate_related e) (λ v. h.action (acts_take_value (kind_of e) (line_of e) v)))
        (λ v. h.on (values_related es) (λ vs. done_related (v ∷ vs)))

  pub argument_related : (e : Expression)
      → R _ (argument (kind_of e) (line_of e) (evaluate env e)) (argument (kind_of e) (line_of e) (evaluate env' e))
  argument_related e = h.on (evaluate_related e) (λ v. h.action (acts_take_value (kind_of e) (line_of e) v))

  -- initializers

  content_related : (p : Value) (offset : ℕ) (content : Content)
      → R _ (store_content env p offset content) (store_content env' p offset content)
  content_related p offset (value_content e) =
      h.on (evaluate_related e)
      (λ v. h.on (h.action (acts_write_rvalue (kind_of e) false (narrowed offset (size_of_kind (kind_of e)) p)
      (line_of e) v)) (λ _. h.action acts_skip))
  content_related p offset (literal_content bytes) = h.on (h.action (acts_tally (1 + length bytes)))
      (λ _. h.action (acts_store_bytes p offset bytes))

  pub parts_related : (p : Value) (parts : List Part) → R _ (store_parts env p parts) (store_parts env' p parts)
  parts_related p [] = h.action acts_skip
  parts_related p (q ∷ qs) = h.on (content_related p q.offset q.content) (λ _. parts_related p qs)

  initialize_related : (x : ℕ) (i : Option Initializer) → R _ (initialize env x i) (initialize env' x i)
  initialize_related x None = h.action acts_skip
  initialize_related x (Some (of_plain e)) = h.on (evaluate_related e) (λ v. h.action (acts_set_plain x v.value))
  initialize_related x (Some (of_object parts)) =
      h.on (h.action (acts_zero_variable x))
      (λ _. h.on (read_related (home_pointer x) (λ k s. refl)) (λ p. parts_related p parts))

  pub initialize_all_related : (ds : List DeclaredVariable) → R _ (initialize_all env ds) (initialize_all env' ds)
  initialize_all_related [] = h.action acts_skip
  initialize_all_related (d ∷ ds) = h.on (initialize_related d.variable d.initializer) (λ _. initialize_all_related ds)
