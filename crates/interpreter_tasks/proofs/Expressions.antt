-- Each expression and each lvalue means its parts.
use Rattle.std.proofs.Common.{◌≡◌, ℕ, List, [], ◌∷◌, refl, sym, ap, ◌∙◌, arith, drop, length}
use Rattle.c_tree.specs.declared.expression.Kind.{Kind}
use Rattle.c_tree.specs.Tree.{Expression, expression, Expressions, Lvalue, lvalue, Node}
use Rattle.c_tree.specs.Tree.{constant, function, plain, read, decay, address, parenthesized, deref_function}
use Rattle.c_tree.specs.Tree.{address_function, cast, convert, unary, binary, offset_by, difference, logical_and}
use Rattle.c_tree.specs.Tree.{logical_or, comma, conditional, assign, assign_plain, compound, change_plain, step}
use Rattle.c_tree.specs.Tree.{step_plain, call, call_through, library, printf, LvalueNode, automatic, static, deref}
use Rattle.c_tree.specs.Tree.{index, member, arrow, member_of_value, parenthesized_lvalue}
use Rattle.source_meaning.specs.State.{State, Rvalue, Outcome, Run, on, ◌>>=◌, ◌>>◌, done, tally}
use Rattle.source_meaning.specs.Actions.{each_value, integer, scalar_of}
use Rattle.source_meaning.specs.Structures.{as_rvalue, rvalue, values_of}
use Rattle.source_meaning.specs.Library.{routine}
use Rattle.source_meaning.specs.Printing.{print_formatted}
use Rattle.source_meaning.specs.Calls.{first_of, rest_of}
use Rattle.source_meaning.specs.Expressions.{callee, evaluate, function_pointer, nodes_of, place, values}
use Rattle.interpreter_tasks.specs.Registers.{Course, Registers, env_at, pushed, pushing}
use Rattle.interpreter_tasks.specs.Actions.{Action, AsPointer, CallRoutine, ChangePlain, Drop, Give, GiveHome}
use Rattle.interpreter_tasks.specs.Actions.{GivePlain, GiveStatic, Member, Narrow, Offset, Print, Truth, act, arguments}
use Rattle.interpreter_tasks.specs.Tasks.{Task, Do, Evaluate, Locate, Arguments, Choose, And, Or, Call, CallThrough}
use Rattle.interpreter_tasks.specs.Tasks.{all_pushed, truth_of, perform, rest}
use Rattle.interpreter_tasks.specs.Parts.{Parts, after_one, after_two, count_of, node_parts, expression_parts}
use Rattle.interpreter_tasks.specs.Parts.{lvalue_node_parts, lvalue_parts}
use Rattle.interpreter_tasks.proofs.Flow.{on_on, worked, no_work, last_one, evaluated, located}
use Rattle.interpreter_tasks.proofs.Arguments.{argued, arguments_found, below_found}

module _ (c : Course) (r : Registers) where
  -- the value of a run found
  abbrev push : Rvalue → Run Registers
  push v = done (pushed v r)

  -- an operand, then an action
  module _ (s : State) (t : Action) (k : Rvalue → Run Rvalue)
      (h : (v : Rvalue) (s : State) → on (k v s) push ≡ act c t (pushed v r) s) where
    acted : (v : Rvalue) (s : State) → on (k v s) push ≡ rest c (Do t ∷ []) (pushed v r) s
    unfolding perform
    acted v s = h v s ∙ last_one c (Do t) (pushed v r) s

    one_value : (a : Expression)
        → on (on (evaluate (env_at c r) a s) k) push ≡ rest c (after_one (Evaluate a) t) r s
    one_value a = on_on (evaluate (env_at c r) a s) k push ∙ evaluated c r (Do t ∷ []) s a _ acted

    one_place : (p : Lvalue) → on (on (place (env_at c r) p s) k) push ≡ rest c (after_one (Locate p) t) r s
    one_place p = on_on (place (env_at c r) p s) k push ∙ located c r (Do t ∷ []) s p _ acted

  -- two operands, then an action
  module _ (s : State) (t : Action) (k : Rvalue → Rvalue → Run Rvalue)
      (h : (x y : Rvalue) (s : State) → on (k x y s) push ≡ act c t (pushed y (pushed x r)) s) (b : Expression) where
    both_acted : (x : Rvalue) (s : State)
        → on (on (evaluate (env_at c r) b s) (k x)) push ≡ rest c (after_one (Evaluate b) t) (pushed x r) s
    unfolding perform
    both_acted x s =
        on_on (evaluate (env_at c r) b s) (k x) push
        ∙ evaluated c (pushed x r) (Do t ∷ []) s b _ (λ y s. h x y s ∙ last_one c (Do t) (pushed y (pushed x r)) s)

    two_values : (a : Expression)
        → on (on (evaluate (env_at c r) a s) (λ x s. on (evaluate (env_at c r) b s) (k x))) push
        ≡ rest c (after_two (Evaluate a) (Evaluate b) t) r s
    two_values a =
        on_on (evaluate (env_at c r) a s) _ push ∙ evaluated c r (after_one (Evaluate b) t) s a _ both_acted

    place_and_value : (p : Lvalue)
        → on (on (place (env_at c r) p s) (λ x s. on (evaluate (env_at c r) b s) (k x))) push
        ≡ rest c (after_two (Locate p) (Evaluate b) t) r s
    place_and_value p =
        on_on (place (env_at c r) p s) _ push ∙ located c r (after_one (Evaluate b) t) s p _ both_acted

  -- the right operand of `&&` and `||`
  pub truth_comes : (b : Expression) (s : State)
      → on (truth_of (env_at c r) b s) push ≡ rest c (after_one (Evaluate b) Truth) r s
  unfolding act
  truth_comes b s = one_value s Truth _ (λ v s. refl) b

  -- a run of the value of an operand, which a task means
  then_task : (a : Expression) (t : Task) (k : Rvalue → Run Rvalue) (s : State)
      → ((v : Rvalue) (s : State) → on (k v s) push ≡ perform c t (pushed v r) s)
      → on (on (evaluate (env_at c r) a s) k) push ≡ rest c (Evaluate a ∷ t ∷ []) r s
  then_task a t k s h =
      on_on (evaluate (env_at c r) a s) k push
      ∙ evaluated c r (t ∷ []) s a _ (λ v s. h v s ∙ last_one c t (pushed v r) s)

  -- a value is let go, and a number is found
  let_go : (v : Rvalue) (ts : List Task) (s : State) → rest c ts r s ≡ rest c (Do Drop ∷ ts) (pushed v r) s
  unfolding rest perform act
  let_go v ts s = refl

  given : (w : ℕ) (ts : List Task) (s : State)
      → rest c ts (pushed (rvalue (integer w)) r) s ≡ rest c (Do (Give (integer w)) ∷ ts) r s
  unfolding rest perform act
  given w ts s = refl

  -- a place, then a number as its right operand, then an action
  place_and_number : (p : Lvalue) (w : ℕ) (t : Action) (k : Rvalue → Run Rvalue) (s : State)
      → ((v : Rvalue) (s : State) → on (k v s) push ≡ act c t (pushed (rvalue (integer w)) (pushed v r)) s)
      → on (on (place (env_at c r) p s) k) push ≡ rest c (after_two (Locate p) (Do (Give (integer w))) t) r s
  unfolding rest perform act
  place_and_number p w t k s h =
      on_on (place (env_at c r) p s) k push
      ∙ located c r (after_one (Do (Give (integer w))) t) s p _ (λ v s.
      h v s ∙ last_one c (Do t) (pushed (rvalue (integer w)) (pushed v r)) s)

-- what is said of arguments and of the values below them is said of them where they are found again
found_both : (F : (arguments below : List Rvalue) → Outcome Registers) (vs below : List Rvalue) (n : ℕ)
    → length vs ≡ n → F vs below ≡ F (arguments n (all_pushed vs below)) (drop n (all_pushed vs below))
found_both F vs below n e =
    sym (ap (λ xs. F xs (drop n (all_pushed vs below))) (arguments_found vs below n e)
    ∙ ap (λ ys. F vs ys) (below_found vs below n e))

-- arguments, then a task on them
arguments_then : (c : Course) (r q : Registers) (es : Expressions) (t : Task) (k : List Rvalue → Run Rvalue)
    (F : (arguments below : List Rvalue) → Run Registers) (s : State)
    → ((vs : List Rvalue) (s : State) → on (k vs s) (λ v. done (pushed v q)) ≡ F vs r.values s)
    → ((xs : List Rvalue) (s : State) → F (arguments (count_of es) xs) (drop (count_of es) xs) s
    ≡ perform c t (record r { values = xs }) s)
    → on (on (each_value (values (env_at c r) es) s) k) (λ v. done (pushed v q))
    ≡ rest c (Arguments es ∷ t ∷ []) r s
arguments_then c r q es t k F s g h =
    on_on (each_value (values (env_at c r) es) s) k (λ v. done (pushed v q))
    ∙ argued c r (t ∷ []) s es _ (λ vs s e.
    g vs s
    ∙ found_both (λ xs ys. F xs ys s) vs r.values (count_of es) e
    ∙ h (all_pushed vs r.values) s
    ∙ last_one c t (record r { values = all_pushed vs r.values }) s)

two_nodes : (s : State) → worked 1 (worked 1 s) ≡ worked 2 s
two_nodes s = ap (λ w. record s { work = w }) (omega arith)

-- a part of the source means the work that it is and its tasks
abbrev pub Comes : Course → (whole : Task) → Parts → Registers → State → Type 0
Comes c t p r s = perform c t r s ≡ rest c p.tasks r (worked p.work s)

module _ (c : Course) (r : Registers) (kind : Kind) (line : ℕ) (s : State) where
  node_comes : (node : Node) → Comes c (Evaluate (expression kind line node)) (node_parts node kind line) r s
  unfolding perform act node_parts
  node_comes (constant w) = last_one c (Do (Give (integer w))) r (worked 1 s)
  node_comes (function f) = last_one c (Do (Give (function_pointer f))) r (worked 1 s)
  node_comes (plain x) = last_one c (Do (GivePlain x)) r (worked 1 s)
  node_comes (read p) = one_place c r s _ _ (λ v s. refl) p ∙ ap (rest c _ r) (no_work s)
  node_comes (decay p) = one_place c r s _ _ (λ v s. refl) p ∙ ap (rest c _ r) (no_work s)
  node_comes (address p) = one_place c r (worked 1 s) _ _ (λ v s. refl) p
  node_comes (parenthesized a) = last_one c (Evaluate a) r (worked 1 s)
  node_comes (deref_function a) = one_value c r (worked 1 s) _ _ (λ v s. refl) a
  node_comes (address_function a) = one_value c r (worked 1 s) _ _ (λ v s. refl) a
  node_comes (cast a) = one_value c r (worked 1 s) _ _ (λ v s. refl) a
  node_comes (convert a) = one_value c r s _ _ (λ v s. refl) a ∙ ap (rest c _ r) (no_work s)
  node_comes (unary op a) = one_value c r (worked 1 s) _ _ (λ v s. refl) a
  node_comes (binary op a b) = two_values c r (worked 1 s) _ _ (λ x y s. refl) b a
  node_comes (offset_by form size a b) = two_values c r (worked 1 s) _ _ (λ x y s. refl) b a
  node_comes (difference size a b) = two_values c r (worked 1 s) _ _ (λ x y s. refl) b a
  node_comes (logical_and a b) = then_task c r a (And b) _ (worked 1 s) (λ v s. refl)
  node_comes (logical_or a b) = then_task c r a (Or b) _ (worked 1 s) (λ v s. refl)
  node_comes (comma a b) =
      on_on (evaluate (env_at c r) a (worked 1 s)) _ (push c r)
      ∙ evaluated c r (Do Drop ∷ Evaluate b ∷ []) (worked 1 s) a _ (λ v s.
      last_one c (Evaluate b) r s ∙ let_go c r v (Evaluate b ∷ []) s)
  node_comes (conditional a b d) = then_task c r a (Choose b d) _ (worked 1 s) (λ v s. refl)
  node_comes (assign p a) = place_and_value c r (worked 1 s) _ _ (λ x y s. refl) a p
  node_comes (assign_plain x a) = one_value c r (worked (nodes_of x) s) _ _ (λ v s. refl) a
  node_comes (compound u p a) = place_and_value c r (worked 1 s) _ _ (λ x y s. refl) a p
  node_comes (change_plain u x a) = one_value c r (worked (nodes_of x) s) _ _ (λ v s. refl) a
  node_comes (step u fixity p) = place_and_number c r p 1 _ _ (worked 1 s) (λ v s. refl)
  node_comes (step_plain u fixity x) =
      last_one c (Do (ChangePlain u (scalar_of kind) x.variable line fixity)) (pushed (rvalue (integer 1)) r)
      (worked (nodes_of x) s)
      ∙ given c r 1 _ (worked (nodes_of x) s)
  node_comes (call f es) = arguments_then c r r es (Call f (count_of es) line) _
      (λ vs below. pushing r below ((env_at c r).call f vs line)) (worked 1 s) (λ vs s. refl) (λ xs s. refl)
  node_comes (call_through t a es) =
      on_on (evaluate (env_at c r) a (worked 1 s)) _ (push c r)
      ∙ evaluated c r (Arguments es ∷ CallThrough t (count_of es) line ∷ []) (worked 1 s) a _ (λ v s.
      arguments_then c (pushed v r) r es (CallThrough t (count_of es) line) _ F s (λ vs s. refl) (λ xs s. refl))
    where
      F : List Rvalue → List Rvalue → Run Registers
      F vs below = pushing r (rest_of below) (do
        f ← callee c.setting.functions t (first_of below).value line
        (env_at c r).call f vs line)
  node_comes (library name es) = arguments_then c r r es (Do (CallRoutine name (count_of es) line)) _
      (λ vs below. pushing r below (tally 1 >> as_rvalue (routine c.setting name (values_of vs) line))) (worked 1 s)
      (λ vs s. refl) (λ xs s. refl)
  node_comes (printf format es) =
      arguments_then c r r es (Do (Print format (count_of es) line)) _
      (λ vs below. pushing r below (tally 1 >> as_rvalue (print_formatted format (values_of vs) line)))
      (worked 1 (worked 1 s)) (λ vs s. refl) (λ xs s. refl)
      ∙ ap (rest c (after_one (Arguments es) (Print format (count_of es) line)) r) (two_nodes s)

  lvalue_node_comes : (node : LvalueNode) → Comes c (Locate (lvalue kind line node)) (lvalue_node_parts node) r s
  unfolding perform act lvalue_node_parts
  lvalue_node_comes (automatic x) = last_one c (Do (GiveHome x)) r (worked 1 s)
  lvalue_node_comes (static n) = last_one c (Do (GiveStatic n)) r (worked 1 s)
  lvalue_node_comes (deref a) = one_value c r (worked 1 s) AsPointer _ (λ v s. refl) a
  lvalue_node_comes (index form size a b) = two_values c r (worked 1 s) (Offset form size) _ (λ x y s. refl) b a
  lvalue_node_comes (member p offset size) = one_place c r (worked 1 s) (Member offset size) _ (λ v s. refl) p
  lvalue_node_comes (arrow a offset size) = one_value c r (worked 1 s) (Narrow offset size) _ (λ v s. refl) a
  lvalue_node_comes (member_of_value a offset size) = one_value c r (worked 1 s) (Member offset size) _ (λ v s. refl) a
  lvalue_node_comes (parenthesized_lvalue p) = last_one c (Locate p) r (worked 1 s)

module _ (c : Course) (r : Registers) (s : State) where
  pub expression_comes : (e : Expression) → Comes c (Evaluate e) (expression_parts e) r s
  expression_comes (expression kind line node) = node_comes c r kind line s node

  pub lvalue_comes : (p : Lvalue) → Comes c (Locate p) (lvalue_parts p) r s
  lvalue_comes (lvalue kind line node) = lvalue_node_comes c r kind line s node
