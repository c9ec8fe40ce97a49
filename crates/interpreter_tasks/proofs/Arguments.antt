-- The values of arguments, found one after another.
use Rattle.std.proofs.Common.{◌≡◌, ℕ, suc, List, [], ◌∷◌, ◌++◌, refl, sym, ap, ◌∙◌, reverse, take, drop, length}
use Rattle.std.proofs.lemmas.Grind.{reverse_onto}
use Rattle.std.proofs.lemmas.List.{append_assoc, length-reverse, reverse-reverse}
use Rattle.std.proofs.Math.Seq.{take-append_seam, drop-append_seam}
use Rattle.c_tree.specs.Tree.{Expression, Expressions, no_expressions, expressions, kind_of, line_of}
use Rattle.source_meaning.specs.State.{State, Rvalue, Outcome, Run, on, done, Env}
use Rattle.source_meaning.specs.Actions.{each_value}
use Rattle.source_meaning.specs.Structures.{take_value}
use Rattle.source_meaning.specs.Expressions.{argument, evaluate, values}
use Rattle.interpreter_tasks.specs.Registers.{Course, Registers, env_at, pushed}
use Rattle.interpreter_tasks.specs.Actions.{Take, act, arguments}
use Rattle.interpreter_tasks.specs.Tasks.{Task, Do, Arguments, all_pushed, perform, rest}
use Rattle.interpreter_tasks.specs.Parts.{argument_tasks, count_of}
use Rattle.interpreter_tasks.proofs.Flow.{on_on, same_on, on_same, evaluated, last_one}

pushed_behind : (vs below : List Rvalue) → all_pushed vs below ≡ reverse vs ++ below
pushed_behind [] below = refl
pushed_behind (v ∷ vs) below =
    pushed_behind vs (v ∷ below)
    ∙ sym (ap (λ xs. xs ++ below) (reverse_onto vs v []) ∙ append_assoc (reverse vs) (v ∷ []) below)

-- arguments that were pushed are found again
module _ (vs below : List Rvalue) (n : ℕ) (e : length vs ≡ n) where
  count_is : n ≡ length (reverse vs)
  count_is = sym e ∙ sym (length-reverse vs)

  pub arguments_found : arguments n (all_pushed vs below) ≡ vs
  arguments_found =
      ap (λ xs. reverse (take n xs)) (pushed_behind vs below)
      ∙ ap (λ k. reverse (take k (reverse vs ++ below))) count_is
      ∙ ap reverse (take-append_seam (reverse vs) below)
      ∙ reverse-reverse vs

  pub below_found : drop n (all_pushed vs below) ≡ below
  below_found =
      ap (λ xs. drop n xs) (pushed_behind vs below)
      ∙ ap (λ k. drop k (reverse vs ++ below)) count_is
      ∙ drop-append_seam (reverse vs) below

-- the values of arguments are as many
each_on : (env : Env) (es : Expressions) (s : State) (f g : List Rvalue → Run Registers)
    → ((vs : List Rvalue) (s : State) → length vs ≡ count_of es → f vs s ≡ g vs s)
    → on (each_value (values env es) s) f ≡ on (each_value (values env es) s) g
each_on env no_expressions s f g h = h [] s refl
each_on env (expressions e es) s f g h =
    on_on first each f
    ∙ same_on first _ _ (λ v s.
    on_on (each_value (values env es) s) (λ vs. done (v ∷ vs)) f
    ∙ each_on env es s (λ vs. f (v ∷ vs)) (λ vs. g (v ∷ vs)) (λ vs s e. h (v ∷ vs) s (ap suc e))
    ∙ sym (on_on (each_value (values env es) s) (λ vs. done (v ∷ vs)) g))
    ∙ sym (on_on first each g)
  where
    first : Outcome Rvalue
    first = argument (kind_of e) (line_of e) (evaluate env e) s

    each : Rvalue → Run (List Rvalue)
    each v s = on (each_value (values env es) s) (λ vs. done (v ∷ vs))

-- arguments, with what follows
pub argued : (c : Course) (r : Registers) (ts : List Task) (s : State) (es : Expressions)
    (f : List Rvalue → Run Registers)
    → ((vs : List Rvalue) (s : State) → length vs ≡ count_of es
    → f vs s ≡ rest c ts (record r { values = all_pushed vs r.values }) s)
    → on (each_value (values (env_at c r) es) s) f ≡ rest c (Arguments es ∷ ts) r s
unfolding rest perform
argued c r ts s es f h =
    each_on (env_at c r) es s f (λ vs. rest c ts (record r { values = all_pushed vs r.values })) h
    ∙ sym (on_on (each_value (values (env_at c r) es) s) (λ vs. done (record r { values = all_pushed vs r.values }))
    (rest c ts))

module _ (c : Course) where
  -- the first of several arguments was found and taken
  first_found : (e : Expression) (es : Expressions) (r : Registers) (v : Rvalue) (s : State)
      → on (on (each_value (values (env_at c r) es) s) (λ vs. done (v ∷ vs)))
      (λ vs. done (record r { values = all_pushed vs r.values }))
      ≡ rest c (Arguments es ∷ []) (pushed v r) s
  unfolding perform
  first_found e es r v s =
      on_on (each_value (values (env_at c r) es) s) (λ vs. done (v ∷ vs))
      (λ vs. done (record r { values = all_pushed vs r.values }))
      ∙ last_one c (Arguments es) (pushed v r) s

  pub arguments_come : (es : Expressions) (r : Registers) (s : State)
      → perform c (Arguments es) r s ≡ rest c (argument_tasks es) r s
  unfolding perform rest act
  arguments_come no_expressions r s = refl
  arguments_come (expressions e es) r s =
      on_on (argument (kind_of e) (line_of e) (evaluate (env_at c r) e) s)
      (λ v s. on (each_value (values (env_at c r) es) s) (λ vs. done (v ∷ vs)))
      (λ vs. done (record r { values = all_pushed vs r.values }))
      ∙ on_on (evaluate (env_at c r) e s) (take_value (kind_of e) (line_of e)) _
      ∙ evaluated c r (Do (Take (kind_of e) (line_of e)) ∷ Arguments es ∷ []) s e _ (λ x s.
      sym (on_same (take_value (kind_of e) (line_of e) x s) (λ v. done (pushed v r)) (rest c (Arguments es ∷ []))
      _ (λ v s. sym (first_found e es r v s))))
