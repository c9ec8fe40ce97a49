-- Runs one after another, and tasks one after another.
use Rattle.std.proofs.Common.{◌≡◌, ℕ, ◌+◌, List, [], ◌∷◌, ◌++◌, refl, sym, ap, ◌∙◌, arith}
use Rattle.c_tree.specs.Tree.{Expression, Lvalue}
use Rattle.source_meaning.specs.State.{State, Rvalue, Outcome, Gives, Ended, Paused, Run, on, done}
use Rattle.source_meaning.specs.Expressions.{evaluate, place}
use Rattle.source_meaning.specs.Statements.{Completion, execute}
use Rattle.c_tree.specs.Statements.{Statement}
use Rattle.interpreter_tasks.specs.Registers.{Course, Registers, env_at, pushed, completed}
use Rattle.interpreter_tasks.specs.Tasks.{Task, Evaluate, Locate, Execute, perform, rest}

-- what follows a run that follows another
pub on_on : {A B C : Type 0} (o : Outcome A) (f : A → Run B) (g : B → Run C)
    → on (on o f) g ≡ on o (λ a s. on (f a s) g)
on_on (Gives a s) f g = refl
on_on (Ended e s) f g = refl
on_on (Paused s) f g = refl

pub same_on : {A B : Type 0} (o : Outcome A) (f g : A → Run B) → ((a : A) (s : State) → f a s ≡ g a s) → on o f ≡ on o g
same_on (Gives a s) f g h = h a s
same_on (Ended e s) f g h = refl
same_on (Paused s) f g h = refl

-- nothing follows
pub on_done : {A : Type 0} (o : Outcome A) → on o done ≡ o
on_done (Gives a s) = refl
on_done (Ended e s) = refl
on_done (Paused s) = refl

-- what follows a run and another, by what follows both
pub on_same : {A B C : Type 0} (o : Outcome A) (f : A → Run B) (g : B → Run C) (h : A → Run C)
    → ((a : A) (s : State) → on (f a s) g ≡ h a s) → on (on o f) g ≡ on o h
on_same o f g h e = on_on o f g ∙ same_on o (λ a s. on (f a s) g) h e

-- some work more
abbrev pub worked : ℕ → State → State
worked n s = record s { work = s.work + n }

pub no_work : (s : State) → s ≡ worked 0 s
no_work s = ap (λ w. record s { work = w }) (omega arith)

-- the last task
pub last_one : (c : Course) (t : Task) (r : Registers) (s : State) → perform c t r s ≡ rest c (t ∷ []) r s
unfolding rest
last_one c t r s = sym (on_done (perform c t r s))

-- tasks before others
pub rest_append : (c : Course) (ts us : List Task) (r : Registers) (s : State)
    → on (rest c ts r s) (rest c us) ≡ rest c (ts ++ us) r s
unfolding rest
rest_append c [] us r s = refl
rest_append c (t ∷ ts) us r s =
    on_same (perform c t r s) (rest c ts) (rest c us) (rest c (ts ++ us)) (rest_append c ts us)

-- an expression, an lvalue and a statement, with what follows
module _ (c : Course) (r : Registers) (ts : List Task) (s : State) where
  pub evaluated : (e : Expression) (f : Rvalue → Run Registers)
      → ((v : Rvalue) (s : State) → f v s ≡ rest c ts (pushed v r) s)
      → on (evaluate (env_at c r) e s) f ≡ rest c (Evaluate e ∷ ts) r s
  unfolding rest perform
  evaluated e f h =
      sym (on_same (evaluate (env_at c r) e s) (λ v. done (pushed v r)) (rest c ts) f (λ v s. sym (h v s)))

  pub located : (p : Lvalue) (f : Rvalue → Run Registers)
      → ((v : Rvalue) (s : State) → f v s ≡ rest c ts (pushed v r) s)
      → on (place (env_at c r) p s) f ≡ rest c (Locate p ∷ ts) r s
  unfolding rest perform
  located p f h = sym (on_same (place (env_at c r) p s) (λ v. done (pushed v r)) (rest c ts) f (λ v s. sym (h v s)))

  pub executed : (x : Statement) (f : Completion → Run Registers)
      → ((v : Completion) (s : State) → f v s ≡ rest c ts (completed v r) s)
      → on (execute (env_at c r) x s) f ≡ rest c (Execute x ∷ ts) r s
  unfolding rest perform
  executed x f h =
      sym (on_same (execute (env_at c r) x s) (λ v. done (completed v r)) (rest c ts) f (λ v s. sym (h v s)))
