-- Every run, with its loops and calls, does the same at any count of work, and adds as much.
use Rattle.std.proofs.Common.{[], ◌≡◌, ℕ, zero, suc, ◌+◌, Bool, true, false, refl, ap, ◌∙◌, arith, nat_lt, List}
use Rattle.source_meaning.specs.State.{Rvalue}
use Rattle.c_tree.specs.declared.program.Variable.{Variable}
use Rattle.c_tree.specs.Programs.{Function}
use Rattle.c_tree.specs.Statements.{Statements}
use Rattle.source_meaning.specs.Statements.{Completion}
use Rattle.source_meaning.specs.Statements.{Normal, Broken, Continued, Returned}
use Rattle.source_meaning.specs.State.{State, Outcome, Gives, Ended, Paused, Run, on, ◌>>=◌, pause, choose, change}
use Rattle.source_meaning.specs.State.{Setting}
use Rattle.source_meaning.specs.Actions.{begin_turn}
use Rattle.source_meaning.specs.Statements.{after_body, turns, turns_before, in_order, each_of}
use Rattle.source_meaning.specs.Calls.{function_at, calls, env_of}
use Rattle.source_meaning.specs.Acting.{at_work, ActsBy, IsAction, RunsAlikeBy, RunsAlike}
use Rattle.source_meaning.proofs.Acting.{acts_done}
use Rattle.source_meaning.proofs.Related.{Related}
use Rattle.source_meaning.proofs.RelatedFlow.{row_related, found_related}

from_by : {A : Type 0} (k k1 : ℕ) (s s1 : State) (o o' : Outcome A) → k1 + s.work ≡ k + s1.work → RunsAlikeBy k1 s1 o o'
    → RunsAlikeBy k s o o'
from_by k k1 s s1 (Gives a s') o' e h = (h.0, h.1, omega (arith, e, h.2))
from_by k k1 s s1 (Ended x s') o' e h = (h.0, h.1, omega (arith, e, h.2))
from_by k k1 s s1 (Paused s') o' e h = (h.0, h.1, omega (arith, e, h.2))

to_by : {A : Type 0} (k : ℕ) (s : State) (o o' o'' : Outcome A) → o'' ≡ o' → RunsAlikeBy k s o o'
    → RunsAlikeBy k s o o''
to_by k s (Gives a s') o' o'' e h = (h.0, e ∙ h.1, h.2)
to_by k s (Ended x s') o' o'' e h = (h.0, e ∙ h.1, h.2)
to_by k s (Paused s') o' o'' e h = (h.0, e ∙ h.1, h.2)

on_by : {A B : Type 0} (k : ℕ) (s : State) (o o' : Outcome A) (f : A → Run B) → RunsAlikeBy k s o o'
    → ((a : A) → RunsAlike (f a)) → RunsAlikeBy k s (on o f) (on o' f)
on_by k s (Gives a s') o' f h g =
    to_by k s (f a s') (f a (at_work h.0 s')) (on o' f) (ap (λ o. on o f) h.1)
    (from_by k h.0 s s' (f a s') _ h.2 ((g a).alike s' h.0))
on_by k s (Ended x s') o' f h g = (h.0, ap (λ o. on o f) h.1, h.2)
on_by k s (Paused s') o' f h g = (h.0, ap (λ o. on o f) h.1, h.2)

alike_on : {A B : Type 0} {r : Run A} {f : A → Run B} → RunsAlike r → ((a : A) → RunsAlike (f a)) → RunsAlike (r >>= f)
alike_on {r = r} {f = f} h g = record { alike = λ s k. on_by k s (r s) (r (at_work k s)) f (h.alike s k) g }

by_action : {A : Type 0} (k : ℕ) (s : State) (o o' : Outcome A) → ActsBy k s o o' → RunsAlikeBy k s o o'
by_action k s (Gives a s') o' h = (h.0, h.1, h.2.work)
by_action k s (Ended e s') o' h = (h.0, h.1, h.2.work)
by_action k s (Paused s') o' h = absurd h

pub alike_action : {A : Type 0} {r : Run A} → IsAction r → RunsAlike r
alike_action {r = r} h = record { alike = λ s k. by_action k s (r s) (r (at_work k s)) (h.acts s k) }

alike_pause : {A : Type 0} → RunsAlike (pause {A = A})
alike_pause = record { alike = λ s k. (k, refl, refl) }

alike_choose : {A : Type 0} (b : Bool) {r q : Run A} → RunsAlike r → RunsAlike q → RunsAlike (choose b r q)
alike_choose true h g = h
alike_choose false h g = g

turn_by : (b : Bool) → RunsAlike (choose b (change (λ s. record s { turns = s.turns + 1 })) pause)
turn_by true = record { alike = λ s k. (k, refl, refl) }
turn_by false = alike_pause

pub alike_turn : (limit : ℕ) → RunsAlike (begin_turn limit)
alike_turn limit = record { alike = λ s k. (turn_by (nat_lt s.turns limit)).alike s k }

alike_after : (completion : Completion) {rest : Run Completion} → RunsAlike rest
    → RunsAlike (after_body completion rest)
alike_after Normal h = h
alike_after Broken h = alike_action acts_done
alike_after Continued h = h
alike_after (Returned v) h = alike_action acts_done

module _ (limit : ℕ) {condition : Run Bool} {body : Run Completion} {step : Run (Unit {0})} (c : RunsAlike condition)
    (b : RunsAlike body) (p : RunsAlike step) where
  alike_turns : (n : ℕ) → RunsAlike (turns n limit condition body step)
  alike_turns zero = alike_pause
  alike_turns (suc n) =
      alike_on c (λ again. alike_choose again
      (alike_on (alike_turn limit) (λ _. alike_on b (λ x. alike_after x (alike_on p (λ _. alike_turns n)))))
      (alike_action acts_done))

module _ (limit : ℕ) {condition : Run Bool} {body : Run Completion} (c : RunsAlike condition) (b : RunsAlike body) where
  alike_turns_before : (n : ℕ) → RunsAlike (turns_before n limit condition body)
  alike_turns_before zero = alike_pause
  alike_turns_before (suc n) =
      alike_on (alike_turn limit)
      (λ _. alike_on b (λ x. alike_after x
      (alike_on c (λ again. alike_choose again (alike_turns_before n) (alike_action acts_done)))))

alike_related : (g : Setting) (variables : List Variable) (limit depth : ℕ)
    (call : ℕ → List Rvalue → ℕ → Run Rvalue)
    → ((f : ℕ) (vs : List Rvalue) (line : ℕ) → RunsAlike (call f vs line))
    → Related (record { setting = g; variables = variables; limit = limit; depth = depth; call = call })
    (record { setting = g; variables = variables; limit = limit; depth = depth; call = call }) (λ A r r'. RunsAlike r)
alike_related g variables limit depth call h = record {
  on = alike_on;
  action = alike_action;
  turn = alike_turn limit;
  call = h;
  loop = λ c b p. alike_turns limit c b p depth;
  loop_before = λ c b. alike_turns_before limit c b depth;
}

pub alike_calls : (functions : List Function) (g : Setting) (limit n f : ℕ) (vs : List Rvalue) (line : ℕ)
    → RunsAlike (calls functions g limit n f vs line)
alike_calls functions g limit zero f vs line = alike_pause
alike_calls functions g limit (suc n) f vs line =
    found_related g [] limit limit (suc n) (suc n) (calls functions g limit n) (calls functions g limit n)
    (λ A r r'. RunsAlike r)
    (alike_related g [] limit (suc n) (calls functions g limit n) (alike_calls functions g limit n))
    (function_at functions f) vs line

-- the statements of a body
pub alike_body : (functions : List Function) (g : Setting) (limit n : ℕ) (variables : List Variable)
    (body : Statements) → RunsAlike (in_order (each_of (env_of functions g limit n variables) body))
alike_body functions g limit n variables body =
    row_related g variables limit limit (suc n) (suc n) (calls functions g limit n) (calls functions g limit n)
    (λ A r r'. RunsAlike r)
    (alike_related g variables limit (suc n) (calls functions g limit n) (alike_calls functions g limit n)) body
