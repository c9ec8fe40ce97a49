-- More turns show more of the same, and a run that is still running has begun all its turns.
use Rattle.std.proofs.Common.{◌≡◌, ℕ, zero, suc, ◌+◌, ◌≤◌, List, [], Bool, true, false, Option, None, refl, subst}
use Rattle.std.proofs.Common.{arith, nat_lt}
use Rattle.std.proofs.lemmas.Bool.{ltb-true, lt-ltb}
use Rattle.behaviours.specs.Shown.{End}
use Rattle.behaviours.proofs.Moments.{prefix_nil, same_is_earlier}
use Rattle.sb_base.specs.declared.ending.Ending.{Ending}
use Rattle.sb_base.specs.declared.ending.Ending.TheVariants.{Exit}
use Rattle.sb_base.specs.Budgets.{BudgetSizes}
use Rattle.source_meaning.specs.State.{Rvalue}
use Rattle.obj_memory.specs.Sound.{Continues}
use Rattle.c_tree.specs.declared.program.Variable.{Variable}
use Rattle.c_tree.specs.Programs.{Function, Program}
use Rattle.source_meaning.specs.Statements.{Completion}
use Rattle.source_meaning.specs.Statements.{Normal, Broken, Continued, Returned}
use Rattle.source_meaning.specs.State.{State, Outcome, Gives, Ended, Paused, Run, pause, choose, change, Setting}
use Rattle.source_meaning.specs.Actions.{begin_turn, int_of}
use Rattle.source_meaning.specs.Statements.{after_body, turns, turns_before}
use Rattle.source_meaning.specs.Calls.{enter_found, function_at, calls}
use Rattle.source_meaning.specs.Meaning.{setting_of, initial_objects, start, line_of, outcome, moment_at, ended_at}
use Rattle.source_meaning.specs.Meaning.{moment_of, meaning}
use Rattle.source_meaning.specs.Acting.{Later, state_of}
use Rattle.source_meaning.specs.Turns.{GoesOn, Grows}
use Rattle.source_meaning.proofs.Turning.{GoesLater, IsBelow, LeadsTo}
use Rattle.source_meaning.proofs.Acting.{later_same, acts_done, acts_skip}
use Rattle.source_meaning.proofs.Growing.{later_on, leads_on, later_done, later_pause, later_choose, leads_action}
use Rattle.source_meaning.proofs.Growing.{leads_pause, leads_choose, later_turn}
use Rattle.source_meaning.proofs.Related.{Related}
use Rattle.source_meaning.proofs.RelatedFlow.{found_related}

-- a turn

abbrev pub one_turn : Bool → Run (Unit {0})
one_turn is_left = choose is_left (change (λ s. record s { turns = s.turns + 1 })) pause

pub later_begin : (limit : ℕ) → GoesLater (begin_turn limit)
later_begin limit = record { later = λ s. by s (nat_lt s.turns limit) }
  where
    by : (s : State) (b : Bool) → Later s (state_of (one_turn b s))
    by s true = later_turn s
    by s false = later_same s

below_turn : (b b' : Bool) → (b ≡ true → b' ≡ true) → (s : State) → IsBelow (one_turn b s) (one_turn b' s)
below_turn true true h s = refl
below_turn true false h s = absurd (let e : false ≡ true = h refl in cc)
below_turn false true h s = later_turn s
below_turn false false h s = later_same s

leads_begin : (limit limit' : ℕ) → limit ≤ limit' → LeadsTo (begin_turn limit) (begin_turn limit')
leads_begin limit limit' le = record {
  below = λ s. below_turn (nat_lt s.turns limit) (nat_lt s.turns limit')
      (λ e. lt-ltb s.turns limit' (omega (arith, ltb-true s.turns limit e))) s;
  later = later_begin limit';
}

-- loops

pub later_after : (completion : Completion) (rest : Run Completion) → GoesLater rest
    → GoesLater (after_body completion rest)
later_after Normal rest g = g
later_after Broken rest g = later_done Normal
later_after Continued rest g = g
later_after (Returned v) rest g = later_done (Returned v)

leads_after : (completion : Completion) {rest rest' : Run Completion} → LeadsTo rest rest'
    → LeadsTo (after_body completion rest) (after_body completion rest')
leads_after Normal g = g
leads_after Broken g = leads_action acts_done
leads_after Continued g = g
leads_after (Returned v) g = leads_action acts_done

module _ (limit : ℕ) (condition : Run Bool) (body : Run Completion) (step : Run (Unit {0})) (c : GoesLater condition)
    (b : GoesLater body) (p : GoesLater step) where
  pub later_turns : (n : ℕ) → GoesLater (turns n limit condition body step)
  later_turns zero = later_pause
  later_turns (suc n) =
      later_on c (λ again. later_choose again
      (later_on (later_begin limit) (λ _. later_on b (λ x. later_after x _ (later_on p (λ _. later_turns n)))))
      (later_done Normal))

  pub later_turns_before : (n : ℕ) → GoesLater (turns_before n limit condition body)
  later_turns_before zero = later_pause
  later_turns_before (suc n) =
      later_on (later_begin limit)
      (λ _. later_on b (λ x. later_after x _
      (later_on c (λ again. later_choose again (later_turns_before n) (later_done Normal)))))

module _ (limit limit' : ℕ) (le : limit ≤ limit') {condition condition' : Run Bool} {body body' : Run Completion}
    {step step' : Run (Unit {0})}
    (c : LeadsTo condition condition') (b : LeadsTo body body') (p : LeadsTo step step') where
  leads_turns : (n m : ℕ) → n ≤ m → LeadsTo (turns n limit condition body step) (turns m limit' condition' body' step')
  leads_turns zero m le' = leads_pause (later_turns limit' _ _ _ c.later b.later p.later m)
  leads_turns (suc n) zero le' = absurd (omega arith)
  leads_turns (suc n) (suc m) le' =
      leads_on c (λ again. leads_choose again
      (leads_on (leads_begin limit limit' le)
      (λ _. leads_on b (λ x. leads_after x (leads_on p (λ _. leads_turns n m (omega arith))))))
      (leads_action acts_done))

  leads_turns_before : (n m : ℕ) → n ≤ m
      → LeadsTo (turns_before n limit condition body) (turns_before m limit' condition' body')
  leads_turns_before zero m le' = leads_pause (later_turns_before limit' _ _ _ c.later b.later p.later m)
  leads_turns_before (suc n) zero le' = absurd (omega arith)
  leads_turns_before (suc n) (suc m) le' =
      leads_on (leads_begin limit limit' le)
      (λ _. leads_on b (λ x. leads_after x
      (leads_on c (λ again. leads_choose again (leads_turns_before n m (omega arith)) (leads_action acts_done)))))

pub leads_related : (g : Setting) (variables : List Variable) (limit limit' depth depth' : ℕ)
    (call call' : ℕ → List Rvalue → ℕ → Run Rvalue) → limit ≤ limit' → depth ≤ depth'
    → ((f : ℕ) (vs : List Rvalue) (line : ℕ) → LeadsTo (call f vs line) (call' f vs line))
    → Related (record { setting = g; variables = variables; limit = limit; depth = depth; call = call })
    (record { setting = g; variables = variables; limit = limit'; depth = depth'; call = call' })
    (λ A r r'. LeadsTo r r')
leads_related g variables limit limit' depth depth' call call' le deeper leads = record {
  on = leads_on;
  action = leads_action;
  turn = leads_begin limit limit' le;
  call = leads;
  loop = λ c b p. leads_turns limit limit' le c b p depth depth' deeper;
  loop_before = λ c b. leads_turns_before limit limit' le c b (leads_action acts_skip) depth depth' deeper;
}

-- calls

module _ (functions : List Function) (g : Setting) where
  leads_found : (limit limit' depth depth' : ℕ) (call call' : ℕ → List Rvalue → ℕ → Run Rvalue) → limit ≤ limit'
      → depth ≤ depth'
      → ((f : ℕ) (vs : List Rvalue) (line : ℕ) → LeadsTo (call f vs line) (call' f vs line))
      → (o : Option Function) (vs : List Rvalue) (line : ℕ)
      → LeadsTo (enter_found (record { setting = g; variables = []; limit = limit; depth = depth; call = call }) o vs
      line) (enter_found (record { setting = g; variables = []; limit = limit'; depth = depth'; call = call' }) o
      vs line)
  leads_found limit limit' depth depth' call call' le deeper leads =
      found_related g [] limit limit' depth depth' call call' (λ A r r'. LeadsTo r r')
      (leads_related g [] limit limit' depth depth' call call' le deeper leads)

  pub leads_itself : (limit n f : ℕ) (vs : List Rvalue) (line : ℕ)
      → LeadsTo (calls functions g limit n f vs line) (calls functions g limit n f vs line)
  leads_itself limit zero f vs line = leads_pause later_pause
  leads_itself limit (suc n) f vs line =
      leads_found limit limit (suc n) (suc n) (calls functions g limit n) (calls functions g limit n) (omega arith)
      (omega arith) (leads_itself limit n) (function_at functions f) vs line

  pub later_calls : (limit n f : ℕ) (vs : List Rvalue) (line : ℕ) → GoesLater (calls functions g limit n f vs line)
  later_calls limit n f vs line = (leads_itself limit n f vs line).later

  pub leads_calls : (limit limit' : ℕ) → limit ≤ limit' → (n m : ℕ) → n ≤ m → (f : ℕ) (vs : List Rvalue) (line : ℕ)
      → LeadsTo (calls functions g limit n f vs line) (calls functions g limit' m f vs line)
  leads_calls limit limit' le zero m le' f vs line = leads_pause (later_calls limit' m f vs line)
  leads_calls limit limit' le (suc n) zero le' f vs line = absurd (omega arith)
  leads_calls limit limit' le (suc n) (suc m) le' f vs line =
      leads_found limit limit' (suc n) (suc m) (calls functions g limit n) (calls functions g limit' m) le le'
      (leads_calls limit limit' le n m (omega arith)) (function_at functions f) vs line

-- moments

on_ended : (e : Ending) (s : State) → GoesOn (ended_at e s) (ended_at e s)
on_ended e s = record { shown = same_is_earlier _ _ refl; turns = omega arith; work = omega arith; ended = λ e h. refl }

on_later : (s s' : State) (report : List ℕ) (ending : Option End) → Later s s'
    → GoesOn (moment_at s [] None) (moment_at s' report ending)
on_later s s' report ending l = record {
  shown = record {
    output = l.output;
    errors = prefix_nil report;
    taken = l.taken;
    accesses = l.accesses;
    ended = λ e h.
        absurd (cc);
  };
  turns = l.turns;
  work = let w = l.work in omega arith;
  ended = λ e h. absurd (cc);
}

on_paused : (s : State) (o : Outcome Rvalue) → Later s (state_of o) → GoesOn (moment_of (Paused s)) (moment_of o)
on_paused s (Gives v s') l = on_later s s' _ _ l
on_paused s (Ended e s') l = on_later s s' _ _ l
on_paused s (Paused s') l = on_later s s' [] None l

on_below : (o o' : Outcome Rvalue) → IsBelow o o' → GoesOn (moment_of o) (moment_of o')
on_below (Gives v s) o' h = subst (λ x. GoesOn (moment_of (Gives v s)) (moment_of x)) h
    (on_ended (Exit (int_of v.value.word)) s)
on_below (Ended e s) o' h = subst (λ x. GoesOn (moment_of (Ended e s)) (moment_of x)) h (on_ended e s)
on_below (Paused s) o' h = on_paused s o' h

pub more_turns : (p : Program) (budgets : BudgetSizes) (input : List ℕ) → Grows (meaning p budgets input)
more_turns p budgets input = record {
  at = λ t u le.
      let g = setting_of p budgets in
      on_below _ _ ((leads_calls p.functions g t u le (t + 1) (u + 1) (omega arith) p.main []
      (line_of (function_at p.functions p.main))).below (start p g input));
}

pub objects_continue : (p : Program) (budgets : BudgetSizes) (input : List ℕ) (t : ℕ)
    → Continues (initial_objects p (setting_of p budgets)) (state_of (outcome p budgets input t)).objects
objects_continue p budgets input t =
    let g = setting_of p budgets in
    ((later_calls p.functions g t (t + 1) p.main [] (line_of (function_at p.functions p.main))).later
    (start p g input)).objects
