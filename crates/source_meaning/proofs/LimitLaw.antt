-- A run that is still running has begun all its turns: the fuel of loops and calls is never used up before the turns
-- are.
use Rattle.std.proofs.Common.{◌≡◌, ℕ, zero, suc, ◌+◌, ◌≤◌, ◌<◌, List, [], Bool, true, false, Option, Some, None, refl}
use Rattle.std.proofs.Common.{sym, subst, arith, nat_lt}
use Rattle.std.proofs.lemmas.Bool.{ltb-true, ltb-false}
use Rattle.behaviours.specs.Behaviour.{IsSource}
use Rattle.sb_base.specs.Budgets.{BudgetSizes}
use Rattle.source_meaning.specs.State.{Rvalue}
use Rattle.c_tree.specs.declared.program.Variable.{Variable}
use Rattle.c_tree.specs.Blocks.{all_of}
use Rattle.c_tree.specs.Programs.{Function, Program}
use Rattle.source_meaning.specs.Statements.{Completion}
use Rattle.source_meaning.specs.Statements.{Normal, Broken, Continued, Returned}
use Rattle.source_meaning.specs.State.{State, Outcome, Gives, Ended, Paused, Run, on, ◌>>=◌, done, Setting}
use Rattle.source_meaning.specs.Actions.{begin_turn}
use Rattle.source_meaning.specs.Statements.{after_body, turns, turns_before}
use Rattle.source_meaning.specs.Calls.{enter_begun, enter_found, function_at, calls}
use Rattle.source_meaning.specs.Meaning.{setting_of, start, line_of, moment_of, meaning}
use Rattle.source_meaning.proofs.Turning.{GoesLater, LeadsTo, IsWithin, PausesAt}
use Rattle.source_meaning.proofs.Acting.{acts_done, acts_skip, acts_stop}
use Rattle.source_meaning.proofs.Growing.{later_on, pauses_on, later_done, later_choose, pauses_action, pauses_less}
use Rattle.source_meaning.proofs.Growing.{pauses_choose}
use Rattle.source_meaning.proofs.Related.{Related}
use Rattle.source_meaning.proofs.RelatedFlow.{begun_related}
use Rattle.source_meaning.proofs.TurnLaws.{one_turn, later_begin, later_after, later_turns, later_turns_before}
use Rattle.source_meaning.proofs.TurnLaws.{leads_related, leads_itself}

-- a turn, and a run behind it that may use one turn fewer

within_turn : (limit left : ℕ) (s : State) → s.turns ≤ limit → limit ≤ s.turns + left
    → {B : Type 0} (k : Unit {0} → Run B) → ((m : ℕ) → left ≡ suc m → (a : Unit {0}) → PausesAt limit m (k a))
    → (b : Bool) → nat_lt s.turns limit ≡ b → IsWithin limit (on (one_turn b s) k)
within_turn limit zero s w e k h true p = absurd (omega (arith, ltb-true s.turns limit p))
within_turn limit (suc m) s w e k h true p = (h m refl tt).within (record s { turns = s.turns + 1 })
    (omega (arith, ltb-true s.turns limit p)) (omega arith)
within_turn limit left s w e k h false p = omega (arith, ltb-false s.turns limit p)

module _ (g : Setting) (limit : ℕ) where
  pauses_begin : (left : ℕ) {B : Type 0} (k : Unit {0} → Run B) → ((a : Unit {0}) → GoesLater (k a))
      → ((m : ℕ) → left ≡ suc m → (a : Unit {0}) → PausesAt limit m (k a))
      → PausesAt limit left (begin_turn limit >>= k)
  pauses_begin left k l h = record {
    later = later_on (later_begin limit) l;
    within = λ s w e. within_turn limit left s w e k h (nat_lt s.turns limit) refl;
  }

  pauses_turn : (left : ℕ) → PausesAt limit left (begin_turn limit)
  pauses_turn left = record { later = later_begin limit; within = λ s w e. by s w (nat_lt s.turns limit) refl }
    where
      by : (s : State) → s.turns ≤ limit → (b : Bool) → nat_lt s.turns limit ≡ b → IsWithin limit (one_turn b s)
      by s w true p = omega (arith, ltb-true s.turns limit p)
      by s w false p = omega (arith, ltb-false s.turns limit p)

  pauses_done : {A : Type 0} (left : ℕ) (a : A) → PausesAt limit left (done a)
  pauses_done left a = pauses_action limit left acts_done

  pauses_after : (left : ℕ) (completion : Completion) (rest : Run Completion) → PausesAt limit left rest
      → PausesAt limit left (after_body completion rest)
  pauses_after left Normal rest g = g
  pauses_after left Broken rest g = pauses_done left Normal
  pauses_after left Continued rest g = g
  pauses_after left (Returned v) rest g = pauses_done left (Returned v)

  module _ (left : ℕ) {condition : Run Bool} {body : Run Completion} {step : Run (Unit {0})}
      (c : PausesAt limit left condition) (b : PausesAt limit left body) (p : PausesAt limit left step) where
    pauses_turns : (n left' : ℕ) → left' < n → left' ≤ left → PausesAt limit left' (turns n limit condition body step)
    pauses_turns zero left' below le = absurd (omega arith)
    pauses_turns (suc n) left' below le =
        pauses_on (pauses_less left left' le c) (λ again. pauses_choose left' again
        (pauses_begin left' _
        (λ _. later_on b.later
        (λ x. later_after x _
        (later_on p.later (λ _. later_turns limit condition body step c.later b.later p.later n))))
        (λ m e _. pauses_on (pauses_less left m (omega arith) b)
        (λ x. pauses_after m x _
        (pauses_on (pauses_less left m (omega arith) p) (λ _. pauses_turns n m (omega arith) (omega arith))))))
        (pauses_done left' Normal))

    pauses_turns_before : (n left' : ℕ) → left' < n → left' ≤ left
        → PausesAt limit left' (turns_before n limit condition body)
    pauses_turns_before zero left' below le = absurd (omega arith)
    pauses_turns_before (suc n) left' below le =
        pauses_begin left' _
        (λ _. later_on b.later
        (λ x. later_after x _
        (later_on c.later (λ again. later_choose again
        (later_turns_before limit condition body step c.later b.later p.later n) (later_done Normal)))))
        (λ m e _. pauses_on (pauses_less left m (omega arith) b)
        (λ x. pauses_after m x _
        (pauses_on (pauses_less left m (omega arith) c)
        (λ again. pauses_choose m again (pauses_turns_before n m (omega arith) (omega arith))
        (pauses_done m Normal)))))

  module _ (depth : ℕ) (call : ℕ → List Rvalue → ℕ → Run Rvalue) where
    pauses_related : (variables : List Variable) (left : ℕ) → left < depth
        → ((f : ℕ) (vs : List Rvalue) (line : ℕ) → PausesAt limit left (call f vs line))
        → Related (record { setting = g; variables = variables; limit = limit; depth = depth; call = call })
        (record { setting = g; variables = variables; limit = limit; depth = depth; call = call })
        (λ A r r'. PausesAt limit left r)
    pauses_related variables left below calls' = record {
      on = pauses_on;
      action = pauses_action limit left;
      turn = pauses_turn left;
      call = calls';
      loop = λ c b p. pauses_turns left c b p depth left below (omega arith);
      loop_before = λ c b. pauses_turns_before left c b (pauses_action limit left acts_skip) depth left below
          (omega arith);
    }

    pauses_begun : (left : ℕ) → left < depth
        → ((f : ℕ) (vs : List Rvalue) (line : ℕ) → PausesAt limit left (call f vs line))
        → (f : Function) (vs : List Rvalue) (line : ℕ)
        → PausesAt limit left
        (enter_begun (record { setting = g; variables = all_of f; limit = limit; depth = depth; call = call }) f
        vs line)
    pauses_begun left below calls' f = begun_related g (all_of f) limit limit depth depth call call
        (λ A r r'. PausesAt limit left r) (pauses_related (all_of f) left below calls') f

    later_begun : ((f : ℕ) (vs : List Rvalue) (line : ℕ) → LeadsTo (call f vs line) (call f vs line))
        → (f : Function) (vs : List Rvalue) (line : ℕ)
        → GoesLater (enter_begun
        (record { setting = g; variables = all_of f; limit = limit; depth = depth; call = call }) f vs line)
    later_begun leads f vs line =
        (begun_related g (all_of f) limit limit depth depth call call (λ A r r'. LeadsTo r r')
        (leads_related g (all_of f) limit limit depth depth call call (omega arith) (omega arith) leads) f
        vs line).later

module _ (functions : List Function) (g : Setting) (limit : ℕ) where
  pauses_found : (n : ℕ) (o : Option Function) (vs : List Rvalue) (line : ℕ)
      → ((m : ℕ) → n ≡ suc m → (f : ℕ) (vs : List Rvalue) (line : ℕ)
      → PausesAt limit m (calls functions g limit n f vs line))
      → PausesAt limit n (enter_found
      (record { setting = g; variables = []; limit = limit; depth = suc n; call = calls functions g limit n }) o
      vs line)
  pauses_found n None vs line h = pauses_action limit n acts_stop
  pauses_found n (Some f) vs line h =
      pauses_begin g limit n _
      (λ _. later_begun g limit (suc n) (calls functions g limit n) (leads_itself functions g limit n) f vs line)
      (λ m e _. pauses_begun g limit (suc n) (calls functions g limit n) m (omega arith) (h m e) f vs line)

  pauses_calls : (n f : ℕ) (vs : List Rvalue) (line : ℕ) → PausesAt limit n (calls functions g limit (suc n) f vs line)
  pauses_calls zero f vs line = pauses_found zero (function_at functions f) vs line (λ m e. absurd (omega arith))
  pauses_calls (suc n) f vs line =
      pauses_found (suc n) (function_at functions f) vs line
      (λ m e f vs line. let same : n
      ≡ m = omega arith in subst (λ k. PausesAt limit k (calls functions g limit (suc n) f vs line)) same
      (pauses_calls n f vs line))

begun_all : (limit : ℕ) (o : Outcome Rvalue) → IsWithin limit o → (moment_of o).shown.ending ≡ None
    → limit ≤ (moment_of o).turns
begun_all limit (Gives v s) w e = absurd (cc)
begun_all limit (Ended x s) w e = absurd (cc)
begun_all limit (Paused s) w e = omega (arith, w)

pub is_source : (p : Program) (budgets : BudgetSizes) (input : List ℕ) → IsSource (meaning p budgets input)
is_source p budgets input = record {
  begun = λ t e.
      let g = setting_of p budgets in
      let deep : t + 1 ≡ suc t = omega arith in
      begun_all t _ (subst (λ n. IsWithin t
      (calls p.functions g t n p.main [] (line_of (function_at p.functions p.main)) (start p g input))) (sym deep)
      ((pauses_calls p.functions g t t p.main [] (line_of (function_at p.functions p.main))).within (start p g input)
      (omega arith) (omega arith))) e;
}
