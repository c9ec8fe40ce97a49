-- What code does with the values found so far, as actions.
use Rattle.std.proofs.Common.{◌≡◌, ℕ, sym, ap, subst, refl, ◌∙◌, Ok, Err, Some, None, List, ◌∷◌}
use Rattle.std.specs.Prelude.{Result, OnOk}
use Rattle.obj_memory.specs.declared.int_type.IntType.{IntType}
use Rattle.obj_memory.specs.declared.operator.BinaryOperator.{BinaryOperator}
use Rattle.obj_memory.specs.declared.value.Value.{Value}
use Rattle.source_meaning.specs.State.{State, Rvalue, Run, ◌>>◌, Setting, done}
use Rattle.source_meaning.specs.Actions.{difference_value, operate, set_plain}
use Rattle.source_meaning.specs.Calls.{first_of, rest_of}
use Rattle.source_meaning.specs.Structures.{as_rvalue, give, rvalue}
use Rattle.interpreter_tasks.specs.Registers.{Course, Registers, below_second, below_top, popped, pushing, second, top}
use Rattle.interpreter_tasks.specs.Actions.{Action, Drop, act}
use Rattle.source_interp.specs.declared.evaluation.Evaluation.{Evaluation}
use Rattle.source_interp.specs.declared.machine.Machine.{Machine}
use Rattle.source_interp.specs.declared.stop.Cause.TheVariants as cause
use Rattle.source_interp.specs.declared.stop.Fault.{Fault}
use Rattle.source_interp.specs.declared.stop.Stop.{Stop}
use Rattle.source_interp.specs.declared.stop.Stop.TheVariants as stop
use Rattle.source_interp.specs.Answers.{value_or_end}
use Rattle.source_interp.specs.Outside.{Outside}
use Rattle.source_interp.specs.Performing.{Fails, Performs, left_by}
use Rattle.source_interp.specs.Standing.{Acts}
use Rattle.source_interp.proofs.Acting.{failed_acts, gives_acts, same_acts, stop_acts, then_acts}

-- a value is left on others
left_acts : (c : Course) (r : Registers) (m : Machine) (mid new : Evaluation) (before now : Outside)
    (x : Result Rvalue Stop) (v : Rvalue) (below : List Rvalue) (run : Run Rvalue) (res : Result (Unit {0}) Stop)
    → x ≡ Ok v → Acts c.setting m mid.machine before now x run
    → OnOk res (new ≡ record mid { values = v ∷ mid.values }) → Fails res → mid.values ≡ below
    → Acts c.setting m new.machine before now (left_by res r new.values) (pushing r below run)
left_acts c r m mid new before now x v below run (Ok t) e a left fails same =
    let machine : new.machine ≡ mid.machine = ap {A = Evaluation} (λ z. z.machine) left in
    let values : new.values ≡ v ∷ below = ap {A = Evaluation} (λ z. z.values) left ∙ ap (λ vs. v ∷ vs) same in
    subst (λ y. Acts c.setting m y before now (Ok (record r { values = new.values })) (pushing r below run))
    (sym machine) (then_acts c.setting m mid.machine mid.machine before now now x v (Ok (record r {
      values = new.values;
    })) run
    (λ w. done (record r { values = w ∷ below })) e a
    (gives_acts c.setting mid.machine now (record r { values = new.values }) (record r { values = v ∷ below })
    (ap (λ vs. record r { values = vs }) values)))
left_acts c r m mid new before now x v below run (Err (stop.Exited status)) e a left fails same = absurd fails
left_acts c r m mid new before now x v below run (Err (stop.Ended k line)) e a left fails same = absurd fails
left_acts c r m mid new before now x v below run (Err stop.Paused) e a left fails same = absurd fails
left_acts c r m mid new before now x v below run (Err (stop.Failed f)) e a left fails same =
    record { by = λ start s st. tt }

-- an action that goes no further
stopped_by : (old new : Evaluation) (before now : Outside) (e : Stop) (res : Result (Unit {0}) Stop) (a : Action)
    → res ≡ Err e → ((c : Course) (r : Registers) → r.values ≡ old.values
    → Acts {A = Registers} c.setting old.machine new.machine before now (Err e) (act c a r))
    → Performs old new before now res a
stopped_by old new before now e res a is acts =
    subst (λ y. Performs old new before now y a) (sym is) (record { by = acts })

-- actions without operands

module _ (a : Action) (k : Run Rvalue) (law : (c : Course) (r : Registers) → act c a r ≡ pushing r r.values k)
    (old after : Evaluation) (before now : Outside) (x : Result Rvalue Stop)
    (acts : (g : Setting) → Acts g old.machine after.machine before now x k) where
  as_none : (c : Course) (r : Registers) → r.values ≡ old.values → act c a r ≡ pushing r old.values k
  as_none c r same = law c r ∙ ap (λ vs. pushing r vs k) same

  pub no_operand : (new : Evaluation) (v : Rvalue) (res : Result (Unit {0}) Stop) → x ≡ Ok v
      → after.values ≡ old.values → OnOk res (new ≡ record after { values = v ∷ after.values }) → Fails res
      → Performs old new before now res a
  no_operand new v res e same left fails = record {
    by = λ c r is.
        same_acts c.setting old.machine new.machine before now (left_by res r new.values) _ _ (as_none c r is)
        (left_acts c r old.machine after new before now x v old.values k res e (acts c.setting) left fails same);
  }

  pub no_operand_stops : (e : Stop) (res : Result (Unit {0}) Stop) → x ≡ Err e → res ≡ Err e
      → Performs old after before now res a
  no_operand_stops e res is is' = stopped_by old after before now e res a is' (λ c r same.
      same_acts c.setting old.machine after.machine before now (Err e) _ _ (as_none c r same)
      (stop_acts c.setting old.machine after.machine before now x (Err e) e k
      (λ v. done (record r { values = v ∷ old.values })) is refl (acts c.setting)))

-- actions on the value found last

module _ (a : Action) (k : Rvalue → Run Rvalue)
    (law : (c : Course) (r : Registers) → act c a r ≡ pushing r (below_top r) (k (top r)))
    (old mid after : Evaluation) (before now : Outside) (t : Rvalue) (x : Result Rvalue Stop)
    (found : t ≡ first_of old.values) (taken : mid ≡ record old { values = rest_of old.values })
    (acts : (g : Setting) → Acts g mid.machine after.machine before now x (k t)) where
  as_one : (c : Course) (r : Registers) → r.values ≡ old.values → act c a r ≡ pushing r (rest_of old.values) (k t)
  as_one c r same =
      law c r ∙ ap (λ vs. pushing r (rest_of vs) (k (first_of vs))) same
      ∙ ap (λ w. pushing r (rest_of old.values) (k w)) (sym found)

  one_acts : (g : Setting) → Acts g old.machine after.machine before now x (k t)
  one_acts g = subst (λ y. Acts g y after.machine before now x (k t)) (ap {A = Evaluation} (λ z. z.machine) taken)
      (acts g)

  pub one_operand : (new : Evaluation) (v : Rvalue) (res : Result (Unit {0}) Stop) → x ≡ Ok v
      → after.values ≡ mid.values → OnOk res (new ≡ record after { values = v ∷ after.values }) → Fails res
      → Performs old new before now res a
  one_operand new v res e same left fails = record {
    by = λ c r is. same_acts c.setting old.machine new.machine before now (left_by res r new.values) _ _ (as_one c r is)
        (left_acts c r old.machine after new before now x v (rest_of old.values) (k t) res e (one_acts c.setting) left
        fails (same ∙ ap {A = Evaluation} (λ z. z.values) taken));
  }

  pub one_operand_stops : (e : Stop) (res : Result (Unit {0}) Stop) → x ≡ Err e → res ≡ Err e
      → Performs old after before now res a
  one_operand_stops e res is is' = stopped_by old after before now e res a is' (λ c r same.
      same_acts c.setting old.machine after.machine before now (Err e) _ _ (as_one c r same)
      (stop_acts c.setting old.machine after.machine before now x (Err e) e (k t)
      (λ v. done (record r { values = v ∷ rest_of old.values })) is refl (one_acts c.setting)))

-- actions on the two values found last

module _ (a : Action) (k : (left right : Rvalue) → Run Rvalue)
    (law : (c : Course) (r : Registers) → act c a r ≡ pushing r (below_second r) (k (second r) (top r)))
    (old mid low after : Evaluation) (before now : Outside) (left right : Rvalue) (x : Result Rvalue Stop)
    (found : right ≡ first_of old.values) (taken : mid ≡ record old { values = rest_of old.values })
    (found_left : left ≡ first_of mid.values) (taken_left : low ≡ record mid { values = rest_of mid.values })
    (acts : (g : Setting) → Acts g low.machine after.machine before now x (k left right)) where
  below_is : low.values ≡ rest_of (rest_of old.values)
  below_is = ap {A = Evaluation} (λ z. z.values) taken_left ∙ ap {A = Evaluation} (λ z. rest_of z.values) taken

  left_is : left ≡ first_of (rest_of old.values)
  left_is = found_left ∙ ap {A = Evaluation} (λ z. first_of z.values) taken

  as_two : (c : Course) (r : Registers) → r.values ≡ old.values
      → act c a r ≡ pushing r (rest_of (rest_of old.values)) (k left right)
  as_two c r same =
      law c r ∙ ap (λ vs. pushing r (rest_of (rest_of vs)) (k (first_of (rest_of vs)) (first_of vs))) same
      ∙ ap (λ w. pushing r (rest_of (rest_of old.values)) (k (first_of (rest_of old.values)) w)) (sym found)
      ∙ ap (λ w. pushing r (rest_of (rest_of old.values)) (k w right)) (sym left_is)

  two_acts : (g : Setting) → Acts g old.machine after.machine before now x (k left right)
  two_acts g = subst (λ y. Acts g y after.machine before now x (k left right))
      (ap {A = Evaluation} (λ z. z.machine) taken_left ∙ ap {A = Evaluation} (λ z. z.machine) taken) (acts g)

  pub two_operands : (new : Evaluation) (v : Rvalue) (res : Result (Unit {0}) Stop) → x ≡ Ok v
      → after.values ≡ low.values → OnOk res (new ≡ record after { values = v ∷ after.values }) → Fails res
      → Performs old new before now res a
  two_operands new v res e same put fails = record {
    by = λ c r is. same_acts c.setting old.machine new.machine before now (left_by res r new.values) _ _ (as_two c r is)
        (left_acts c r old.machine after new before now x v (rest_of (rest_of old.values)) (k left right) res e
        (two_acts c.setting) put fails (same ∙ below_is));
  }

  pub two_operands_stop : (e : Stop) (res : Result (Unit {0}) Stop) → x ≡ Err e → res ≡ Err e
      → Performs old after before now res a
  two_operands_stop e res is is' = stopped_by old after before now e res a is' (λ c r same.
      same_acts c.setting old.machine after.machine before now (Err e) _ _ (as_two c r same)
      (stop_acts c.setting old.machine after.machine before now x (Err e) e (k left right)
      (λ v. done (record r { values = v ∷ rest_of (rest_of old.values) })) is refl (two_acts c.setting)))

-- actions that leave the values as they are

module _ (a : Action) (k : Run (Unit {0})) (old after : Evaluation) (before now : Outside)
    (law : (c : Course) (r : Registers) → r.values ≡ old.values → act c a r ≡ (k >> done r))
    (same : after.values ≡ old.values) where
  stays : (c : Course) (r : Registers) (x : Result (Unit {0}) Stop) → r.values ≡ old.values
      → Acts c.setting old.machine after.machine before now x k
      → Acts c.setting old.machine after.machine before now (left_by x r after.values) (k >> done r)
  stays c r (Ok u) is f =
      then_acts c.setting old.machine after.machine after.machine before now now (Ok u) u
      (Ok (record r { values = after.values })) k (λ _. done r) refl f
      (gives_acts c.setting after.machine now (record r { values = after.values }) r
      (ap (λ vs. record r { values = vs }) (same ∙ sym is)))
  stays c r (Err e) is f =
      stop_acts c.setting old.machine after.machine before now (Err e) (Err e) e k (λ _. done r) refl refl f

  pub values_stay : (x : Result (Unit {0}) Stop)
      → ((g : Setting) → Acts g old.machine after.machine before now x k) → Performs old after before now x a
  values_stay x acts = record {
    by = λ c r is. same_acts c.setting old.machine after.machine before now (left_by x r after.values) (k >> done r)
        (act c a r) (law c r is) (stays c r x is (acts c.setting));
  }

-- an action that takes the value found last, and gives none

module _ (a : Action) (k : Run Rvalue) (old after : Evaluation) (before now : Outside) (x : Result Rvalue Stop)
    (law : (c : Course) (r : Registers) → r.values ≡ old.values → act c a r ≡ (k >> done (popped r)))
    (acts : (g : Setting) → Acts g old.machine after.machine before now x k) where
  pub lets_go : (v : Rvalue) → x ≡ Ok v → after.values ≡ rest_of old.values → Performs old after before now (Ok tt) a
  lets_go v e same = record {
    by = λ c r is. same_acts c.setting old.machine after.machine before now (Ok (record r { values = after.values }))
        (k >> done (popped r)) (act c a r) (law c r is)
        (then_acts c.setting old.machine after.machine after.machine before now now x v
        (Ok (record r { values = after.values })) k (λ _. done (popped r)) e (acts c.setting)
        (gives_acts c.setting after.machine now (record r { values = after.values }) (popped r)
        (ap (λ vs. record r { values = vs }) (same ∙ ap rest_of (sym is)))));
  }

  pub lets_none_go : (e : Stop) (res : Result (Unit {0}) Stop) → x ≡ Err e → res ≡ Err e
      → Performs old after before now res a
  lets_none_go e res is is' = stopped_by old after before now e res a is' (λ c r same.
      same_acts c.setting old.machine after.machine before now (Err e) (k >> done (popped r)) (act c a r) (law c r same)
      (stop_acts c.setting old.machine after.machine before now x (Err e) e k (λ _. done (popped r)) is refl
      (acts c.setting)))

-- a value as a value without contents

pub as_value : (g : Setting) (old new : Machine) (before now : Outside) (x : Result Value Stop) (v : Value) (f : Rvalue)
    (run : Run Value) → x ≡ Ok v → f ≡ rvalue v → Acts g old new before now x run
    → Acts g old new before now (Ok f) (as_rvalue run)
as_value g old new before now x v f run e h a =
    then_acts g old new new before now now x v (Ok f) run give e a (gives_acts g new now f (rvalue v) h)

pub as_value_stops : (g : Setting) (old new : Machine) (before now : Outside) (x : Result Value Stop) (e : Stop)
    (run : Run Value) → x ≡ Err e → Acts g old new before now x run
    → Acts g old new before now (Err e) (as_rvalue run)
as_value_stops g old new before now x e run is a = stop_acts g old new before now x (Err e) e run give is refl a

-- operators

pub operates_value : (g : Setting) (o : Outside) (m : Machine) (op : BinaryOperator) (t : IntType) (x y v : Value)
    (line : ℕ) → ((line : ℕ) (s : State) → operate op t x y line s ≡ value_or_end (Some v) line s)
    → Acts g m m o o (Ok v) (operate op t x y line)
operates_value g o m op t x y v line h = record {
  by = λ start s st. record { state = s; holds = st; comes = h line s };
}

pub operates_none : (g : Setting) (o : Outside) (m : Machine) (op : BinaryOperator) (t : IntType) (x y : Value)
    (line : ℕ) → ((line : ℕ) (s : State) → operate op t x y line s ≡ value_or_end None line s)
    → Acts {A = Value} g m m o o (Err (stop.Ended cause.Divide line)) (operate op t x y line)
operates_none g o m op t x y line h = record {
  by = λ start s st. record { state = s; holds = st; comes = h line s };
}

pub ruleset operating = (operates_value, operates_none)

pub subtracts : (g : Setting) (m : Machine) (o : Outside) (size : ℕ) (left right v : Value)
    → v ≡ difference_value size left right → Acts g m m o o (Ok v) (done (difference_value size left right))
subtracts g m o size left right v e = gives_acts g m o v (difference_value size left right) e

pub ruleset subtracting = (subtracts, failed_acts)

-- a variable that gets the value found last

pub sets_found : (g : Setting) (old new : Machine) (o : Outside) (x : ℕ) (stored found : Value) (f : Rvalue)
    → stored ≡ found → f ≡ rvalue stored → Acts g old new o o (Ok tt) (set_plain x stored)
    → Acts g old new o o (Ok f) (set_plain x found >> give found)
sets_found g old new o x stored found f e h a =
    subst (λ y. Acts g old new o o (Ok f) (set_plain x y >> give y)) e
    (then_acts g old new new o o o (Ok tt) tt (Ok f) (set_plain x stored) (λ _. give stored) refl a
    (gives_acts g new o f (rvalue stored) h))

-- a value that is let go

pub drops : (old new : Evaluation) (o : Outside) → new ≡ record old { values = rest_of old.values }
    → Performs old new o o (Ok tt) Drop
unfolding act
drops old new o e = record {
  by = λ c r same. subst (λ y. Acts c.setting old.machine y o o (Ok (record r { values = new.values })) (act c Drop r))
      (sym (ap {A = Evaluation} (λ z. z.machine) e))
      (gives_acts c.setting old.machine o (record r { values = new.values }) (record r { values = rest_of r.values })
      (ap (λ vs. record r { values = vs }) (ap {A = Evaluation} (λ z. z.values) e ∙ ap rest_of (sym same))));
}

-- a result that is none is that the code could not go on

pub fails : (f : Fault) (e : Stop) → e ≡ stop.Failed f → Fails {A = Unit {0}} (Err e)
fails f e same = subst (λ x. Fails {A = Unit {0}} (Err x)) (sym same) tt

pub ruleset leaving = (fails)
