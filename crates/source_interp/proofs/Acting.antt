-- What code does one call after another is what runs do one after another.
use Rattle.std.proofs.Common.{◌≡◌, sym, ap, subst, refl, Ok, Err}
use Rattle.std.specs.Prelude.{Result}
use Rattle.source_meaning.specs.State.{State, Outcome, Gives, on, Run, done, Setting}
use Rattle.source_interp.specs.declared.machine.Machine.{Machine}
use Rattle.source_interp.specs.declared.stop.Fault.{Fault}
use Rattle.source_interp.specs.declared.stop.Stop.{Stop}
use Rattle.source_interp.specs.declared.stop.Stop.TheVariants as stop
use Rattle.source_interp.specs.Outside.{Outside}
use Rattle.source_interp.specs.Standing.{Acts, Does, Stands}

-- where a run goes no further, nothing follows
stops_on : {A B : Type 0} (e : Stop) (first : Outcome A) (next : A → Run B) (Holds : State → Type 0)
    → Does (Err e) first Holds → Does {A = B} (Err e) (on first next) Holds
stops_on (stop.Exited status) first next Holds d =
    record { state = d.state; holds = d.holds; comes = ap (λ x. on x next) d.comes }
stops_on (stop.Ended c line) first next Holds d =
    record { state = d.state; holds = d.holds; comes = ap (λ x. on x next) d.comes }
stops_on stop.Paused first next Holds d =
    record { state = d.state; holds = d.holds; comes = ap (λ x. on x next) d.comes }
stops_on (stop.Failed f) first next Holds d = tt

pub stop_acts : {A B : Type 0} (g : Setting) (old new : Machine) (before now : Outside) (r : Result A Stop)
    (r' : Result B Stop) (e : Stop) (first : Run A) (next : A → Run B) → r ≡ Err e → r' ≡ Err e
    → Acts g old new before now r first → Acts g old new before now r' (λ s. on (first s) next)
stop_acts {A} {B} g old new before now r r' e first next same same' f = record {
  by = λ start s st. subst (λ y. Does {A = B} y (on (first s) next) (Stands g start new now)) (sym same')
      (stops_on {A = A} {B = B} e (first s) next (Stands g start new now)
      (subst (λ x. Does x (first s) (Stands g start new now)) same (f.by start s st)));
}

pub then_acts : {A B : Type 0} (g : Setting) (old mid new : Machine) (before during now : Outside) (r : Result A Stop)
    (v : A) (r' : Result B Stop) (first : Run A) (next : A → Run B) → r ≡ Ok v → Acts g old mid before during r first
    → Acts g mid new during now r' (next v) → Acts g old new before now r' (λ s. on (first s) next)
then_acts g old mid new before during now r v r' first next same f n = record {
  by = λ start s st.
      let d : Does (Ok v) (first s) (Stands g start mid during) =
      subst (λ x. Does x (first s) (Stands g start mid during)) same (f.by start s st) in
      subst (λ x. Does r' (on x next) (Stands g start new now)) (sym d.comes) (n.by start d.state d.holds);
}

-- a value that is there
pub done_acts : {A : Type 0} (g : Setting) (m : Machine) (o : Outside) (v : A) → Acts g m m o o (Ok v) (done v)
done_acts g m o v = record { by = λ start s st. record { state = s; holds = st; comes = refl } }

pub gives_acts : {A : Type 0} (g : Setting) (m : Machine) (o : Outside) (v v' : A) → v ≡ v'
    → Acts g m m o o (Ok v) (done v')
gives_acts g m o v v' e = record {
  by = λ start s st. record { state = s; holds = st; comes = ap (λ x. Gives x s) (sym e) };
}

-- a run that is another
pub same_acts : {A : Type 0} (g : Setting) (old new : Machine) (before now : Outside) (r : Result A Stop)
    (run run' : Run A) → run' ≡ run → Acts g old new before now r run → Acts g old new before now r run'
same_acts g old new before now r run run' e a = subst (λ x. Acts g old new before now r x) (sym e) a

-- a run that comes to the same from each state
pub alike_acts : {A : Type 0} (g : Setting) (old new : Machine) (before now : Outside) (r : Result A Stop)
    (run run' : Run A) → ((s : State) → run' s ≡ run s) → Acts g old new before now r run
    → Acts g old new before now r run'
alike_acts g old new before now r run run' e a = record {
  by = λ start s st. subst (λ x. Does r x (Stands g start new now)) (sym (e s)) (a.by start s st);
}

-- what is read of the state is what the machine has, and then it goes on
pub reads_then : {A B : Type 0} (g : Setting) (old new : Machine) (before now : Outside) (v : A) (r : Result B Stop)
    (f : State → A) (next : A → Run B)
    → ((start : Outside) (s : State) → Stands g start old before s → f s ≡ v)
    → Acts g old new before now r (next v) → Acts g old new before now r (λ s. next (f s) s)
reads_then g old new before now v r f next e a = record {
  by = λ start s st.
      subst (λ x. Does r (next x s) (Stands g start new now)) (sym (e start s st)) (a.by start s st);
}

-- a run over which another goes on: what comes of what is left comes of all
pub record Continues {A : Type 0} (g : Setting) (first now : Machine) (before during : Outside) (all left : Run A)
    : Type 0 where
  pub by : (new : Machine) (after : Outside) (r : Result A Stop) → Acts g now new during after r left
      → Acts g first new before after r all

pub begins_all : {A : Type 0} (g : Setting) (m : Machine) (o : Outside) (all : Run A) → Continues g m m o o all all
begins_all g m o all = record { by = λ new after r a. a }

-- one run more of what is left
pub goes_on : {A B : Type 0} (g : Setting) (first now next : Machine) (before during then : Outside) (all left : Run A)
    (step : Run B) (others : B → Run A) (r : Result B Stop) (v : B)
    → Continues g first now before during all left → ((s : State) → left s ≡ on (step s) others) → r ≡ Ok v
    → Acts g now next during then r step → Continues g first next before then all (others v)
goes_on g first now next before during then all left step others r v so_far e is a = record {
  by = λ new after r' b. so_far.by new after r' (alike_acts g now new during after r' (λ s. on (step s) others) left e
      (then_acts g now next new during then after r v r' step others is a b));
}

pub goes_no_further : {A B : Type 0} (g : Setting) (first now next : Machine) (before during then : Outside)
    (all left : Run A) (step : Run B) (others : B → Run A) (r : Result B Stop) (r' : Result A Stop) (e : Stop)
    → Continues g first now before during all left → ((s : State) → left s ≡ on (step s) others) → r ≡ Err e
    → r' ≡ Err e → Acts g now next during then r step → Acts g first next before then r' all
goes_no_further g first now next before during then all left step others r r' e so_far same is is' a =
    so_far.by next then r' (alike_acts g now next during then r' (λ s. on (step s) others) left same
    (stop_acts g now next during then r r' e step others is is' a))

pub goes_to_end : {A : Type 0} (g : Setting) (first now : Machine) (before during : Outside) (all left : Run A) (v : A)
    → Continues g first now before during all left → ((s : State) → left s ≡ Gives v s)
    → Acts g first now before during (Ok v) all
goes_to_end g first now before during all left v so_far e =
    so_far.by now during (Ok v) (alike_acts g now now during during (Ok v) (done v) left e (done_acts g now during v))

-- where the code could not go on, nothing is to be shown
pub failed_acts : {A : Type 0} (g : Setting) (old new : Machine) (before now : Outside) (f : Fault) (e : Stop)
    (run : Run A) → e ≡ stop.Failed f → Acts g old new before now (Err e) run
failed_acts g old new before now f e run same =
    subst (λ x. Acts g old new before now (Err x) run) (sym same) (record { by = λ start s st. tt })

pub ruleset failing = (failed_acts)
