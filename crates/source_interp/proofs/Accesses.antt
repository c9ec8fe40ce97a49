-- Accesses of scalars.
use Rattle.std.proofs.Common.{◌≡◌, ℕ, ◌+◌, sym, ap, subst, refl, ◌∙◌, Ok, Err, Bool, true, false, Some, if◌then◌else◌}
use Rattle.std.specs.Prelude.{Result}
use Rattle.obj_memory.specs.declared.judgement.Verdict.{Verdict}
use Rattle.obj_memory.specs.declared.judgement.Verdict.TheVariants.{Outside as OutOfBounds, Dead, Inside}
use Rattle.obj_memory.specs.declared.value.Place.{Place}
use Rattle.obj_memory.specs.declared.value.Scalar.{Scalar}
use Rattle.obj_memory.specs.declared.value.Value.{Value}
use Rattle.obj_memory.specs.Access.{read_value, scalar_size, write_value}
use Rattle.obj_memory.specs.Objects.{Objects}
use Rattle.obj_memory.specs.Sound.{KeepsObjects}
use Rattle.obj_memory.proofs.Keeping.{keeps_value}
use Rattle.source_meaning.specs.State.{State, Setting, read_state, change}
use Rattle.source_meaning.specs.Places.{heap_first, heap_last}
use Rattle.source_meaning.specs.Actions.{load, located, note, place_or_stop, read_scalar, store, verdict_on}
use Rattle.source_meaning.specs.Actions.{write_scalar}
use Rattle.behaviours.specs.Shown.{Read, Write}
use Rattle.interpreter_objects.specs.Blocks.{AreInOrder, AreLive}
use Rattle.interpreter_objects.specs.Kept.{found, is_there, kept, with_written}
use Rattle.interpreter_objects.proofs.Keeping.{same_found, same_judged, same_named, same_there, same_written}
use Rattle.interpreter_objects.proofs.Ranges.{some_is}
use Rattle.interpreter_objects.proofs.Weights.{kept_live}
use Rattle.source_interp.specs.declared.machine.Machine.{Machine}
use Rattle.source_interp.specs.declared.stop.Stop.{Stop}
use Rattle.source_interp.specs.declared.stop.Stop.TheVariants as stop
use Rattle.source_interp.specs.declared.stop.Cause.TheVariants as cause
use Rattle.source_interp.specs.Outside.{Outside}
use Rattle.source_interp.specs.Standing.{Acts, Stands}
use Rattle.source_interp.proofs.Acting.{stop_acts, then_acts}
use Rattle.source_interp.proofs.Least.{reads}

-- the place of an access

same_verdict : (is_judged : Bool) (size : ℕ) (v : Value) (store objects : Objects) → store ≡ kept objects
    → verdict_on is_judged size v objects ≡ verdict_on is_judged size v store
same_verdict true size v store objects e = sym (ap (verdict_on true size v) e ∙ same_judged size v objects)
same_verdict false size v store objects e = sym (ap (verdict_on false size v) e ∙ same_named v objects)

-- what is found by the verdict on the machine's objects
verdict_is : (g : Setting) (o start : Outside) (m : Machine) (s : State) (is_judged : Bool) (size line : ℕ) (v : Value)
    (x : Verdict) → Stands g start m o s → x ≡ verdict_on is_judged size v m.store
    → located is_judged size v line s ≡ place_or_stop x line s
verdict_is g o start m s is_judged size line v x st e =
    ap (λ y. place_or_stop y line s) (same_verdict is_judged size v m.store s.objects st.objects_are ∙ sym e)

pub locates_inside : (g : Setting) (o : Outside) (m : Machine) (is_judged : Bool) (size line : ℕ) (v : Value)
    (p : Place) → Inside p ≡ verdict_on is_judged size v m.store
    → Acts g m m o o (Ok p) (located is_judged size v line)
locates_inside g o m is_judged size line v p e = record {
  by = λ start s st. record {
    state = s;
    holds = st;
    comes = verdict_is g o start m s is_judged size line v (Inside p) st e;
  };
}

pub locates_outside : (g : Setting) (o : Outside) (m : Machine) (is_judged : Bool) (size line : ℕ) (v : Value)
    → OutOfBounds ≡ verdict_on is_judged size v m.store
    → Acts {A = Place} g m m o o (Err (stop.Ended cause.Spatial line)) (located is_judged size v line)
locates_outside g o m is_judged size line v e = record {
  by = λ start s st. record {
    state = s;
    holds = st;
    comes = verdict_is g o start m s is_judged size line v OutOfBounds st e;
  };
}

pub locates_dead : (g : Setting) (o : Outside) (m : Machine) (is_judged : Bool) (size line : ℕ) (v : Value)
    → Dead ≡ verdict_on is_judged size v m.store
    → Acts {A = Place} g m m o o (Err (stop.Ended cause.Temporal line)) (located is_judged size v line)
locates_dead g o m is_judged size line v e = record {
  by = λ start s st. record {
    state = s;
    holds = st;
    comes = verdict_is g o start m s is_judged size line v Dead st e;
  };
}

-- what is read and written there

pub finds : (g : Setting) (o : Outside) (m : Machine) (k : Scalar) (p : Place) (v : Value)
    → Some v ≡ found k p m.store → Acts g m m o o (Ok v) (read_state (λ s. read_value k p s.objects))
unfolding found
finds g o m k p v e = reads g o m v (λ s. read_value k p s.objects)
    (λ start s st. sym (some_is (is_there (scalar_size k) p s.objects) v (read_value k p s.objects)
    (e ∙ ap (found k p) st.objects_are ∙ same_found k p s.objects)))

-- the machine's objects are changed as all are, and its blocks with those
pub alters_blocks : (g : Setting) (o : Outside) (old new : Machine) (f : Objects → Objects)
    → new ≡ record old { store = new.store; blocks = new.blocks }
    → ((objects : Objects) → old.store ≡ kept objects → new.store ≡ kept (f objects))
    → ((objects : Objects) → old.store ≡ kept objects → AreLive objects old.blocks → AreLive (f objects) new.blocks)
    → (AreInOrder (heap_first g) (heap_last g + 1) old.blocks → AreInOrder (heap_first g) (heap_last g + 1) new.blocks)
    → Acts g old new o o (Ok tt) (change (λ s. record s { objects = f s.objects }))
alters_blocks g o old new f e h live order = record {
  by = λ start s st.
      let next : State = record s { objects = f s.objects } in
      record {
        state = next;
        holds = subst (λ m. Stands g start m o next) (sym e) (record {
          objects_are = h s.objects st.objects_are;
          blocks_live = live s.objects st.objects_are st.blocks_live;
          in_order = order st.in_order;
          frame_is = st.frame_is;
          plain_is = st.plain_is;
          input_is = st.input_is;
          taken_is = st.taken_is;
          output_is = st.output_is;
          accesses_are = st.accesses_are;
          count_is = st.count_is;
          work_is = st.work_is;
          turns_are = st.turns_are;
          charged_is = st.charged_is;
          stacked_is = st.stacked_is;
          keys_are = st.keys_are;
        });
        comes = refl;
      };
}

-- where no block is made and none dies
pub alters : (g : Setting) (o : Outside) (old new : Machine) (f : Objects → Objects)
    → new ≡ record old { store = new.store }
    → ((objects : Objects) → old.store ≡ kept objects → new.store ≡ kept (f objects))
    → ((objects : Objects) → old.store ≡ kept objects → AreLive objects old.blocks → AreLive (f objects) old.blocks)
    → Acts g old new o o (Ok tt) (change (λ s. record s { objects = f s.objects }))
alters g o old new f e h live =
    subst (λ m. Acts g old m o o (Ok tt) (change (λ s. record s { objects = f s.objects }))) (sym e)
    (alters_blocks g o old (record old { store = new.store }) f refl h live (λ order. order))

-- a change that keeps what objects are
pub changes : (g : Setting) (o : Outside) (old new : Machine) (f : Objects → Objects)
    → ((objects : Objects) → KeepsObjects objects (f objects)) → new ≡ record old { store = new.store }
    → ((objects : Objects) → old.store ≡ kept objects → new.store ≡ kept (f objects))
    → Acts g old new o o (Ok tt) (change (λ s. record s { objects = f s.objects }))
changes g o old new f keeps e h = alters g o old new f e h
    (λ objects same live. kept_live objects (f objects) old.blocks (keeps objects) live)

written_there : (k : Scalar) (p : Place) (v : Value) (store store' objects : Objects)
    → true ≡ is_there (scalar_size k) p store → store' ≡ with_written k v p store → store ≡ kept objects
    → store' ≡ kept (write_value k v p objects)
unfolding with_written
written_there k p v store store' objects t e same =
    e ∙ ap (with_written k v p) same ∙ same_written k v p objects
    ∙ ap (λ b. kept (if b then write_value k v p objects else objects))
    (sym (same_there (scalar_size k) p objects) ∙ sym (ap (is_there (scalar_size k) p) same) ∙ sym t)

pub puts : (g : Setting) (o : Outside) (old new : Machine) (k : Scalar) (p : Place) (v : Value)
    → true ≡ is_there (scalar_size k) p old.store → new.store ≡ with_written k v p old.store
    → new ≡ record old { store = new.store }
    → Acts g old new o o (Ok tt) (change (λ s. record s { objects = write_value k v p s.objects }))
puts g o old new k p v t e same = changes g o old new (write_value k v p) (λ objects. keeps_value k v p objects) same
    (λ objects h. written_there k p v old.store new.store objects t e h)

-- a scalar read and written at a place, and through a pointer

module _ (g : Setting) (old mid new : Machine) (before during now : Outside) where
  pub reads_scalar : (k : Scalar) (address size : ℕ) (p : Place) (u : Unit {0}) (r : Result (Unit {0}) Stop)
      (r' : Result Value Stop) → size ≡ scalar_size k → r ≡ Ok u
      → Acts g old mid before during r (note Read address size)
      → Acts g mid new during now r' (read_state (λ s. read_value k p s.objects))
      → Acts g old new before now r' (read_scalar k address p)
  reads_scalar k address size p u r r' e is a b =
      then_acts g old mid new before during now r u r' (note Read address (scalar_size k))
      (λ x. read_state (λ s. read_value k p s.objects)) is
      (subst (λ n. Acts g old mid before during r (note Read address n)) e a) b

  pub writes_scalar : (k : Scalar) (address size : ℕ) (p : Place) (v : Value) (u : Unit {0})
      (r r' : Result (Unit {0}) Stop) → size ≡ scalar_size k → r ≡ Ok u
      → Acts g old mid before during r (note Write address size)
      → Acts g mid new during now r' (change (λ s. record s { objects = write_value k v p s.objects }))
      → Acts g old new before now r' (write_scalar k address p v)
  writes_scalar k address size p v u r r' e is a b =
      then_acts g old mid new before during now r u r' (note Write address (scalar_size k))
      (λ x. change (λ s. record s { objects = write_value k v p s.objects })) is
      (subst (λ n. Acts g old mid before during r (note Write address n)) e a) b

  pub loads : (k : Scalar) (is_judged : Bool) (v : Value) (line size : ℕ) (p : Place) (r : Result Place Stop)
      (r' : Result Value Stop) → size ≡ scalar_size k → r ≡ Ok p
      → Acts g old mid before during r (located is_judged size v line)
      → Acts g mid new during now r' (read_scalar k v.word p)
      → Acts g old new before now r' (load k is_judged v line)
  loads k is_judged v line size p r r' e is a b =
      then_acts g old mid new before during now r p r' (located is_judged (scalar_size k) v line)
      (λ x. read_scalar k v.word x) is
      (subst (λ n. Acts g old mid before during r (located is_judged n v line)) e a) b

  pub stores : (k : Scalar) (is_judged : Bool) (v w : Value) (line size : ℕ) (p : Place) (r : Result Place Stop)
      (r' : Result (Unit {0}) Stop) → size ≡ scalar_size k → r ≡ Ok p
      → Acts g old mid before during r (located is_judged size v line)
      → Acts g mid new during now r' (write_scalar k v.word p w)
      → Acts g old new before now r' (store k is_judged v line w)
  stores k is_judged v w line size p r r' e is a b =
      then_acts g old mid new before during now r p r' (located is_judged (scalar_size k) v line)
      (λ x. write_scalar k v.word x w) is
      (subst (λ n. Acts g old mid before during r (located is_judged n v line)) e a) b

-- the same where the first part goes no further

module _ (g : Setting) (old new : Machine) (before now : Outside) (e : Stop) where
  pub reads_no_scalar : (k : Scalar) (address size : ℕ) (p : Place) (r : Result (Unit {0}) Stop)
      (r' : Result Value Stop) → size ≡ scalar_size k → r ≡ Err e → r' ≡ Err e
      → Acts g old new before now r (note Read address size)
      → Acts g old new before now r' (read_scalar k address p)
  reads_no_scalar k address size p r r' same is is' a =
      stop_acts g old new before now r r' e (note Read address (scalar_size k))
      (λ x. read_state (λ s. read_value k p s.objects)) is is'
      (subst (λ n. Acts g old new before now r (note Read address n)) same a)

  pub writes_no_scalar : (k : Scalar) (address size : ℕ) (p : Place) (v : Value) (r r' : Result (Unit {0}) Stop)
      → size ≡ scalar_size k → r ≡ Err e → r' ≡ Err e → Acts g old new before now r (note Write address size)
      → Acts g old new before now r' (write_scalar k address p v)
  writes_no_scalar k address size p v r r' same is is' a =
      stop_acts g old new before now r r' e (note Write address (scalar_size k))
      (λ x. change (λ s. record s { objects = write_value k v p s.objects })) is is'
      (subst (λ n. Acts g old new before now r (note Write address n)) same a)

  pub loads_none : (k : Scalar) (is_judged : Bool) (v : Value) (line size : ℕ) (r : Result Place Stop)
      (r' : Result Value Stop) → size ≡ scalar_size k → r ≡ Err e → r' ≡ Err e
      → Acts g old new before now r (located is_judged size v line)
      → Acts g old new before now r' (load k is_judged v line)
  loads_none k is_judged v line size r r' same is is' a =
      stop_acts g old new before now r r' e (located is_judged (scalar_size k) v line)
      (λ x. read_scalar k v.word x) is is'
      (subst (λ n. Acts g old new before now r (located is_judged n v line)) same a)

  pub stores_none : (k : Scalar) (is_judged : Bool) (v w : Value) (line size : ℕ) (r : Result Place Stop)
      (r' : Result (Unit {0}) Stop) → size ≡ scalar_size k → r ≡ Err e → r' ≡ Err e
      → Acts g old new before now r (located is_judged size v line)
      → Acts g old new before now r' (store k is_judged v line w)
  stores_none k is_judged v w line size r r' same is is' a =
      stop_acts g old new before now r r' e (located is_judged (scalar_size k) v line)
      (λ x. write_scalar k v.word x w) is is'
      (subst (λ n. Acts g old new before now r (located is_judged n v line)) same a)
