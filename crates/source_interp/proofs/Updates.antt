-- Scalars that are updated.
use Rattle.std.proofs.Common.{◌≡◌, ℕ, refl, subst, Ok, Err, Bool, Some, None}
use Rattle.std.specs.Prelude.{Result}
use Rattle.obj_memory.specs.declared.value.Place.{Place}
use Rattle.obj_memory.specs.declared.value.Scalar.{Scalar}
use Rattle.obj_memory.specs.declared.value.Value.{Value}
use Rattle.obj_memory.specs.Access.{scalar_size}
use Rattle.c_tree.specs.declared.expression.Fixity.{Fixity}
use Rattle.c_tree.specs.declared.expression.Update.{Update}
use Rattle.source_meaning.specs.State.{State, Run, ◌>>=◌, ◌>>◌, done, read_state, Setting}
use Rattle.source_meaning.specs.Actions.{given, located, plain_value, read_scalar, set_plain, update, update_plain}
use Rattle.source_meaning.specs.Actions.{updated, write_scalar}
use Rattle.source_interp.specs.declared.machine.Machine.{Machine}
use Rattle.source_interp.specs.declared.stop.Cause.TheVariants as cause
use Rattle.source_interp.specs.declared.stop.Stop.{Stop}
use Rattle.source_interp.specs.declared.stop.Stop.TheVariants as stop
use Rattle.source_interp.specs.Answers.{value_or_end}
use Rattle.source_interp.specs.Outside.{Outside}
use Rattle.source_interp.specs.Standing.{Acts}
use Rattle.source_interp.proofs.Acting.{gives_acts, stop_acts, then_acts}

pub updates_value : (g : Setting) (o : Outside) (m : Machine) (u : Update) (k : Scalar) (right old v : Value)
    (line : ℕ) → ((line : ℕ) (s : State) → updated u k right line old s ≡ value_or_end (Some v) line s)
    → Acts g m m o o (Ok v) (updated u k right line old)
updates_value g o m u k right old v line h = record {
  by = λ start s st. record { state = s; holds = st; comes = h line s };
}

pub updates_none : (g : Setting) (o : Outside) (m : Machine) (u : Update) (k : Scalar) (right old : Value)
    (line : ℕ) → ((line : ℕ) (s : State) → updated u k right line old s ≡ value_or_end None line s)
    → Acts {A = Value} g m m o o (Err (stop.Ended cause.Divide line)) (updated u k right line old)
updates_none g o m u k right old line h = record {
  by = λ start s st. record { state = s; holds = st; comes = h line s };
}

pub ruleset updates = (updates_value, updates_none)

-- an update through a pointer, part by part from the last one

module _ (u : Update) (k : Scalar) (f : Fixity) (right : Value) (line : ℕ) (p : Value) where
  -- what follows the new value, the old one, and the place
  abbrev pub written : (place : Place) → (old new : Value) → Run Value
  written place old new = write_scalar k p.word place new >> done (given f old new)

  abbrev pub renewed : (place : Place) → (old : Value) → Run Value
  renewed place old = updated u k right line old >>= written place old

  abbrev pub reread : (place : Place) → Run Value
  reread place = read_scalar k p.word place >>= renewed place

  module _ (g : Setting) (m0 m1 m2 : Machine) (b0 b1 b2 : Outside) (is_judged : Bool) (place_line size : ℕ)
      (same : size ≡ scalar_size k) where
    pub located_then : (place : Place) (r : Result Place Stop) (r' : Result Value Stop) → r ≡ Ok place
        → Acts g m0 m0 b0 b0 r (located is_judged size p place_line) → Acts g m0 m2 b0 b2 r' (reread place)
        → Acts g m0 m2 b0 b2 r' (update k is_judged p place_line (updated u k right line) f)
    located_then place r r' is a b =
        then_acts g m0 m0 m2 b0 b0 b2 r place r' (located is_judged (scalar_size k) p place_line) reread is
        (subst (λ n. Acts g m0 m0 b0 b0 r (located is_judged n p place_line)) same a) b

    pub not_located : (e : Stop) (r : Result Place Stop) (r' : Result Value Stop) → r ≡ Err e → r' ≡ Err e
        → Acts g m0 m0 b0 b0 r (located is_judged size p place_line)
        → Acts g m0 m0 b0 b0 r' (update k is_judged p place_line (updated u k right line) f)
    not_located e r r' is is' a =
        stop_acts g m0 m0 b0 b0 r r' e (located is_judged (scalar_size k) p place_line) reread is is'
        (subst (λ n. Acts g m0 m0 b0 b0 r (located is_judged n p place_line)) same a)

  module _ (g : Setting) (m0 m1 m2 : Machine) (b0 b1 b2 : Outside) (place : Place) where
    pub read_then : (old : Value) (r r' : Result Value Stop) → r ≡ Ok old
        → Acts g m0 m1 b0 b1 r (read_scalar k p.word place) → Acts g m1 m2 b1 b2 r' (renewed place old)
        → Acts g m0 m2 b0 b2 r' (reread place)
    read_then old r r' is a b =
        then_acts g m0 m1 m2 b0 b1 b2 r old r' (read_scalar k p.word place) (renewed place) is a b

    pub not_read : (e : Stop) (r r' : Result Value Stop) → r ≡ Err e → r' ≡ Err e
        → Acts g m0 m1 b0 b1 r (read_scalar k p.word place) → Acts g m0 m1 b0 b1 r' (reread place)
    not_read e r r' is is' a = stop_acts g m0 m1 b0 b1 r r' e (read_scalar k p.word place) (renewed place) is is' a

    pub renewed_then : (old new : Value) (r r' : Result Value Stop) → r ≡ Ok new
        → Acts g m0 m0 b0 b0 r (updated u k right line old) → Acts g m0 m2 b0 b2 r' (written place old new)
        → Acts g m0 m2 b0 b2 r' (renewed place old)
    renewed_then old new r r' is a b =
        then_acts g m0 m0 m2 b0 b0 b2 r new r' (updated u k right line old) (written place old) is a b

    pub not_renewed : (old : Value) (e : Stop) (r r' : Result Value Stop) → r ≡ Err e → r' ≡ Err e
        → Acts g m0 m0 b0 b0 r (updated u k right line old) → Acts g m0 m0 b0 b0 r' (renewed place old)
    not_renewed old e r r' is is' a =
        stop_acts g m0 m0 b0 b0 r r' e (updated u k right line old) (written place old) is is' a

    pub written_then : (old new v : Value) (t : Unit {0}) (r : Result (Unit {0}) Stop) → r ≡ Ok t → v ≡ given f old new
        → Acts g m0 m2 b0 b2 r (write_scalar k p.word place new) → Acts g m0 m2 b0 b2 (Ok v) (written place old new)
    written_then old new v t r is same a =
        then_acts g m0 m2 m2 b0 b2 b2 r t (Ok v) (write_scalar k p.word place new) (λ x. done (given f old new)) is a
        (gives_acts g m2 b2 v (given f old new) same)

    pub not_written : (old new : Value) (e : Stop) (r : Result (Unit {0}) Stop) (r' : Result Value Stop) → r ≡ Err e
        → r' ≡ Err e → Acts g m0 m2 b0 b2 r (write_scalar k p.word place new)
        → Acts g m0 m2 b0 b2 r' (written place old new)
    not_written old new e r r' is is' a =
        stop_acts g m0 m2 b0 b2 r r' e (write_scalar k p.word place new) (λ x. done (given f old new)) is is' a

-- an update of a plain variable

module _ (g : Setting) (m0 m1 : Machine) (o : Outside) (u : Update) (k : Scalar) (f : Fixity) (right : Value)
    (line x : ℕ) (old : Value) (plain : Acts g m0 m0 o o (Ok old) (read_state (plain_value x))) where
  abbrev stored : (old new : Value) → Run Value
  stored old new = set_plain x new >> done (given f old new)

  abbrev changed : (old : Value) → Run Value
  changed old = updated u k right line old >>= stored old

  pub changes_plain : (new v : Value) (r : Result Value Stop) → r ≡ Ok new → v ≡ given f old new
      → Acts g m0 m0 o o r (updated u k right line old) → Acts g m0 m1 o o (Ok tt) (set_plain x new)
      → Acts g m0 m1 o o (Ok v) (update_plain x (updated u k right line) f)
  changes_plain new v r is same a b =
      then_acts g m0 m0 m1 o o o (Ok old) old (Ok v) (read_state (plain_value x)) changed refl plain
      (then_acts g m0 m0 m1 o o o r new (Ok v) (updated u k right line old) (stored old) is a
      (then_acts g m0 m1 m1 o o o (Ok tt) tt (Ok v) (set_plain x new) (λ y. done (given f old new)) refl b
      (gives_acts g m1 o v (given f old new) same)))

  pub changes_none : (e : Stop) (r r' : Result Value Stop) → r ≡ Err e → r' ≡ Err e
      → Acts g m0 m0 o o r (updated u k right line old)
      → Acts g m0 m0 o o r' (update_plain x (updated u k right line) f)
  changes_none e r r' is is' a =
      then_acts g m0 m0 m0 o o o (Ok old) old r' (read_state (plain_value x)) changed refl plain
      (stop_acts g m0 m0 o o r r' e (updated u k right line old) (stored old) is is' a)
