-- An update through a pointer to a live object is a read, the new value, and a write through the same pointer.
use Rattle.std.proofs.Common.{◌≡◌, ℕ, false, [], ◌∷◌, ◌++◌, Option, Some, None, refl, sym, ap, subst}
use Rattle.behaviours.specs.Shown.{Read}
use Rattle.obj_memory.specs.declared.judgement.Verdict.{Verdict}
use Rattle.obj_memory.specs.declared.value.Place.{Place}
use Rattle.obj_memory.specs.declared.value.Scalar.{Scalar}
use Rattle.obj_memory.specs.declared.value.Value.{Value}
use Rattle.obj_memory.specs.Access.{read_value, scalar_size}
use Rattle.obj_memory.specs.Integers.{fit}
use Rattle.obj_memory.specs.Judgement.{place_in}
use Rattle.obj_memory.specs.Operators.{binary_value}
use Rattle.c_tree.specs.declared.expression.Fixity.{Fixity}
use Rattle.c_tree.specs.declared.expression.Update.{Update}
use Rattle.c_tree.specs.declared.expression.Update.TheVariants.{Arithmetic, Forward, Back}
use Rattle.source_meaning.specs.State.{State, Run, Outcome, Gives, Ended, Paused, on, done}
use Rattle.source_meaning.specs.Actions.{converted_to, given, place_or_stop, read_scalar, store, update}
use Rattle.source_meaning.specs.Actions.{update_in_parts, updated, value_or_divide, write_scalar}
use Rattle.source_meaning.specs.Keeping.{IsDirect}
use Rattle.source_meaning.proofs.Holding.{direct_named}

-- a value is found, or the run ends, and the state is as before
abbrev LeavesState : State → Outcome Value → Type 0
LeavesState s (Gives v z) = z ≡ s
LeavesState s (Ended e z) = z ≡ s
LeavesState s (Paused z) = ⊥

new_value_leaves : (u : Update) (k : Scalar) (right : Value) (line : ℕ) (old : Value) (s : State)
    → LeavesState s (updated u k right line old s)
new_value_leaves (Arithmetic op t) k right line old s = by (binary_value op t (fit t old.word) right.word)
  where
    by : (o : Option ℕ) → LeavesState s (on (value_or_divide o line s) (λ new. done (converted_to k new)))
    by None = refl
    by (Some w) = refl
new_value_leaves (Forward size) k right line old s = refl
new_value_leaves (Back size) k right line old s = refl

module _ (k : Scalar) (p : Value) (line : ℕ) (f : Fixity) (s : State) (d : IsDirect s.objects p (scalar_size k)) where
  abbrev place : Place
  place = place_in s.objects d.object p.word

  abbrev old : Value
  old = read_value k place s.objects

  -- behind the read
  abbrev behind : State
  behind = record s {
    accesses = s.accesses ++ (record { address = p.word; size = scalar_size k; kind = Read } ∷ []);
  }

  -- the new value is written to the place that was found, or through the pointer
  abbrev write_there : Value → Run Value
  write_there new = λ z. on (write_scalar k p.word place new z) (λ _. done (given f old new))

  abbrev write_through : Value → Run Value
  write_through new = λ z. on (store k false p line new z) (λ _. done (given f old new))

  same_write : (new : Value) → write_there new behind ≡ write_through new behind
  same_write new =
      sym (ap (λ w. on (on (place_or_stop w line behind) (λ q. write_scalar k p.word q new))
      (λ _. done (given f old new))) (direct_named s.objects p (scalar_size k) d))

  same_writes : (o : Outcome Value) → LeavesState behind o → on o write_there ≡ on o write_through
  same_writes (Gives new z) e = subst (λ y. write_there new y ≡ write_through new y) (sym e) (same_write new)
  same_writes (Ended e z) h = refl
  same_writes (Paused z) h = absurd h

  pub update_is_in_parts : (u : Update) (right : Value) (at : ℕ)
      → update k false p line (updated u k right at) f s ≡ update_in_parts k p line (updated u k right at) f s
  update_is_in_parts u right at =
      subst
      (λ (w : Verdict). on (place_or_stop w line s) (λ q z. on (read_scalar k p.word q z) (λ old z1.
      on (updated u k right at old z1) (λ new z2. on (write_scalar k p.word q new z2) (λ _. done (given f old new)))))
      ≡ on (on (place_or_stop w line s) (λ q. read_scalar k p.word q)) (λ old z1. on (updated u k right at old z1)
      (λ new z2. on (store k false p line new z2) (λ _. done (given f old new)))))
      (sym (direct_named s.objects p (scalar_size k) d))
      (same_writes (updated u k right at old behind) (new_value_leaves u k right at old behind))
