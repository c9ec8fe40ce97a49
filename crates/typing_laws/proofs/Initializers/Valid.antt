-- What an initializer stores is valid (C99 6.7.8).
use Rattle.std.proofs.Common.{◌≡◌, true, refl}
use Rattle.std.proofs.lemmas.Bool.{and_from}
use Rattle.std.specs.Prelude.{Ok, Err}
use Rattle.c_syntax.specs.Tree.{Initializer}
use Rattle.c_tree.specs.Kinds.{is_value}
use Rattle.c_tree.specs.Tree.{kind_of}
use Rattle.c_tree.specs.Valid.{Scope, is_valid}
use Rattle.c_faults.specs.Answer.{Answer}
use Rattle.c_current_object.specs.declared.subobject.Subobject.{Subobject}
use Rattle.c_initializer_rules.specs.Initializing.{Initializing}
use Rattle.c_typing_state.specs.State.{State, extents}
use Rattle.c_expression_typing.specs.Typed.{typed}
use Rattle.c_unit_typing.specs.Initializers.{initialized}
use Rattle.typing_laws.specs.Validity.Sound.{Sound}
use Rattle.typing_laws.specs.Validity.Steps.{Structures}
use Rattle.typing_laws.specs.Scopes.Regular.{is_regular_initializer}
use Rattle.typing_laws.specs.Initializers.Cursor.{Every}
use Rattle.typing_laws.specs.Initializers.Giving.{ExpressionsKeep, Giving, IfKept}
use Rattle.typing_laws.specs.Initializers.Initialized.{IsValidPart}
use Rattle.typing_laws.proofs.Initializers.Placings.{any_objects, placing_steps, any_object}
use Rattle.typing_laws.proofs.Initializers.Recursion.{initialized_given}
use Rattle.typing_laws.proofs.Initializers.Steps.{KeepsParts, keeps_every}

pub keeps_valid : (scope : Scope) (es : Structures) (P : Subobject → Type 0)
    → KeepsParts true scope es P (Every (IsValidPart scope))
keeps_valid scope es P =
    keeps_every true scope es P (IsValidPart scope)
    (λ o e is fine. and_from (is_valid scope e) (is_value (kind_of e)) fine.valid fine.value)
    (λ o spelled is chars. refl)

pub nothing_kept : ExpressionsKeep (λ s. Unit {0})
nothing_kept = record { each = λ is e c s formed. by s (typed is e s) }
  where
    by : {A : Type 0} (s : State) (a : Answer (State × A)) → IfKept (λ s. Unit {0}) s a
    by s (Ok r) = λ k. tt
    by s (Err f) = tt

to_sound : (scope : Scope) (last : Structures) (s : State) (given : Structures → Type 0)
    (gives : Structures → Initializing → Type 0) (less : Structures → Type 0)
    (more : Structures → Initializing → Type 0) (a : Answer (State × Initializing))
    → ((es : Structures) → given es → less es) → ((es : Structures) (i : Initializing) → more es i → gives es i)
    → Giving true scope last (λ s. Unit {0}) s less more a → Sound scope last s given gives a
to_sound scope last s given gives less more (Ok r) h g is = λ formed.
    let is = is formed in
    (is.keeps, λ knows x covers. g (extents r.0) r.1 (is.has (knows, covers) tt (h (extents s) x)))
to_sound scope last s given gives less more (Err f) h g is = tt

pub initialized_valid : (scope : Scope) (last : Structures) (x : Initializer) → is_regular_initializer x ≡ true
    → (i : Initializing) (s : State)
    → Sound scope last s (λ es. Every (IsValidPart scope) i.parts) (λ es j. Every (IsValidPart scope) j.parts)
    (initialized x i s)
initialized_valid scope last x c i s =
    to_sound scope last s _ _ _ _ (initialized x i s)
    (λ es h. record { objects = any_objects i; parts = h }) (λ es j h. h.parts)
    (initialized_given true scope last (λ s. Unit {0}) nothing_kept _ _ _ _
    (placing_steps true scope (λ s. Unit {0}) (λ es o. Unit {0}) (λ es. Every (IsValidPart scope)) (λ o es more h x. tt)
    (λ ps es more h x. x) (λ s k o n x. any_object _) (λ es. keeps_valid scope es (λ o. Unit {0}))) 0 x c i s)
