-- Of equal designators the same is typed.
use Rattle.std.proofs.Common.{◌≡◌, Result, subst}
use Rattle.c_syntax.specs.Tree.{Designator}
use Rattle.c_faults.specs.declared.fault.Refusal.{Refusal}
use Rattle.c_initializer_rules.specs.Initializing.{Initializing}
use Rattle.c_typing_state.specs.State.{State, Types}
use Rattle.c_unit_typing.specs.Initializers.{designated_once}

pub designator_typed : (x y : Designator) (i j : Initializing) (s new : State) (result : Result (Unit {0}) Refusal)
    → x ≡ y → Types (λ done. j) new result (designated_once x i s)
    → Types (λ done. j) new result (designated_once y i s)
designator_typed x y i j s new result same types =
    subst (λ z. Types (λ done. j) new result (designated_once z i s)) same types
