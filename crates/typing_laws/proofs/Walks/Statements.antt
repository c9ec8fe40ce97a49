-- What statements and the items of blocks keep, they keep together with what each step of typing keeps (C99 6.8).
use Rattle.std.proofs.Common.{refl}
use Rattle.std.specs.Prelude.{Ok, Err}
use Rattle.c_faults.specs.Answer.{Answer}
use Rattle.c_typing_state.specs.State.{State}
use Rattle.c_expression_typing.specs.Constructs.{valued}
use Rattle.c_expression_typing.specs.Typed.{typed}
use Rattle.c_unit_typing.specs.Constructs.{scope_closed}
use Rattle.c_unit_typing.specs.Declarations.{declaration}
use Rattle.c_unit_typing.specs.Files.{File}
use Rattle.typing_laws.proofs.Scopes.Initializers.{IfBehind, ValueWalk}
use Rattle.typing_laws.proofs.Scopes.Statements.{IfFileBehind, Walk}
use Rattle.typing_laws.proofs.Walks.Declarations.{declaration_walks}
use Rattle.typing_laws.proofs.Walks.Recursion.{typed_walks}
use Rattle.typing_laws.proofs.Walks.States.{IfFileWalks, StateWalk, same, states_on}
use Rattle.typing_laws.proofs.Walks.Steps.{valued_walks}

-- both of two relations of states
pub record Both (states holds : State → State → Type 0) (s t : State) : Type 0 where
  pub behind : states s t
  pub keeps : holds s t

-- a relation of files, and one of their states
pub record BothFiles (files : File → File → Type 0) (holds : State → State → Type 0) (f g : File) : Type 0 where
  pub behind : files f g
  pub keeps : holds f.state g.state

state_both : {A : Type 0} (states holds : State → State → Type 0) (s : State) (a : Answer (State × A))
    → IfBehind states s a → IfBehind holds s a → IfBehind (Both states holds) s a
state_both states holds s (Ok r) h g = record { behind = h; keeps = g }
state_both states holds s (Err e) h g = tt

file_both : {A : Type 0} (files : File → File → Type 0) (holds : State → State → Type 0) (f : File)
    (a : Answer (File × A)) → IfFileBehind files f a → IfFileWalks holds f a → IfFileBehind (BothFiles files holds) f a
file_both files holds f (Ok r) h g = record { behind = h; keeps = g }
file_both files holds f (Err e) h g = tt

module _ {states holds : State → State → Type 0} {files : File → File → Type 0} (base : Walk states files)
    (walk : StateWalk (λ n. holds)) where
  both_values : ValueWalk (Both states holds)
  both_values = record {
    same = λ s formed. record { behind = base.values.same s formed; keeps = same walk s };
    on = λ s t u h g. record {
      behind = base.values.on s t u h.behind g.behind;
      keeps = states_on walk s t u h.keeps g.keeps;
    };
    formed = λ s t h. base.values.formed s t h.behind;
    value = λ is e c s formed.
        state_both states holds s (valued (typed is e) s) (base.values.value is e c s formed)
        (valued_walks {walk = walk} (typed is e) s (typed_walks walk is e s)).by;
  }

  pub both_walk : Walk (Both states holds) (BothFiles files holds)
  both_walk = record {
    values = both_values;
    file_same = λ f formed. record { behind = base.file_same f formed; keeps = same walk f.state };
    file_on = λ f g h a b. record {
      behind = base.file_on f g h a.behind b.behind;
      keeps = states_on walk f.state g.state h.state a.keeps b.keeps;
    };
    file_formed = λ f g h. base.file_formed f g h.behind;
    in_file = λ f t h. record { behind = base.in_file f t h.behind; keeps = h.keeps };
    scope = λ f g formed h. record {
      behind = base.scope f g formed h.behind;
      keeps = walk.scope 0 f.state g.state (scope_closed g).state h.keeps
          (record {
            structures = refl;
            outer = refl;
            outer_tags = refl;
            file = _;
            current = refl;
            file_names = _;
            current_names = refl;
          }) refl refl;
    };
    declared = λ in_head d c f formed.
        file_both files holds f (declaration in_head d f) (base.declared in_head d c f formed)
        (declaration_walks walk in_head d f).by;
  }
