-- Constructs that are typed to what is valid, with the structures that are complete behind them (C99 6.5).
use Rattle.std.specs.Prelude.{◌≡◌, ℕ, Some, Ok, Err}
use Rattle.c_tree.specs.Valid.{Scope}
use Rattle.c_faults.specs.Answer.{Answer}
use Rattle.c_rules.specs.Fine.{IsFine}
use Rattle.c_rules.specs.Values.{Value}
use Rattle.c_place_rules.specs.Operands.{Operand}
use Rattle.c_place_rules.specs.Places.{member_view}
use Rattle.c_place_laws.specs.FinePlaces.{IsFineOperand, IsMemberOf}
use Rattle.c_scope.specs.Names.{Name}
use Rattle.c_scope.specs.Structures.{member_of}
use Rattle.c_tree.specs.declared.member.Member.{Member}
use Rattle.c_typing_state.specs.State.{State, extents}

abbrev pub IfTyped : Scope → Answer (State × Operand) → Type 0
IfTyped scope (Ok r) = IsFineOperand scope (extents r.0) r.1
IfTyped scope (Err f) = Unit {0}

abbrev pub IfValued : Scope → Answer (State × Value) → Type 0
IfValued scope (Ok r) = IsFine scope (extents r.0) r.1
IfValued scope (Err f) = Unit {0}

-- each member that is found in a structure or union lies in it
pub record HaveMembers (state : State) : Type 0 where
  pub each : (number : ℕ) (name : Name) (m : Member)
      → member_of number name state.environment.structures.bodies ≡ Some m
      → IsMemberOf (extents state) number (member_view m)
