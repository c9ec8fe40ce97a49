-- The state behind what is typed inside functions is laid out (C99 6.2.5, 6.7.2.1).
use Rattle.std.proofs.Common.{◌≡◌, ℕ, Bool, true, false, refl, List}
use Rattle.std.proofs.Common.{Option, if◌then◌else◌}
use Rattle.std.specs.Prelude.{Ok, Err}
use Rattle.c_syntax.specs.Tree.{Expression, Specifiers}
use Rattle.c_tree.specs.declared.c_type.TypeWord.{TypeWord}
use Rattle.c_tree.specs.Statements.{First}
use Rattle.c_faults.specs.declared.fault.Rule.TheVariants.{MisplacedStorage}
use Rattle.c_faults.specs.Answer.{Answer, violates, ◌>>=◌}
use Rattle.c_scope.specs.Declaring.{Declaration, judged as judged_declarator}
use Rattle.c_scope.specs.Environment.{surroundings}
use Rattle.c_scope.specs.Names.{Name}
use Rattle.c_declarator_typing.specs.Declarators.{Shape, built_in}
use Rattle.c_declarator_typing.specs.Specifications.{Specification}
use Rattle.c_typing_state.specs.State.{State, extents, judged, ◌>>>◌}
use Rattle.c_expression_typing.specs.Typed.{specification}
use Rattle.c_unit_typing.specs.Constructs.{Labels, behind_first, case_label, controlling}
use Rattle.c_unit_typing.specs.Constructs.{evaluated, expression_typed, returned}
use Rattle.c_unit_typing.specs.Constructs.{switching_on}
use Rattle.c_unit_typing.specs.Declarations.{stored_once}
use Rattle.c_unit_typing.specs.Units.{definition_of}
use Rattle.typing_laws.specs.Validity.Regular.{are_regular_specifiers, is_regular}
use Rattle.typing_laws.specs.Validity.Sound.{IsFormed}
use Rattle.typing_laws.specs.Declarators.Given.{anything}
use Rattle.typing_laws.specs.Declarations.Binding.{IfDeclared}
use Rattle.typing_laws.proofs.Declarations.Judged.{IsBuilt, answered}
use Rattle.typing_laws.specs.Scopes.Regular.{is_regular_if}
use Rattle.typing_laws.proofs.LaidOut.Chained.{StateLaid}
use Rattle.typing_laws.proofs.LaidOut.Files.{definition_arrays}
use Rattle.typing_laws.proofs.LaidOut.Statements.{controlling_lays, evaluated_lays, expression_lays}
use Rattle.typing_laws.proofs.LaidOut.Statements.{returned_lays}
use Rattle.typing_laws.proofs.LaidOut.Statements.{behind_first_lays, case_lays, switching_lays}
use Rattle.typing_laws.specs.Layouts.Listed.{HasArrays, IfLaidOut, IsLaidOut}
use Rattle.typing_laws.proofs.Layouts.Behind.{specification_behind}
use Rattle.typing_laws.proofs.Layouts.Declared.{declared_by}

-- the expressions of statements

pub step_laid : {A : Type 0} (s : State) → IsLaidOut s → (a : Answer A) → IfLaidOut anything (a >>= λ x. Ok (s, x))
step_laid s laid (Ok x) = (laid, tt)
step_laid s laid (Err f) = tt

state_laid : {A : Type 0} (s : State) (a : Answer (State × A)) → StateLaid anything s a → IfLaidOut anything a
state_laid s (Ok r) h = (h.1, tt)
state_laid s (Err f) h = tt

pub evaluated_laid : (e : Expression) → is_regular e ≡ true → (s : State) → IsFormed s → IsLaidOut s
    → IfLaidOut anything (evaluated e s)
evaluated_laid e c s formed laid = state_laid s (evaluated e s) (evaluated_lays e c s formed laid)

pub expression_laid : (e : Option Expression) → is_regular_if e ≡ true → (s : State) → IsFormed s → IsLaidOut s
    → IfLaidOut anything (expression_typed e s)
expression_laid e c s formed laid = state_laid s (expression_typed e s) (expression_lays e c s formed laid)

pub controlling_laid : (line : ℕ) (e : Expression) → is_regular e ≡ true → (s : State) → IsFormed s → IsLaidOut s
    → IfLaidOut anything (controlling line e s)
controlling_laid line e c s formed laid = state_laid s (controlling line e s) (controlling_lays line e c s formed laid)

pub switching_laid : (line : ℕ) (e : Expression) → is_regular e ≡ true → (s : State) → IsFormed s → IsLaidOut s
    → IfLaidOut anything (switching_on line e s)
switching_laid line e c s formed laid = state_laid s (switching_on line e s) (switching_lays line e c s formed laid)

pub returned_laid : (line : ℕ) (result : List TypeWord) (e : Option Expression) → is_regular_if e ≡ true → (s : State)
    → IsFormed s → IsLaidOut s → IfLaidOut anything (returned line result e s)
returned_laid line result e c s formed laid =
    state_laid s (returned line result e s) (returned_lays line result e c s formed laid)

pub case_laid : (ls : Labels) (line : ℕ) (e : Expression) → is_regular e ≡ true → (s : State) → IsFormed s
    → IsLaidOut s → IfLaidOut anything (case_label ls line e s)
case_laid ls line e c s formed laid = state_laid s (case_label ls line e s) (case_lays ls line e c s formed laid)

pub head_laid : (line : ℕ) (condition step : Option Expression) → is_regular_if condition ≡ true
    → is_regular_if step ≡ true → (x : First) (s : State) → IsFormed s → IsLaidOut s
    → IfLaidOut anything (behind_first line condition step x s)
head_laid line condition step c d x s formed laid =
    state_laid s (behind_first line condition step x s) (behind_first_lays line condition step c d x s formed laid)

-- specifiers

stored_by : (s : State) (spec : Specification) → IsLaidOut s → HasArrays s spec → (b : Bool)
    → IfLaidOut HasArrays
    ((if b then violates MisplacedStorage spec.line else Ok spec) >>= λ x. Ok (s, x))
stored_by s spec laid has true = tt
stored_by s spec laid has false = (laid, has)

stored_behind : (a : Answer (State × Specification)) → IfLaidOut HasArrays a
    → IfLaidOut HasArrays (a >>= λ r. judged (stored_once r.1) r.0)
stored_behind (Ok r) h = stored_by r.0 r.1 h.0 h.1 r.1.has_two_storages
stored_behind (Err f) h = tt

pub stored_laid : (is_alone : Bool) (specs : Specifiers) → are_regular_specifiers specs ≡ true → (s : State)
    → IsFormed s → IsLaidOut s
    → IfLaidOut HasArrays ((specification is_alone specs >>> λ spec. judged (stored_once spec)) s)
stored_laid is_alone specs c s formed laid =
    stored_behind (specification is_alone specs s) (specification_behind is_alone specs c s formed laid)

-- the declarator of a definition

module _ (s : State) (formed : IsFormed s) (laid : IsLaidOut s) (spec : Specification) (has : HasArrays s spec)
    (sh : Shape) (name : Name × ℕ) where
  abbrev defined : Declaration
  defined = definition_of (extents s) spec (built_in s spec sh) name

  defined_by : (a : Answer (Unit {0})) → judged_declarator (surroundings s.environment defined) defined ≡ a
      → IfDeclared defined s (answered defined s name a) → IfLaidOut anything (answered defined s name a)
  defined_by (Ok x) e h =
      let built : IsBuilt defined = record { sized = λ g. h.0.sized; placed = λ g. refl } in
      ((declared_by s formed laid defined built (definition_arrays s spec has sh name) name (Ok x) e h).0, tt)
  defined_by (Err f) e h = tt

  pub defined_laid : (b : Bool)
      → IfDeclared defined s (if b then violates MisplacedStorage spec.line
      else answered defined s name (judged_declarator (surroundings s.environment defined) defined))
      → IfLaidOut anything (if b then violates MisplacedStorage spec.line
      else answered defined s name (judged_declarator (surroundings s.environment defined) defined))
  defined_laid true h = tt
  defined_laid false h = defined_by (judged_declarator (surroundings s.environment defined) defined) refl h
