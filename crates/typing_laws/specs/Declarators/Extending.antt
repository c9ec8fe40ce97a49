-- What typing leaves of a state (C99 6.2.1): the scopes around stay as they are, and in the innermost one an enumerator
-- may be new, or inside a list of parameters one of these.
use Rattle.std.specs.Prelude.{◌≡◌, ℕ, ◌+◌, ◌≤◌, ◌==◌, nat_lt, Bool, true, false, List, [], ◌∷◌, ◌++◌, length}
use Rattle.std.specs.Prelude.{Option, Some, None, Ok, Err}
use Rattle.obj_memory.specs.declared.int_type.IntType.TheVariants.{Int}
use Rattle.obj_memory.specs.Integers.{fit}
use Rattle.c_faults.specs.Answer.{Answer}
use Rattle.c_scope.specs.declared.meaning.Designated.{Designated}
use Rattle.c_scope.specs.declared.meaning.Designated.TheVariants as what
use Rattle.c_scope.specs.declared.meaning.Meaning.{Meaning}
use Rattle.c_scope.specs.declared.meaning.Meaning.TheVariants as meaning
use Rattle.c_scope.specs.Names.{Name, Names, declared}
use Rattle.c_typing_state.specs.State.{Literal, State, extents}
use Rattle.typing_laws.specs.Validity.More.{AreMore}
use Rattle.typing_laws.specs.Validity.Sound.{Extended, IsFormed, IsPending}
use Rattle.typing_laws.specs.Validity.Typed.{HaveMembers}

-- what stands for a name is the same as before, or new with a property
pub data IsSameOr {A : Type 0} (P : A → Type 0) (before behind : Option A) : Type 0 where
  same : behind ≡ before → IsSameOr P before behind
  new : (x : A) → behind ≡ Some x → P x → IsSameOr P before behind

abbrev pub IsNewObject : (in_parameters : Bool) → Designated → Type 0
IsNewObject in_parameters (what.Variable n) = in_parameters ≡ true
IsNewObject in_parameters what = true ≡ false

-- an enumerator, or a parameter
abbrev pub IsNew : (in_parameters : Bool) → Meaning → Type 0
IsNew in_parameters (meaning.Constant w) = fit Int w ≡ w
IsNew in_parameters (meaning.Typedef type) = true ≡ false
IsNew in_parameters (meaning.Named what type) = IsNewObject in_parameters what

-- the names of a scope, and enumerators that are declared behind them

abbrev pub IsEnumerator : Meaning → Type 0
IsEnumerator (meaning.Constant w) = Unit {0}
IsEnumerator (meaning.Typedef type) = true ≡ false
IsEnumerator (meaning.Named what type) = true ≡ false

abbrev pub AreEnumerators : Names Meaning → Type 0
AreEnumerators [] = Unit {0}
AreEnumerators (e ∷ es) = IsEnumerator e.1 × AreEnumerators es

pub record AddsEnumerators (before behind : Names Meaning) : Type 0 where
  pub rest : Names Meaning
  pub is : behind ≡ before ++ rest
  pub each : AreEnumerators rest

-- how many string literals have a number among the static objects, and whether it is below a count

abbrev pub one_if : Bool → ℕ
one_if true = 1
one_if false = 0

abbrev pub literals_at : (number : ℕ) → List Literal → ℕ
literals_at n [] = 0
literals_at n (l ∷ ls) = one_if (n == l.number) + literals_at n ls

abbrev pub below : (number count : ℕ) → ℕ
below n count = one_if (nat_lt n count)

pub record Extends (in_parameters : Bool) (s behind : State) : Type 0 where
  pub more : AreMore (extents s) (extents behind)
  pub longer : length (extents s) ≤ length (extents behind)
  pub literals : Extended s.literals behind.literals
  pub types : Extended s.function_types behind.function_types
  pub objects : behind.objects ≡ s.objects
  pub function : behind.function ≡ s.function
  pub facts : behind.environment.facts ≡ s.environment.facts
  pub entities : behind.environment.entities ≡ s.environment.entities
  pub statics : s.environment.statics ≤ behind.environment.statics
  pub numbers : (n : ℕ)
      → literals_at n behind.literals + below n s.environment.statics
      ≡ literals_at n s.literals + below n behind.environment.statics
  pub variables : in_parameters ≡ false → behind.environment.variables ≡ s.environment.variables
  pub outer : behind.environment.names.outer ≡ s.environment.names.outer
  pub names : (name : Name)
      → IsSameOr (IsNew in_parameters) (declared name s.environment.names.current)
      (declared name behind.environment.names.current)
  pub entries : in_parameters ≡ false
      → AddsEnumerators s.environment.names.current behind.environment.names.current
  pub outer_tags : behind.environment.tags.outer ≡ s.environment.tags.outer
  pub members : HaveMembers s → HaveMembers behind
  pub pending : (n : ℕ) → IsPending s n → IsPending behind n
  pub formed : IsFormed behind
  pub undefined : behind.undefined ≡ None → s.undefined ≡ None

-- what a construct is typed to from a state on has a property, and the state behind it extends that
abbrev pub Extending : {A : Type 0} → (in_parameters : Bool) → State → (gives : State → A → Type 0)
    → Answer (State × A) → Type 0
Extending in_parameters s gives (Ok r) = Extends in_parameters s r.0 × gives r.0 r.1
Extending in_parameters s gives (Err f) = Unit {0}
