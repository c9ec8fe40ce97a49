-- What the typing of initializers, declarations and statements leaves of a state and of a file.
use Rattle.std.specs.Prelude.{◌≡◌, ℕ, ◌≤◌, length, None, Ok, Err}
use Rattle.c_faults.specs.Answer.{Answer}
use Rattle.c_typing_state.specs.State.{State, extents}
use Rattle.c_unit_typing.specs.Files.{File}
use Rattle.typing_laws.specs.Validity.More.{AreMore}
use Rattle.typing_laws.specs.Validity.Sound.{Extended, IsFormed, IsPending}
use Rattle.typing_laws.specs.Validity.Typed.{HaveMembers}

-- the scopes around are the same; structures and unions that are complete stay so
pub record Leads (s behind : State) : Type 0 where
  pub more : AreMore (extents s) (extents behind)
  pub longer : length (extents s) ≤ length (extents behind)
  pub literals : Extended s.literals behind.literals
  pub types : Extended s.function_types behind.function_types
  pub objects : behind.objects ≡ s.objects
  pub function : behind.function ≡ s.function
  pub facts : behind.environment.facts ≡ s.environment.facts
  pub statics : s.environment.statics ≤ behind.environment.statics
  pub variables : s.environment.variables ≤ behind.environment.variables
  pub outer : behind.environment.names.outer ≡ s.environment.names.outer
  pub outer_tags : behind.environment.tags.outer ≡ s.environment.tags.outer
  pub members : HaveMembers s → HaveMembers behind
  pub pending : (n : ℕ) → IsPending s n → IsPending behind n
  pub formed : IsFormed behind
  pub undefined : behind.undefined ≡ None → s.undefined ≡ None

-- variables, static objects and initializers of the file are added to
pub record FileLeads (f behind : File) : Type 0 where
  pub state : Leads f.state behind.state
  pub variables : Extended f.variables behind.variables
  pub statics : Extended f.statics behind.statics
  pub initializers : Extended f.initializers behind.initializers
  pub definitions : behind.definitions ≡ f.definitions
  pub objects : behind.objects ≡ f.objects
  pub taken : behind.taken ≡ f.taken

abbrev pub Leading : {A : Type 0} → File → Answer (File × A) → Type 0
Leading f (Ok r) = FileLeads f r.0
Leading f (Err e) = Unit {0}

-- behind declarations and definitions of a file: complete structures and unions stay so, and what the file has grows
pub record Grows (f behind : File) : Type 0 where
  pub more : AreMore (extents f.state) (extents behind.state)
  pub longer : length (extents f.state) ≤ length (extents behind.state)
  pub literals : Extended f.state.literals behind.state.literals
  pub types : Extended f.state.function_types behind.state.function_types
  pub facts : behind.state.environment.facts ≡ f.state.environment.facts
  pub members : HaveMembers f.state → HaveMembers behind.state
  pub formed : IsFormed behind.state
  pub undefined : behind.state.undefined ≡ None → f.state.undefined ≡ None
  pub statics : Extended f.statics behind.statics
  pub initializers : Extended f.initializers behind.initializers
  pub definitions : Extended f.definitions behind.definitions
  pub objects : behind.objects ≡ f.objects

abbrev pub Growing : {A : Type 0} → File → Answer (File × A) → Type 0
Growing f (Ok r) = Grows f r.0
Growing f (Err e) = Unit {0}

-- a file that is accepted
abbrev pub IfEnds : Answer File → Type 0
IfEnds (Ok f) = IsFormed f.state × HaveMembers f.state
IfEnds (Err e) = Unit {0}
