-- What a construct of a function is typed to, and the file behind it.
use Rattle.std.specs.Prelude.{ℕ, List, [], Ok, Err}
use Rattle.c_tree.specs.declared.c_type.TypeWord.{TypeWord}
use Rattle.c_tree.specs.Valid.{Scope}
use Rattle.c_faults.specs.Answer.{Answer}
use Rattle.c_unit_typing.specs.Files.{File}
use Rattle.typing_laws.specs.Validity.Steps.{Structures}
use Rattle.typing_laws.specs.Scopes.Leaving.{FileLeads}
use Rattle.typing_laws.specs.Layouts.Listed.{IsLaidOut}
use Rattle.program_laws.specs.Bodies.Standing.{AreLinked, AreOpen, AreVariables, Ends, EntitiesLead, Numbers}
use Rattle.program_laws.specs.Bodies.Standing.{Stands}

-- It makes variables, some of them in the innermost block. Where names stand for something of the kind of their type
-- before it, and the scope of the function has what the file has behind it and these variables of the block, what it is
-- typed to has a property, names stand for something of the kind of their type behind it, and the variables that it
-- makes hold scalars or are objects. The state behind it is laid out.
pub record Typed {A : Type 0} (result : List TypeWord) (made opens : A → List ℕ) (p : Scope → A → Type 0) (file : File)
    (r : File × A) : Type 0 where
  pub leads : FileLeads file r.0
  pub numbers : Numbers (made r.1) file r.0
  pub entities : EntitiesLead file.state.environment r.0.state.environment
  pub linked : AreLinked r.0.state.environment
  pub laid : IsLaidOut r.0.state
  pub sound : (scope : Scope) (last : Structures) → Stands scope last file.state → Ends scope last result r.0
      → AreOpen scope (opens r.1)
      → p scope r.1 × (Stands scope last r.0.state × AreVariables scope (made r.1))

abbrev pub IfTyped : {A : Type 0} → (result : List TypeWord) → (made opens : A → List ℕ) → (Scope → A → Type 0)
    → File → Answer (File × A) → Type 0
IfTyped result made opens p f (Ok r) = Typed result made opens p f r
IfTyped result made opens p f (Err e) = Unit {0}

-- what makes no variables
abbrev pub none : {A : Type 0} → A → List ℕ
none x = []
